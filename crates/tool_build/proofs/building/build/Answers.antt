use Rattle.tool_build.proofs.StatusLaws.{answered, no_absent, no_plan_refused, no_shelf_fault}
use Rattle.tool_build.proofs.building.build.Goals as goal

pub returns-in-Ok : goal.returns-in-Ok
returns-in-Ok g c =
    let s = c.put_broadcast.result in
    let held = g.H.Shelf.held c.args.shelf.now in
    let found = c.in-Ok.ensures.found in
    let put = c.put_broadcast.ensures in
    let is = put.answers in
    record {
      does = record {
        done = put.done held found;
        absent = no_absent s _ is;
        no_plan = λ none. absurd (c.in-Ok.ensures.no_plan none);
        no_file = λ name told lacks. absurd (c.in-Ok.ensures.no_file name told lacks);
        plan_refused = no_plan_refused s _ is;
        build_refused = put.build_refused held found;
        early = put.early;
        write_fault = put.write_fault held found;
        answers = answered s is;
        complete = λ _ _ made_none out_none _ none. put.complete held found made_none out_none none;
        files = record {
          absent_cause = no_absent s _ is;
          fault_cause = no_shelf_fault s _ is;
          held = c.in-Ok.ensures.unchanged;
          faults_later = c.in-Ok.ensures.faults;
          absences_later = c.in-Ok.ensures.absences;
        };
        made_later = put.made_later;
        out_later = put.out_later;
      };
    }
