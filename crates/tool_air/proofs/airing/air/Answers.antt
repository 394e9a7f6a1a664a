use Rattle.tool_air.proofs.StatusLaws.{answered, no_absent, no_plan_refused, no_shelf_fault, not_early}
use Rattle.tool_air.proofs.airing.air.Goals as goal

pub returns-in-Ok : goal.returns-in-Ok
returns-in-Ok g c =
    let s = c.put_aired.result in
    let held = g.H.Shelf.held c.args.shelf.now in
    let found = c.in-Ok.ensures.found in
    let put = c.put_aired.ensures in
    let is = put.answers in
    record {
      does = record {
        done = put.done held found;
        end = put.end;
        absent = no_absent s _ is;
        no_script = λ none. absurd (c.in-Ok.ensures.no_script none);
        plan_refused = no_plan_refused s _ is;
        early = λ early. absurd (not_early s is early);
        read_fault = put.read_fault held found;
        read_cause = put.read_cause;
        too_long = put.too_long held found;
        write_fault = put.write_fault held found;
        answers = answered s is;
        complete = λ _ _ air_none made_none out_none _. put.complete air_none made_none out_none;
        files = record {
          absent_cause = no_absent s _ is;
          fault_cause = no_shelf_fault s _ is;
          held = c.in-Ok.ensures.unchanged;
          faults_later = c.in-Ok.ensures.faults;
          absences_later = c.in-Ok.ensures.absences;
        };
        air_later = put.air_later;
        made_later = put.made_later;
        out_later = put.out_later;
      };
    }
