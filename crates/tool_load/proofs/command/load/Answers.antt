use Rattle.std.proofs.Common.{inl, inr, refl}
use Rattle.ssu_io.specs.Seen.{sink_seen}
use Rattle.tool_load.specs.Printed.{PutsAll, PutsPart}
use Rattle.tool_load.proofs.SearchLaws.{no_group_yet}
use Rattle.tool_load.proofs.ComingLaws.{comes_at_packet, comes_at_end}
use Rattle.tool_load.proofs.ToldLaws.{answered, no_memory_fault, no_read_fault, not_too_long, some_verdict, told_then, unfailed, write_fault_then}
use Rattle.tool_load.proofs.command.load.Goals as goal

pub collect-requires-clause-none : goal.collect-requires-clause-none
collect-requires-clause-none g c = no_group_yet

pub returns-in-Verdict : goal.returns-in-Verdict
returns-in-Verdict g c =
    let left = g.A.Source.left in
    let d = c.conclude in
    let s = d.result in
    let made = sink_seen g.W.Sink c.args.made.now d.new.made in
    let out = sink_seen g.T.Sink c.args.out.now d.new.out in
    let is = d.ensures.answers in
    record {
      does = record {
        verdict = told_then s _ _ d.ensures.told (λ v puts.
            comes_at_packet c.args.pid (left c.args.air.now) (left c.collect.new.air) c.collect.new.progress v
            (λ sections. PutsAll sections v made out) (c.in-Verdict.ensures.reached refl) puts (λ sections p. (p.image, p.comes)));
        no_memory = no_memory_fault s _ is;
        read_fault = no_read_fault s _ is;
        read_cause = no_read_fault s _ is;
        too_long = not_too_long s _ is;
        write_fault = write_fault_then s _ _ d.ensures.write_fault (λ p. (
          p.0,
          comes_at_packet c.args.pid (left c.args.air.now) (left c.collect.new.air) c.collect.new.progress p.0
              (λ sections. PutsPart sections p.0 made out) (c.in-Verdict.ensures.reached refl) p.1 (λ sections q. (q.image, q.comes)),
        ));
        write_cause = d.ensures.write_cause;
        made_kept = d.ensures.kept;
        out_kept = some_verdict s _ is;
        answers = answered s is;
        complete = λ _ made_none out_none fault. unfailed s _ is d.ensures.write_cause (λ rose. elim rose [ inl a ↦ made_none a | inr b ↦ out_none b ]) fault;
        air_later = c.collect.ensures.later;
        made_later = d.ensures.made_later;
        out_later = d.ensures.out_later;
      };
    }

pub returns-in-Input : goal.returns-in-Input
returns-in-Input g c =
    let left = g.A.Source.left in
    let d = c.conclude-in-Input in
    let s = d.result in
    let made = sink_seen g.W.Sink c.args.made.now d.new.made in
    let out = sink_seen g.T.Sink c.args.out.now d.new.out in
    let is = d.ensures.answers in
    record {
      does = record {
        verdict = told_then s _ _ d.ensures.told (λ v puts.
            comes_at_end c.args.pid (left c.args.air.now) (left c.collect.new.air) c.collect.new.progress v
            (λ sections. PutsAll sections v made out) (c.in-Input.ensures.input refl) (c.in-Input.ensures.end refl) puts (λ sections p. (p.image, p.comes)));
        no_memory = no_memory_fault s _ is;
        read_fault = no_read_fault s _ is;
        read_cause = no_read_fault s _ is;
        too_long = not_too_long s _ is;
        write_fault = write_fault_then s _ _ d.ensures.write_fault (λ p. (
          p.0,
          comes_at_end c.args.pid (left c.args.air.now) (left c.collect.new.air) c.collect.new.progress p.0
              (λ sections. PutsPart sections p.0 made out) (c.in-Input.ensures.input refl) (c.in-Input.ensures.end refl) p.1 (λ sections q. (q.image, q.comes)),
        ));
        write_cause = d.ensures.write_cause;
        made_kept = d.ensures.kept;
        out_kept = some_verdict s _ is;
        answers = answered s is;
        complete = λ _ made_none out_none fault. unfailed s _ is d.ensures.write_cause (λ rose. elim rose [ inl a ↦ made_none a | inr b ↦ out_none b ]) fault;
        air_later = c.collect.ensures.later;
        made_later = d.ensures.made_later;
        out_later = d.ensures.out_later;
      };
    }
