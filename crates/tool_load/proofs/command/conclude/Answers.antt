use Rattle.std.proofs.Common.{ℕ, List}
use Rattle.ssu_answer.specs.declared.verdict.Verdict.{Verdict}
use Rattle.ssu_io.specs.Bytes.{Gains}
use Rattle.ssu_io.specs.Seen.{sink_seen}
use Rattle.tool_load.specs.Printed.{PutsAll, made_of}
use Rattle.tool_load.specs.Progress.{StandsFor, bytes_in}
use Rattle.tool_load.proofs.ToldLaws.{told}
use Rattle.tool_load.proofs.command.conclude.Goals as goal

pub returns-in-Ok-clause-told : goal.returns-in-Ok-clause-told
returns-in-Ok-clause-told g c =
    let v = c.verdict_of-verdict.result in
    let made = sink_seen g.W.Sink c.args.made.now c.put_verdict.new.made in
    let out = sink_seen g.T.Sink c.args.out.now c.put_verdict.new.out in
    let makes : Gains made.got made.got_after (made_of v (bytes_in c.args.progress.now)) = rw (← c.bytes_of.ensures) c.in-Ok.ensures.makes in
    told v c.status_of.result (λ (told : Verdict). (sections : List (List ℕ)) → StandsFor c.args.progress.now sections → PutsAll sections told made out) c.status_of.ensures
    (λ sections stands. record {
      image = bytes_in c.args.progress.now;
      comes = c.verdict_of-verdict.ensures.verdict sections stands;
      makes = makes;
      prints = c.in-Ok.ensures.prints;
    })
