use Rattle.ssu_io.specs.Seen.{sink_seen}
use Rattle.tool_sample.proofs.TellingLaws.{told}
use Rattle.tool_sample.proofs.sampling.sample.Goals as goal

pub returns-in-Ok : goal.returns-in-Ok
returns-in-Ok g c =
    let out = sink_seen g.T.Sink c.args.out.now c.print.new.out in
    let said = c.print.ensures in
    record {
      does = told c.args.number c.print.result out c.in-Ok.findings.outcome c.in-Ok.ensures.outcome said.done said.write_fault said.write_cause
          said.answers said.out_later;
    }
