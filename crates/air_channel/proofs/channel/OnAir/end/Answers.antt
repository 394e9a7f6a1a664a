use Rattle.std.proofs.lemmas.Result.{err_from_is_err_and}
use Rattle.std.specs.List.{concat}
use Rattle.air_channel.specs.Passing.{written_last}
use Rattle.air_channel.proofs.PassLemmas.{flush_failed}
use Rattle.air_channel.proofs.channel.OnAir.end.Goals as goal

pub returns-in_err-flush-clause-failed : goal.returns-in_err-flush-clause-failed
returns-in_err-flush-clause-failed g c =
    let got = g.W.Sink.contents in
    let p = err_from_is_err_and c.from_residual-in_err-flush.result c.from_residual-in_err-flush.ensures.1 in
    rw p.1
    (flush_failed (got c.args.sink.now) (got c.release.new.sink) (got c.flush.new.sink) c.args.self.now.waiting (concat (written_last c.args.script.now c.args.n c.args.self.now.kept)) c.release.new.self.waiting
    c.in_ok-release.ensures.ok c.in_err-flush.ensures.failed)
