use Rattle.std.proofs.Common.{◌+◌, ap, arith, sym, ◌∙◌}
use Rattle.std.proofs.lemmas.Result.{err_from_is_err_and}
use Rattle.air_channel.proofs.Copies.{copies_failed, copies_step}
use Rattle.air_channel.proofs.channel.OnAir.write.Goals as goal

pub returns-in_err-put-clause-failed : goal.returns-in_err-put-clause-failed
returns-in_err-put-clause-failed g c =
    let got = g.W.Sink.contents in
    let p = err_from_is_err_and c.from_residual.result c.from_residual.ensures.1 in
    rw p.1
    (copies_failed (got c.args.sink.now) (got c.loop.sink) (got c.put.new.sink) c.args.self.now.waiting c.loop.self.waiting c.args.packet.now c.loop.counter c.args.copies
    c.loop.invariant.moves c.loop-test.true c.in_err-put.ensures.failed)

pub loop-preserved : goal.loop-preserved
loop-preserved g c =
    let got = g.W.Sink.contents in
    record {
      moves = copies_step (got c.args.sink.now) (got c.loop.sink) (got c.put.new.sink) c.args.self.now.waiting c.loop.self.waiting c.put.new.self c.args.packet.now c.loop.counter
          c.loop.invariant.moves c.in_ok-put.ensures.ok;
      kept = c.loop.invariant.kept;
      count = omega (arith, c.loop.invariant.count);
      later = omega (arith, c.loop.invariant.later, c.put.ensures.cause.later);
    }
