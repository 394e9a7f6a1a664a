use Rattle.std.proofs.Common.{ap, arith}
use Rattle.std.specs.List.{concat}
use Rattle.head_mux.proofs.Underway.{under_step, under_failed, on_any_err}
use Rattle.head_mux.proofs.packing.put_section.Goals as goal

pub loop-packet-preserved : goal.loop-packet-preserved
loop-packet-preserved g c =
    record {
      under = under_step (g.W.Sink.contents c.args.sink.now) (g.W.Sink.contents c.loop-packet.sink) (g.W.Sink.contents c.put.new.sink) _ _ _ _ _ _ _
          (ap concat c.in-Some.ensures.steps) c.loop-packet.invariant.under c.in_ok-put.ensures.ok;
      later = omega (arith, c.loop-packet.invariant.later, c.put.ensures.cause.later);
    }

pub returns-in_err-put-clause-failed : goal.returns-in_err-put-clause-failed
returns-in_err-put-clause-failed g c =
    on_any_err c.from_residual.result
    (under_failed (g.W.Sink.contents c.args.sink.now) (g.W.Sink.contents c.loop-packet.sink) (g.W.Sink.contents c.put.new.sink) _ _ _ _ _ _
    (ap concat c.in-Some.ensures.steps) c.loop-packet.invariant.under c.in_err-put.ensures.failed)
