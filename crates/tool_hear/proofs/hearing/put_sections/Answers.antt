use Rattle.std.proofs.Common.{arith}
use Rattle.std.proofs.lemmas.Result.{err_from_is_err_and}
use Rattle.ts_input.proofs.Pieces.{pieces_step, pieces_failed}
use Rattle.tool_hear.proofs.hearing.put_sections.Goals as goal

pub returns-in_err-put-clause-failed : goal.returns-in_err-put-clause-failed
returns-in_err-put-clause-failed g c =
    let got = g.T.Sink.contents in
    let p = err_from_is_err_and c.from_residual.result c.from_residual.ensures.1 in
    rw p.1
    (pieces_failed (got c.args.out.now) (got c.loop-k.out) (got c.put.new.sink) c.args.waiting.now c.loop-k.waiting c.get.result.now c.args.each.now c.loop-k.k
    c.loop-k.invariant.moves c.get.ensures.bytes c.in_err-put.ensures.failed)

pub loop-k-preserved : goal.loop-k-preserved
loop-k-preserved g c =
    let got = g.T.Sink.contents in
    record {
      moves = pieces_step (got c.args.out.now) (got c.loop-k.out) (got c.put.new.sink) c.args.waiting.now c.loop-k.waiting c.put.new.self c.get.result.now c.args.each.now c.loop-k.k
          c.loop-k.invariant.moves c.get.ensures.bytes c.in_ok-put.ensures.ok;
      later = omega (arith, c.loop-k.invariant.later, c.put.ensures.cause.later);
    }
