use Rattle.std.proofs.Common.{arith}
use Rattle.tool_flash.proofs.BlankLemmas.{blocks_cut, blocks_join, on_err}
use Rattle.tool_flash.proofs.blanking.put_blocks.Goals as goal

pub returns-in_err-put_block-clause-prefix : goal.returns-in_err-put_block-clause-prefix
returns-in_err-put_block-clause-prefix g c =
    let got = g.W.Sink.contents in
    let k = c.loop-k._k in
    on_err _ (blocks_cut (got c.args.made.now) (got c.loop-k.made) (got c.put_block.new.made) k 1 c.args.blocks
    (omega (arith, c.loop-k-test.true)) c.loop-k.invariant.put c.in_err-put_block.ensures.prefix)

pub loop-k-preserved : goal.loop-k-preserved
loop-k-preserved g c =
    let got = g.W.Sink.contents in
    let k = c.loop-k._k in
    record {
      put = blocks_join (got c.args.made.now) (got c.loop-k.made) (got c.put_block.new.made) k 1 c.loop-k.invariant.put c.in_ok-put_block.ensures.whole;
      faults = omega (arith, c.loop-k.invariant.faults, c.put_block.ensures.cause.later);
    }
