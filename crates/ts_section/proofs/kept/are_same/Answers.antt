use Rattle.std.proofs.Common.{arith}
use Rattle.ts_section.proofs.SamePids.{front_more_same, front_all_same}
use Rattle.ts_section.proofs.kept.are_same.Goals as goal

pub loop-k-preserved : goal.loop-k-preserved
loop-k-preserved c =
    front_more_same c.args.one.now c.args.other.now c.loop-k.k (omega arith) (omega arith) c.loop-k.invariant c.index-one-k.result c.index-other-k.result (grind arith)

pub returns : goal.returns
returns c = λ same. front_all_same c.args.one.now c.args.other.now c.loop-k.k (omega arith) (omega arith) c.loop-k.invariant
