use Rattle.std.proofs.Common.{arith}
use Rattle.ssu_route.proofs.FoundLists.{agree_all, agree_at, differ_at, longer_differ}
use Rattle.ssu_route.proofs.found.are_same.Goals as goal

pub returns-then-one-other : goal.returns-then-one-other
returns-then-one-other c = longer_differ c.args.one.now c.args.other.now c.if-one-other.true

pub returns-then-not-is_same : goal.returns-then-not-is_same
returns-then-not-is_same c =
    differ_at c.args.one.now c.args.other.now c.loop-i.i _ _ c.is_same.result c.loop-i-test.true c.if-one-other.false c.loop-i.invariant c.is_same.ensures c.if-not-is_same.true

pub loop-i-preserved : goal.loop-i-preserved
loop-i-preserved c =
    agree_at c.args.one.now c.args.other.now c.loop-i.i _ _ c.is_same.result c.loop-i-test.true c.if-one-other.false c.loop-i.invariant c.is_same.ensures c.if-not-is_same.false

pub returns : goal.returns
returns c = agree_all c.args.one.now c.args.other.now c.loop-i.i (omega arith) c.if-one-other.false c.loop-i.invariant
