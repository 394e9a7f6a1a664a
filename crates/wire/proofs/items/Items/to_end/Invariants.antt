use Rattle.std.proofs.Common.{length}
use Rattle.wire.proofs.Rows.{IsWalked}
use Rattle.wire.proofs.items.Items.to_end.Given as goal

abbrev pub invariant-loop-rest : goal.invariant-loop-rest
invariant-loop-rest g l = IsWalked g.X.Item.format l.bytes l.rest

abbrev pub decreases-loop-rest : goal.decreases-loop-rest
decreases-loop-rest g l = length l.rest
