use Rattle.wire.proofs.Rows.{IsCounted}
use Rattle.wire.proofs.items.Items.counted.Given as goal

abbrev pub invariant-loop : goal.invariant-loop
invariant-loop g l = IsCounted g.X.Item.format l.count l.counter l.bytes l.rest
