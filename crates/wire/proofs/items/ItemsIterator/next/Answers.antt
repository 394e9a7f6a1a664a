use Rattle.std.proofs.Common.{rules}
use Rattle.wire.proofs.ItemLaws.{items_none, items_next}
use Rattle.wire.proofs.items.ItemsIterator.next.Goals as goal

pub returns-in_err-item-clause-steps : goal.returns-in_err-item-clause-steps
returns-in_err-item-clause-steps g c = let e = items_none g.X.Item.format c.args.self.now (rw c.self.view_is at (c.in_err-item.ensures {u = tt})) in rw c.from_residual.ensures (e, e)

pub returns-clause-steps : goal.returns-clause-steps
returns-clause-steps g c = items_next g.X.Item.format g.X.Item.exact c.args.self.now (g.X.Item.view c.in_ok-item.item) c.in_ok-item.behind.now (rw c.self.view_is at (c.in_ok-item.ensures {u = tt}))

pub returns-clause-goes : goal.returns-clause-goes
returns-clause-goes g c = let e = items_next g.X.Item.format g.X.Item.exact c.args.self.now (g.X.Item.view c.in_ok-item.item) c.in_ok-item.behind.now (rw c.self.view_is at (c.in_ok-item.ensures {u = tt})) in search rules
