use Rattle.std.proofs.Common.{sym}
use Rattle.wire.proofs.ItemLaws.{shorter}
use Rattle.wire.proofs.Rows.{walk_start, walk_next, walk_end, walk_breaks}
use Rattle.wire.proofs.items.Items.to_end.Goals as goal

pub loop-rest-init : goal.loop-rest-init
loop-rest-init g c = walk_start g.X.Item.format c.args.bytes.now

pub loop-rest-smaller : goal.loop-rest-smaller
loop-rest-smaller g c = shorter g.X.Item.format g.X.Item.exact c.loop-rest.rest.now (g.X.Item.view c.in_ok-behind.field-0-0, c.in_ok-behind.behind.now) (c.in_ok-behind.ensures {u = tt})

pub loop-rest-preserved : goal.loop-rest-preserved
loop-rest-preserved g c = walk_next g.X.Item.format g.X.Item.exact c.args.bytes.now c.loop-rest.rest.now (g.X.Item.view c.in_ok-behind.field-0-0) c.in_ok-behind.behind.now (c.in_ok-behind.ensures {u = tt}) c.loop-rest.invariant

pub returns-in_err-behind : goal.returns-in_err-behind
returns-in_err-behind g c = rw c.from_residual.ensures (walk_breaks g.X.Item.format c.args.bytes.now c.loop-rest.rest.now g.X.Item.exact (sym (c.loop-rest-test.ensures {u = tt})) (c.in_err-behind.ensures {u = tt}) c.loop-rest.invariant)

pub returns : goal.returns
returns g c = rw c.new.ensures (walk_end g.X.Item.format c.args.bytes.now c.loop-rest.rest.now g.X.Item.exact (sym (c.loop-rest-test.ensures {u = tt})) c.loop-rest.invariant)
