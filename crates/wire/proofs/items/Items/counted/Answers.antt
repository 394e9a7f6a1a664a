use Rattle.wire.proofs.Rows.{count_next, count_end}
use Rattle.wire.proofs.items.Items.counted.Goals as goal

pub loop-preserved : goal.loop-preserved
loop-preserved g c = count_next g.X.Item.format g.X.Item.exact c.args.count c.loop.counter c.args.bytes.now c.loop.rest.now (g.X.Item.view c.in_ok-behind.field-0-0) c.in_ok-behind.behind.now c.loop-test.true (c.in_ok-behind.ensures {u = tt}) c.loop.invariant

pub returns : goal.returns
returns g c = rw (c.new.ensures, c.split_at.ensures.front, c.split_at.ensures.back) (count_end g.X.Item.format g.X.Item.exact c.args.count c.loop.counter c.args.bytes.now c.loop.rest.now c.loop-test.false c.loop.invariant)
