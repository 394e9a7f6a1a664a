use Rattle.std.proofs.Common.{◌∙◌}
use Rattle.ts_crc.proofs.Sixteen.{after_group}
use Rattle.ts_crc.proofs.steps.after_sixteens.Goals as goal

pub loop-rest-preserved : goal.loop-rest-preserved
loop-rest-preserved c =
    after_group c.loop-rest.now c.with_sixteen-now.result c.loop-rest.rest.now c.with_sixteen-now.ensures
    ∙ c.loop-rest.invariant
