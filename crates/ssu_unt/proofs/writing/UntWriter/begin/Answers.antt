use Rattle.std.proofs.Common.{◌<◌, ◌^◌, length, subst, arith}
use Rattle.ssu_unt.specs.Written.{Draft}
use Rattle.ssu_unt.proofs.writing.UntWriter.begin.Goals as goal

pub returns-clause-small : goal.returns-clause-small
returns-clause-small c =
    let below : length c.self.inside.pairs.items < 2 ^ 16 = omega (arith, c.self.invariant.2) in
    subst (λ (w : Draft). length w.pairs < 2 ^ 16) c.self.view_is below
