use Rattle.std.proofs.Common.{◌+◌, ◌≤◌, arith}
use Rattle.std.proofs.Math.Nat.{mul-le-mul_left}
use Rattle.flash_remap.specs.Layout.{blocks_in}
use Rattle.flash_remap.specs.Shape.{geometry}
use Rattle.flash_remap.proofs.layout.Layout.place.Goals as goal

pub returns-clause-inside : goal.returns-clause-inside
returns-clause-inside c =
    let fits : c.args.block + 1 ≤ blocks_in (geometry c.args.self) = omega arith in
    omega (arith, mul-le-mul_left c.args.self.block_size fits)
