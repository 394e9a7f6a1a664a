use Rattle.std.proofs.Common.{arith}
use Rattle.std.proofs.Math.Nat.{mul-le-mul_left}
use Rattle.flash_layout.proofs.layout.Shape.area_place.Goals as goal

pub returns-clause-inside : goal.returns-clause-inside
returns-clause-inside c = omega (arith, mul-le-mul_left c.args.self.block_size c.area_block.ensures.inside)
