use Rattle.std.proofs.Common.{arith}
use Rattle.flash_layout.specs.Shape.{geometry}
use Rattle.flash_layout.proofs.Places.{area_is, area_within}
use Rattle.flash_layout.proofs.layout.Shape.journal_place.Goals as goal

pub returns-clause-inside : goal.returns-clause-inside
returns-clause-inside c =
    let g = geometry c.args.self in
    let is = area_is g c.requires.limits c.requires.room in
    let within = area_within g c.requires.limits c.args.area c.requires.area in
    omega (arith, is, within, c.journal_block.ensures.value)
