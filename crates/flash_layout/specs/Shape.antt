-- The geometry of a shape.
use Rattle.flash_layout.specs.Layout.{Geometry}
use Rattle.flash_layout.specs.declared.layout.Shape.{Shape}

abbrev pub geometry : Shape → Geometry
geometry shape = record { blocks = shape.blocks; block_len = shape.block_size }
