-- What a layout stands for.
use Rattle.flash_remap.specs.Layout.{Geometry}
use Rattle.flash_remap.specs.declared.layout.Layout.{Layout}

abbrev pub geometry : Layout → Geometry
geometry layout = record { logical = layout.logical; spares = layout.spares; block_len = layout.block_size }
