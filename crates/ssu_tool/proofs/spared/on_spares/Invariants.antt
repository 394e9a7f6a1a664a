use Rattle.flash_remap.specs.Seen.{geometry_of, inner_of, left_of}
use Rattle.ssu_tool.proofs.spared.on_spares.Given as goal

-- the flash as it was opened
abbrev pub ghosts-served : goal.ghosts-served
ghosts-served g a = record {
  geometry = geometry_of a.remap;
  count = g.F.Flash.faults (inner_of a.remap);
  left = left_of a.remap;
}
