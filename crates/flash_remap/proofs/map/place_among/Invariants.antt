use Rattle.std.proofs.Common.{◌≡◌, drop}
use Rattle.flash_remap.specs.Map.{last_for, place_among}
use Rattle.flash_remap.specs.Shape.{geometry}
use Rattle.flash_remap.proofs.map.place_among.Given as goal

-- the entries behind go on from the place so far
abbrev pub invariant-loop-entry : goal.invariant-loop-entry
invariant-loop-entry l = last_for (geometry l.layout) l.block l.place (drop l.entry-index l.entries) ≡ place_among (geometry l.layout) l.entries l.block
