use Rattle.std.proofs.Common.{◌≡◌, take}
use Rattle.std.specs.Prelude.{map}
use Rattle.std.specs.List.{flat_map}
use Rattle.head_carousel.specs.Control.{group_fields, group_piece}
use Rattle.head_carousel.proofs.control.dsi_section.Given as goal

abbrev pub invariant-loop-group : goal.invariant-loop-group
invariant-loop-group l = l.writer ≡ record {
  transaction = 0x80000000;
  groups = map (group_fields l.oui) (take l.group-index l.groups);
  bytes = flat_map (group_piece l.oui) (take l.group-index l.groups);
}
