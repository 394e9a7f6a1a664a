use Rattle.std.proofs.Common.{◌≡◌}
use Rattle.std.specs.List.{list_any}
use Rattle.wire.specs.Items.{items_of}
use Rattle.dsmcc_msg.specs.Control.{group_entry}
use Rattle.ssu_compat.specs.View.{view}
use Rattle.ssu_audit.specs.Ending.{is_for}
use Rattle.ssu_audit.proofs.hardware.has_group.Given as goal

abbrev pub invariant-loop-group : goal.invariant-loop-group
invariant-loop-group l = list_any (is_for (view l.entry)) (items_of group_entry l.group-iterator) ≡ list_any (is_for (view l.entry)) l.dsi.groups
