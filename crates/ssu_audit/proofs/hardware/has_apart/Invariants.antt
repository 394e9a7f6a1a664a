use Rattle.std.proofs.Common.{◌≡◌}
use Rattle.std.specs.List.{list_any}
use Rattle.wire.specs.Items.{items_of}
use Rattle.ssu_compat.specs.Compat.{entry}
use Rattle.ssu_audit.specs.Ending.{is_for_none}
use Rattle.ssu_audit.proofs.hardware.has_apart.Given as goal

abbrev pub invariant-loop-entry : goal.invariant-loop-entry
invariant-loop-entry l = list_any (is_for_none l.dsi.groups) (items_of entry l.entry-iterator) ≡ list_any (is_for_none l.dsi.groups) l.compat
