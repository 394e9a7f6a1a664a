use Rattle.std.proofs.Common.{◌≡◌}
use Rattle.wire.specs.Items.{items_of}
use Rattle.si_desc.specs.Linkage.{lists, oui_entry}
use Rattle.si_desc.proofs.linkages.has_oui.Given as goal

abbrev pub invariant-loop-entry : goal.invariant-loop-entry
invariant-loop-entry l = lists l.oui (items_of oui_entry l.entry-iterator) ≡ lists l.oui (items_of oui_entry l.fn.entries)
