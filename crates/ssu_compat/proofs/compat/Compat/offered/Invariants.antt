use Rattle.std.proofs.Common.{◌≡◌}
use Rattle.wire.specs.Items.{items_of}
use Rattle.ssu_compat.specs.Compat.{entry}
use Rattle.ssu_compat.specs.Match.{offered}
use Rattle.ssu_compat.proofs.compat.Compat.offered.Given as goal

abbrev pub invariant-loop-entry : goal.invariant-loop-entry
invariant-loop-entry l = offered l.oui (items_of entry l.entry-iterator) ≡ offered l.oui l.self
