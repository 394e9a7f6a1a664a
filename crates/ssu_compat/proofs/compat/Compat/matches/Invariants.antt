use Rattle.std.proofs.Common.{◌≡◌}
use Rattle.wire.specs.Items.{items_of}
use Rattle.ssu_compat.specs.Compat.{entry}
use Rattle.ssu_compat.specs.Match.{matches}
use Rattle.ssu_compat.proofs.compat.Compat.matches.Given as goal

abbrev pub invariant-loop-entry : goal.invariant-loop-entry
invariant-loop-entry l = matches l.me.oui l.me.model l.me.version (items_of entry l.entry-iterator) ≡ matches l.me.oui l.me.model l.me.version l.self
