use Rattle.flash_dev.specs.Changes.{IsBlank}
use Rattle.flash_journal.proofs.blank.is_erased.Given as goal

abbrev pub invariant-loop-i : goal.invariant-loop-i
invariant-loop-i l = IsBlank l.bytes 0 l.i
