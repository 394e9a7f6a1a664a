use Rattle.std.proofs.Common.{◌≡◌, true}
use Rattle.flash_remap.specs.Entry.{are_whole}
use Rattle.flash_remap.proofs.entry.are_whole.Given as goal

-- the pairs so far are whole
abbrev pub invariant-loop-i : goal.invariant-loop-i
invariant-loop-i l = are_whole l.i l.slot ≡ true
