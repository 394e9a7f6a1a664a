use Rattle.std.proofs.Common.{◌≡◌, ◌<◌, ◌≤◌, ℕ}
use Rattle.flash_layout.specs.Pairs.{byte_at}
use Rattle.flash_layout.proofs.pairs.are_zero.Given as goal

abbrev pub invariant-loop-i : goal.invariant-loop-i
invariant-loop-i l = (k : ℕ) → l.from ≤ k → k < l.i → byte_at l.bytes k ≡ 0
