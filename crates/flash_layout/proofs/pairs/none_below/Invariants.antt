use Rattle.std.proofs.Common.{◌<◌, ◌≤◌, ℕ}
use Rattle.flash_layout.specs.Pairs.{pair_sum}
use Rattle.flash_layout.proofs.pairs.none_below.Given as goal

abbrev pub invariant-loop-i : goal.invariant-loop-i
invariant-loop-i l = (k : ℕ) → k < l.i → 255 ≤ pair_sum l.bytes k
