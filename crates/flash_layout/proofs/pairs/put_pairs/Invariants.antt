use Rattle.std.proofs.Common.{◌≡◌, ◌+◌, ◌-◌, ◌*◌, ◌<◌, ℕ, get_or}
use Rattle.flash_layout.proofs.pairs.put_pairs.Given as goal

-- the pairs so far are written
abbrev pub invariant-loop-i : goal.invariant-loop-i
invariant-loop-i l = (k : ℕ) → k < l.i → (get_or l.bytes (2 * k) 0 ≡ get_or l.plain k 0) × (get_or l.bytes (2 * k + 1) 0 ≡ 255 - get_or l.plain k 0)
