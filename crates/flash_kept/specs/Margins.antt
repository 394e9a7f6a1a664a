-- Margins of a journal, one after the other, the newest first.
use Rattle.std.specs.Prelude.{◌≡◌, ℕ, ◌+◌, ◌≤◌, Bool, List, [], ◌∷◌}
use Rattle.flash_kept.specs.Counts.{one_if}

-- The margin is the free slots less the lost places. Beside them it says whether a power loss or a fault of the flash came since the
-- margin before it.
pub record Margin : Type 0 where
  pub free : ℕ
  pub lost : ℕ
  pub cut : Bool

-- The first is 16, and each falls only at a power loss or fault, by one at most.
unfoldable pub IsRun : List Margin → Type 0
IsRun [] = Unit {0}
IsRun (m ∷ []) = m.free ≡ m.lost + 16
IsRun (m ∷ before ∷ earlier) = (before.free + m.lost ≤ m.free + before.lost + one_if m.cut) × IsRun (before ∷ earlier)

-- how many power losses and faults came since the first
unfoldable pub cuts : List Margin → ℕ
cuts [] = 0
cuts (m ∷ []) = 0
cuts (m ∷ before ∷ earlier) = one_if m.cut + cuts (before ∷ earlier)

-- no member is below 0
unfoldable pub NoneBelowZero : List Margin → Type 0
NoneBelowZero [] = Unit {0}
NoneBelowZero (m ∷ earlier) = (m.lost ≤ m.free) × NoneBelowZero earlier
