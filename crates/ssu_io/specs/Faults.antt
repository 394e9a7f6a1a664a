-- Counts of faults. A count is a u64 that never falls, and stands still at its greatest value.
use Rattle.std.specs.Prelude.{ℕ, ◌+◌, ◌-◌, ◌^◌, ◌≤◌, min, Result, IsErr}

-- one more than the count, or its greatest value
abbrev pub raised : ℕ → ℕ
raised count = min (count + 1) (2 ^ 64 - 1)

-- the count rose: it is greater than before, or stands at its greatest value
abbrev pub Rose : ℕ → ℕ → Type 0
Rose before now = min (before + 1) (2 ^ 64 - 1) ≤ now

-- what a call says of its object's count
pub record HasCause {T E : Type 0} (before now : ℕ) (result : Result T E) : Type 0 where
  -- the count never falls
  pub later : before ≤ now
  -- an error comes only where it rose
  pub failed : IsErr result → Rose before now
