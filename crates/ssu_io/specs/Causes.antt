-- The causes of a refusal, by the counts of faults and of absences.
use Rattle.std.specs.Prelude.{◌≡◌, ◌≢◌, ℕ, ◌≤◌, Result, Err}
use Rattle.ssu_io.specs.Faults.{Rose, raised}
use Rattle.ssu_io.specs.declared.shelf.ShelfError.{ShelfError}
use Rattle.ssu_io.specs.declared.shelf.ShelfError.TheVariants.{Absent, Failed}

-- what a call says of the count of faults
pub record HasFault {T : Type 0} (before now : ℕ) (result : Result T ShelfError) : Type 0 where
  -- the count never falls
  pub later : before ≤ now
  -- Failed comes only where it rose
  pub failed : result ≡ Err Failed → Rose before now

-- what a call says of the count of absences
pub record HasAbsence {T : Type 0} (before now : ℕ) (result : Result T ShelfError) : Type 0 where
  -- the count never falls
  pub later : before ≤ now
  -- Absent comes only where it rose
  pub absent : result ≡ Err Absent → Rose before now

-- the count rises exactly at this error
abbrev pub Counts : {T : Type 0} → ShelfError → ℕ → ℕ → Result T ShelfError → Type 0
Counts error before now result = (result ≡ Err error → now ≡ raised before) × (result ≢ Err error → now ≡ before)
