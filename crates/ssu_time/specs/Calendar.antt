-- The proleptic Gregorian calendar from the year 0 on, and the Modified Julian Date, which numbers
-- the days from 17 November 1858, day 0.
use Rattle.std.specs.Prelude.{◌≡◌, ℕ, zero, suc, ◌+◌, ◌-◌, ◌%◌, ◌≤◌, Bool, not, ◌&&◌, ◌||◌, ◌==◌, if◌then◌else◌}

-- every fourth year, but of the centuries only every fourth
abbrev pub is_leap_year : ℕ → Bool
is_leap_year y = (y % 4 == 0) && (not (y % 100 == 0) || (y % 400 == 0))

abbrev pub days_in_year : ℕ → ℕ
days_in_year y = if is_leap_year y then 366 else 365

-- thirty days have April, June, September and November
abbrev pub days_in_month : ℕ → ℕ → ℕ
days_in_month y m =
    if m == 2 then (if is_leap_year y then 29 else 28)
    else (if (m == 4) || (m == 6) || (m == 9) || (m == 11) then 30 else 31)

-- the days of all years before the year
unfoldable pub days_before_year : ℕ → ℕ
days_before_year zero = 0
days_before_year (suc y) = days_before_year y + days_in_year y

-- the days of the first n months of the year
unfoldable pub days_of_months : ℕ → ℕ → ℕ
days_of_months y zero = 0
days_of_months y (suc n) = days_of_months y n + days_in_month y (suc n)

-- the days before the date, from 1 January of the year 0 on
unfoldable pub days_before : ℕ → ℕ → ℕ → ℕ
days_before y m d = days_before_year y + days_of_months y (m - 1) + (d - 1)

-- the calendar has this day
pub record IsDate (y m d : ℕ) : Type 0 where
  pub month : (1 ≤ m) × (m ≤ 12)
  pub day : (1 ≤ d) × (d ≤ days_in_month y m)

-- the date lies that many days after 17 November 1858
abbrev pub IsMjd : ℕ → ℕ → ℕ → ℕ → Type 0
IsMjd y m d mjd = days_before y m d ≡ days_before 1858 11 17 + mjd
