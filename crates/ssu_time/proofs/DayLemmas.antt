-- The day numbers of the calendar in specs/ are those of `jiff_core`, which counts from the year -10000.
use Rattle.std.proofs.Common.{◌≡◌, ℕ, zero, suc, ◌+◌, ◌-◌, ◌≤◌, ◌<◌, refl, arith, ℤ, pos, negsuc, ◌+ℤ◌}
use Rattle.jiff_core.specs.Calendar.{days_of_years, days_of_months as months_of, day_count, days_from_civil, IsCivilDate}
use Rattle.jiff_core.proofs.MarchLemmas.{leap_day-shift, days_in_year-leap_day, days_of_years-suc, days_of_years-march_days, day_count-late}
use Rattle.jiff_core.proofs.CalendarLemmas.{days_from_civil-day_count, day_count-lt_year}
use Rattle.jiff_core.proofs.SignedLemmas.{signed_arith, back_small}
use Rattle.std.proofs.Common.{◌^◌, of_z, to_z, w8, w16, unsigned_abs}
use Rattle.std.proofs.Common.{◌∙◌}
use Rattle.std.proofs.lemmas.Int.{to_z_pos}
use Rattle.jiff_core.specs.Date.{IsYmd, epoch_day}
use Rattle.jiff_core.proofs.DateLemmas.{civil}
use Rattle.jiff_core.specs.declared.civil.date.Date.{Date}
use Rattle.ssu_time.specs.Calendar.{days_before_year, days_of_months, days_before, days_in_month, IsDate, IsMjd}

days_of_years-days_before_year : (y : ℕ) → days_of_years (y + 10000) ≡ 3652425 + days_before_year y
unfolding days_before_year
days_of_years-days_before_year zero = omega (arith, days_of_years-march_days 10000)
days_of_years-days_before_year (suc y) =
    let next : suc y + 10000 ≡ suc (y + 10000) = omega arith in
    rw next (omega (arith, days_of_years-suc (y + 10000), days_of_years-days_before_year y, leap_day-shift (pos y) (y + 10000) refl, days_in_year-leap_day (pos y)))

months_of-days_of_months : (y n : ℕ) → months_of (pos y) n ≡ days_of_months y n
unfolding months_of days_of_months
months_of-days_of_months y zero = refl
months_of-days_of_months y (suc n) = omega (arith, months_of-days_of_months y n)

pub day_count-days_before : (y m d : ℕ) → 1 ≤ d → day_count (pos y) m d ≡ 3652425 + days_before y m d
unfolding day_count days_before
day_count-days_before y m d h =
    omega (arith, days_of_years-days_before_year y, months_of-days_of_months y (m - 1))

-- day 0 is 17 November 1858
first_day : days_before 1858 11 17 ≡ 678941
first_day =
    omega (arith, day_count-days_before 1858 11 17 (omega arith), day_count-late (pos 1858) 11858 11 17 refl (omega arith) (omega arith) (omega arith))

year_zero : days_before 0 1 1 ≡ 0
unfolding days_before days_before_year days_of_months
year_zero = refl

-- a Modified Julian Date is the day number from 1 January 1970 and 40,587
pub mjd_of_epoch_day : (y m d mjd : ℕ) → 1 ≤ d → days_from_civil (pos y) m d +ℤ pos 40587 ≡ pos mjd → IsMjd y m d mjd
mjd_of_epoch_day y m d mjd h e =
    omega (arith, signed_arith, first_day, day_count-days_before y m d h, days_from_civil-day_count (pos y) m d)

pub epoch_day_of_mjd : (y m d mjd : ℕ) → 1 ≤ d → IsMjd y m d mjd → days_from_civil (pos y) m d +ℤ pos 40587 ≡ pos mjd
epoch_day_of_mjd y m d mjd h e =
    omega (arith, signed_arith, first_day, day_count-days_before y m d h, days_from_civil-day_count (pos y) m d)

-- a day of a year after the year 0, with the Modified Julian Date
pub record IsDay (y : ℤ) (m d mjd : ℕ) : Type 0 where
  pub year : ℕ
  pub year_is : y ≡ pos year
  pub year_in : year ≤ 9999
  pub date : IsDate year m d
  pub day : IsMjd year m d mjd

-- the date of a Modified Julian Date lies in a year of four digits, after the year 0
pub day_of_mjd : (y : ℤ) (m d mjd : ℕ) → IsCivilDate y m d → days_from_civil y m d +ℤ pos 40587 ≡ pos mjd → IsDay y m d mjd
day_of_mjd (pos n) m d mjd h e = record {
  year = n;
  year_is = refl;
  year_in = omega (arith, signed_arith);
  date = record { month = h.1; day = h.2 };
  day = mjd_of_epoch_day n m d mjd h.2.0 e;
}
day_of_mjd (negsuc n) m d mjd h e =
    absurd (omega (arith, signed_arith, day_count-lt_year (negsuc n) m d (pos 0) 1 1 h (omega arith) (omega (arith, signed_arith)), year_zero, day_count-days_before 0 1 1 (omega arith), days_from_civil-day_count (negsuc n) m d))

most_days : (y m : ℕ) → days_in_month y m ≤ 31
most_days y m = grind arith

-- the numbers of that date, cast to types without a sign
pub record IsCast (y : ℤ) (m d mjd : ℕ) : Type 0 where
  pub number : ℕ
  pub year : to_z w16 (of_z w16 y) ≡ pos number
  pub month : to_z w8 (of_z w8 (pos m)) ≡ pos m
  pub day : to_z w8 (of_z w8 (pos d)) ≡ pos d
  pub year_in : number ≤ 9999
  pub date : IsDate number m d
  pub on_day : IsMjd number m d mjd

pub cast_back : (y : ℤ) (m d mjd : ℕ) → IsDay y m d mjd → IsCast y m d mjd
cast_back y m d mjd h =
    let small : unsigned_abs (pos h.year) < 2 ^ 15 = omega (arith, h.year_in) in
    let day : unsigned_abs (pos d) < 2 ^ 7 = omega (arith, h.date.day.1, most_days h.year m) in
    let month : unsigned_abs (pos m) < 2 ^ 7 = omega (arith, h.date.month.1) in
    record {
      number = h.year;
      year = rw h.year_is (back_small w16 (pos h.year) small);
      month = back_small w8 (pos m) month;
      day = back_small w8 (pos d) day;
      year_in = h.year_in;
      date = h.date;
      on_day = h.day;
    }

-- the date that was made of small numbers has these parts
pub record HasParts (date : Date) (y m d : ℕ) : Type 0 where
  pub year : date.year ≡ pos y
  pub month : date.month ≡ m
  pub day : date.day ≡ d

pub has_parts : (date : Date) (y m d : ℕ) → y ≤ 9999 → m ≤ 99 → d ≤ 99 → IsYmd (to_z w16 y) (to_z w8 m) (to_z w8 d) date → HasParts date y m d
has_parts date y m d a b e h =
    let ey : to_z w16 y ≡ pos y = to_z_pos w16 y (omega arith) in
    let em : to_z w8 m ≡ pos m = to_z_pos w8 m (omega arith) in
    let ed : to_z w8 d ≡ pos d = to_z_pos w8 d (omega arith) in
    record { year = h.0 ∙ ey; month = cc; day = cc }

pub is_date : (date : Date) (y m d : ℕ) → HasParts date y m d → IsDate y m d
is_date date y m d h =
    let is = civil date in
    rw (← h.month, ← h.day) (record { month = is.1; day = rw h.year at is.2 })

pub is_mjd : (date : Date) (y m d mjd : ℕ) → HasParts date y m d → epoch_day date +ℤ pos 40587 ≡ pos mjd → IsMjd y m d mjd
is_mjd date y m d mjd h e =
    let is = is_date date y m d h in
    mjd_of_epoch_day y m d mjd is.day.0 (rw (h.year, h.month, h.day) at e)

pub epoch_day_is : (date : Date) (y m d mjd : ℕ) → HasParts date y m d → IsMjd y m d mjd → epoch_day date +ℤ pos 40587 ≡ pos mjd
epoch_day_is date y m d mjd h e =
    let is = is_date date y m d h in
    rw (h.year, h.month, h.day) (epoch_day_of_mjd y m d mjd is.day.0 e)
