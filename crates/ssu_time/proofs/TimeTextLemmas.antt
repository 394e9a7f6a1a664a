-- A day number belongs to one date of the calendar, and a time to one text.
use Rattle.std.proofs.Common.{◌≡◌, ℕ, zero, suc, ◌-◌, ◌/◌, ◌%◌, ◌≤◌, List, refl, arith}
use Rattle.ssu_time.specs.Calendar.{days_before, days_before_year, days_of_months, days_in_month, days_in_year, IsDate}
use Rattle.ssu_time.specs.CivilText.{IsTextOf}
use Rattle.ssu_time.specs.TimeText.{Day, day_after, next_day, nth_day, day_of_mjd, day_text}

abbrev date : ℕ → ℕ → ℕ → Day
date y m d = record { year = y; month = m; day = d }

days_of_a_year : (y : ℕ) → days_of_months y 12 ≡ days_in_year y
unfolding days_of_months
days_of_a_year y = grind arith

least_month : (y m : ℕ) → 28 ≤ days_in_month y m
least_month y m = grind arith

least_year : (y : ℕ) → 365 ≤ days_in_year y
least_year y = grind arith

-- the day after a date that is not the last of its month, after the last of a month, and after the last of a year
next_in_month : (days y m d : ℕ) → suc (suc d) ≤ days → day_after days (date y m (suc d)) ≡ date y m (suc (suc d))
next_in_month days y m d h = grind arith

next_month : (days y m : ℕ) → suc (suc m) ≤ 12 → day_after days (date y (suc m) days) ≡ date y (suc (suc m)) 1
next_month days y m h = grind arith

next_year : (y : ℕ) → next_day (date y 12 31) ≡ date (suc y) 1 1
next_year y = grind arith

-- each has one more day before it
before_next_day : (y m d : ℕ) → days_before y m (suc (suc d)) ≡ suc (days_before y m (suc d))
unfolding days_before
before_next_day y m d = omega arith

before_next_month : (y m : ℕ) → days_before y (suc (suc m)) 1 ≡ suc (days_before y (suc m) (days_in_month y (suc m)))
unfolding days_before days_of_months
before_next_month y m =
    let one : suc (suc m) - 1 ≡ suc m = omega arith in
    let none : suc m - 1 ≡ m = omega arith in
    rw (one, none) (omega (arith, least_month y (suc m)))

before_first : days_before 0 1 1 ≡ 0
unfolding days_before days_before_year days_of_months
before_first = refl

before_next_year : (y : ℕ) → days_before (suc y) 1 1 ≡ suc (days_before y 12 31)
unfolding days_before days_before_year days_of_months
before_next_year y = omega (arith, days_of_a_year y)

-- the n days before a date lead to it
abbrev Leads : ℕ → Type 0
Leads n = (y m d : ℕ) → IsDate y m d → days_before y m d ≡ n → nth_day n ≡ date y m d

leads_first : Leads 0
unfolding nth_day days_before days_before_year days_of_months
leads_first y m zero is e = absurd (omega (arith, is.day.0))
leads_first y zero d is e = absurd (omega (arith, is.month.0))
leads_first zero (suc zero) (suc zero) is e = refl
leads_first (suc y) (suc zero) (suc zero) is e = absurd (omega (arith, least_year y))
leads_first y (suc (suc m)) (suc zero) is e = absurd (omega (arith, before_next_month y m))
leads_first y (suc m) (suc (suc d)) is e = absurd (omega arith)

leads_next : (n : ℕ) → Leads n → Leads (suc n)
unfolding nth_day
leads_next n before y m zero is e = absurd (omega (arith, is.day.0))
leads_next n before y zero (suc zero) is e = absurd (omega (arith, is.month.0))
leads_next n before zero (suc zero) (suc zero) is e = absurd (omega (arith, before_first))
leads_next n before (suc y) (suc zero) (suc zero) is e =
    rw (before y 12 31 (record { month = (omega arith, omega arith); day = (omega arith, omega arith) }) (omega (arith, before_next_year y)))
    (next_year y)
leads_next n before y (suc (suc m)) (suc zero) is e =
    let last : IsDate y (suc m) (days_in_month y (suc m)) =
    record { month = (omega arith, omega (arith, is.month.1)); day = (omega (arith, least_month y (suc m)), omega arith) } in
    rw (before y (suc m) (days_in_month y (suc m)) last (omega (arith, before_next_month y m))) (next_month (days_in_month y (suc m)) y m is.month.1)
leads_next n before y m (suc (suc d)) is e =
    let earlier : IsDate y m (suc d) = record { month = is.month; day = (omega arith, omega (arith, is.day.1)) } in
    rw (before y m (suc d) earlier (omega (arith, before_next_day y m d))) (next_in_month (days_in_month y m) y m d is.day.1)

pub leads : (n : ℕ) → Leads n
leads zero = leads_first
leads (suc n) = leads_next n (leads n)

pub text_of_time : {mjd second : ℕ} {text : List ℕ} → IsTextOf mjd second text → text ≡ day_text (day_of_mjd mjd) second
text_of_time {mjd} {second} {text} w =
    let hour : second / 3600 ≡ w.hour = omega (arith, w.in_day, w.minute_in, w.last_in) in
    let minute : second / 60 % 60 ≡ w.minute = omega (arith, w.in_day, w.minute_in, w.last_in) in
    let last : second % 60 ≡ w.last = omega (arith, w.in_day, w.minute_in, w.last_in) in
    rw (leads _ w.year w.month w.day w.date w.on_day, hour, minute, last) w.spelled
