-- A time as text, of its day and its second. The days are counted one by one on the calendar.
use Rattle.std.specs.Prelude.{ℕ, zero, suc, ◌+◌, ◌/◌, ◌%◌, ◌==◌, List, if◌then◌else◌}
use Rattle.ssu_time.specs.Calendar.{days_before, days_in_month}
use Rattle.ssu_time.specs.CivilText.{civil_text}
use Rattle.ssu_time.specs.declared.utc_time.Utc.{Utc}

pub record Day : Type 0 where
  pub year : ℕ
  pub month : ℕ
  pub day : ℕ

-- the day after, in a month of so many days
abbrev pub day_after : ℕ → Day → Day
day_after days d =
    if d.day == days
    then (if d.month == 12
    then record { year = d.year + 1; month = 1; day = 1 }
    else record { year = d.year; month = d.month + 1; day = 1 })
    else record { year = d.year; month = d.month; day = d.day + 1 }

abbrev pub next_day : Day → Day
next_day d = day_after (days_in_month d.year d.month) d

-- the day that lies that many days after 1 January of the year 0
unfoldable pub nth_day : ℕ → Day
nth_day zero = record { year = 0; month = 1; day = 1 }
nth_day (suc n) = next_day (nth_day n)

-- the day of a Modified Julian Date, of which 0 is 17 November 1858
abbrev pub day_of_mjd : ℕ → Day
day_of_mjd mjd = nth_day (days_before 1858 11 17 + mjd)

abbrev pub day_text : Day → ℕ → List ℕ
day_text d second = civil_text d.year d.month d.day (second / 3600) (second / 60 % 60) (second % 60)

-- YYYY-MM-DDThh:mm:ss
unfoldable pub time_text : Utc → List ℕ
time_text time = day_text (day_of_mjd time.mjd) time.second
