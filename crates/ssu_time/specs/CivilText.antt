-- A time as text: 19 characters, YYYY-MM-DDThh:mm:ss.
use Rattle.std.specs.Prelude.{◌≡◌, ℕ, ◌+◌, ◌*◌, ◌/◌, ◌%◌, ◌≤◌, List, [], ◌∷◌, ◌++◌, slice_index, ◌-◌, Bool, ◌&&◌}
use Rattle.std.specs.Prelude.{Option, Some, None, nat_le, nat_lt, if◌then◌else◌}
use Rattle.ssu_time.specs.Calendar.{IsDate, IsMjd, days_before, days_in_month}
use Rattle.ssu_time.specs.declared.civil_time.Parts.{Parts}
use Rattle.std.specs.Str.{bytes_eq}
use Rattle.ssu_time.specs.UtcField.{TimeFields}

-- a number below 100 in two digits, where 48 is '0'
abbrev pub two_digits : ℕ → List ℕ
two_digits n = (48 + n / 10) ∷ (48 + n % 10) ∷ []

-- 45 is '-', 84 is 'T' and 58 is ':'
abbrev pub civil_text : (year month day hour minute second : ℕ) → List ℕ
civil_text year month day hour minute second =
    two_digits (year / 100) ++ two_digits (year % 100)
    ++ 45 ∷ [] ++ two_digits month ++ 45 ∷ [] ++ two_digits day
    ++ 84 ∷ [] ++ two_digits hour ++ 58 ∷ [] ++ two_digits minute ++ 58 ∷ [] ++ two_digits second

-- the text is that of a second of the day with that Modified Julian Date: of a date that the
-- calendar has, in a year of four digits, and an hour to 23, a minute and a second to 59
pub record IsTextOf (mjd second : ℕ) (text : List ℕ) : Type 0 where
  pub year : ℕ
  pub month : ℕ
  pub day : ℕ
  pub hour : ℕ
  pub minute : ℕ
  pub last : ℕ
  pub spelled : text ≡ civil_text year month day hour minute last
  pub year_in : year ≤ 9999
  pub date : IsDate year month day
  pub hour_in : hour ≤ 23
  pub minute_in : minute ≤ 59
  pub last_in : last ≤ 59
  pub on_day : IsMjd year month day mjd
  pub in_day : second ≡ hour * 3600 + minute * 60 + last

-- ---- what the functions below `civil` and `text` say of the six numbers of a text

abbrev pub parts_text : Parts → List ℕ
parts_text p = civil_text p.year p.month p.day p.hour p.minute p.second

-- each number has its digits: four for the year, two for the others
pub record AreSmall (p : Parts) : Type 0 where
  pub year : p.year ≤ 9999
  pub month : p.month ≤ 99
  pub day : p.day ≤ 99
  pub hour : p.hour ≤ 99
  pub minute : p.minute ≤ 99
  pub second : p.second ≤ 99

-- the two characters from the place on write the number
pub record IsNumberAt (text : List ℕ) (at n : ℕ) : Type 0 where
  pub tens : slice_index text at ≡ 48 + n / 10
  pub ones : slice_index text (at + 1) ≡ 48 + n % 10

-- the characters between the numbers
pub record HasMarks (text : List ℕ) : Type 0 where
  pub dash : slice_index text 4 ≡ 45
  pub second_dash : slice_index text 7 ≡ 45
  pub letter : slice_index text 10 ≡ 84
  pub colon : slice_index text 13 ≡ 58
  pub second_colon : slice_index text 16 ≡ 58

-- the days before 17 November 1858, from which the Modified Julian Date counts
abbrev pub days_before_mjd : ℕ
days_before_mjd = days_before 1858 11 17

-- the calendar has this day, from 17 November 1858 to the last day of 16 bits
abbrev pub is_day : ℕ → ℕ → ℕ → Bool
is_day y m d =
    ((nat_le 1 m && nat_le m 12) && (nat_le 1 d && nat_le d (days_in_month y m)))
    && (nat_le days_before_mjd (days_before y m d) && nat_lt (days_before y m d - days_before_mjd) 65536)

-- an hour to 23, a minute and a second to 59
abbrev pub is_clock : ℕ → ℕ → ℕ → Bool
is_clock h m s = (nat_le h 23 && nat_le m 59) && nat_le s 59

-- the time of six numbers, if the text is theirs
unfoldable pub time_at : List ℕ → (year month day hour minute second : ℕ) → Option TimeFields
time_at text y m d h i s =
    if (bytes_eq text (civil_text y m d h i s) && nat_le y 9999) && (is_day y m d && is_clock h i s)
    then Some (record { mjd = days_before y m d - days_before_mjd; second = h * 3600 + i * 60 + s })
    else None

-- the number of the two digits from a place on, where 48 is '0'
abbrev pub digits_at : List ℕ → ℕ → ℕ
digits_at text at = (slice_index text at - 48) * 10 + (slice_index text (at + 1) - 48)

-- the time that the text gives: None for all but 19 characters YYYY-MM-DDThh:mm:ss of a date that
-- exists, with a Modified Julian Date from 0 to 65535, and an hour to 23, a minute and a second to 59
unfoldable pub civil_of : List ℕ → Option TimeFields
civil_of text =
    time_at text (digits_at text 0 * 100 + digits_at text 2) (digits_at text 5) (digits_at text 8)
    (digits_at text 11) (digits_at text 14) (digits_at text 17)
