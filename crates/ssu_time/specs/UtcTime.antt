-- UTC_time as ETSI EN 300 468 gives it (annex C): 40 bits, of which the first 16 are the Modified
-- Julian Date and the others hour, minute and second, two decimal digits of 4 bits each.
use Rattle.std.specs.Prelude.{ℕ, ◌+◌, ◌*◌, ◌/◌, ◌%◌, ◌≤◌, List, [], ◌∷◌, slice_index}

-- the byte of a number below 100: its tens in the high four bits, its ones in the low four
abbrev pub bcd : ℕ → ℕ
bcd n = n / 10 * 16 + n % 10

-- the number that the two digits of a byte write
abbrev pub decimal : ℕ → ℕ
decimal byte = byte / 16 * 10 + byte % 16

-- the five bytes of a day number and a second of that day
abbrev pub utc_bytes : ℕ → ℕ → List ℕ
utc_bytes mjd second =
    mjd / 256 ∷ mjd % 256
    ∷ bcd (second / 3600) ∷ bcd (second / 60 % 60) ∷ bcd (second % 60) ∷ []

-- the seconds since the beginning of day 0
abbrev pub utc_seconds : ℕ → ℕ → ℕ
utc_seconds mjd second = mjd * 86400 + second

-- a byte of two decimal digits, whose number is at most the greatest
pub record IsDecimal (byte most : ℕ) : Type 0 where
  pub tens : byte / 16 ≤ 9
  pub ones : byte % 16 ≤ 9
  pub number : decimal byte ≤ most

-- five bytes that are a time: an hour to 23, a minute and a second to 59
pub record IsUtcTime (bytes : List ℕ) : Type 0 where
  pub hour : IsDecimal (slice_index bytes 2) 23
  pub minute : IsDecimal (slice_index bytes 3) 59
  pub second : IsDecimal (slice_index bytes 4) 59
