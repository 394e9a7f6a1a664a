-- UTC_time as a field of a table: ETSI EN 300 468, annex C.
use Rattle.std.specs.Prelude.{ℕ, ◌+◌, ◌*◌, ◌/◌, ◌%◌, Bool, ◌&&◌, nat_le, List, slice_index}
use Rattle.wire.specs.Format.{Front, reads, raw, such}
use Rattle.ssu_time.specs.UtcTime.{decimal, utc_seconds}
use Rattle.ssu_time.specs.declared.utc_time.Utc.{Utc}

-- the Modified Julian Date, and the second of that day
pub record TimeFields : Type 0 where
  pub mjd : ℕ
  pub second : ℕ

abbrev pub time_view : Utc → TimeFields
time_view t = record { mjd = t.mjd; second = t.second }

-- the seconds since the beginning of day 0
abbrev pub seconds_of : TimeFields → ℕ
seconds_of t = utc_seconds t.mjd t.second

-- a byte of two decimal digits, whose number is at most the greatest
abbrev pub is_decimal : ℕ → ℕ → Bool
is_decimal byte most = nat_le (byte / 16) 9 && nat_le (byte % 16) 9 && nat_le (decimal byte) most

-- an hour to 23, a minute and a second to 59
abbrev pub is_time : List ℕ → Bool
is_time bytes = is_decimal (slice_index bytes 2) 23 && is_decimal (slice_index bytes 3) 59 && is_decimal (slice_index bytes 4) 59

abbrev pub time_fields : List ℕ → TimeFields
time_fields bytes = record {
  mjd = slice_index bytes 0 * 256 + slice_index bytes 1;
  second = decimal (slice_index bytes 2) * 3600 + decimal (slice_index bytes 3) * 60 + decimal (slice_index bytes 4);
}

-- UTC_time 40
unfoldable pub utc : Front TimeFields
utc = reads time_fields (such is_time (raw 5))
