-- TDT and TOT: ETSI EN 300 468, 5.2.5 and 5.2.6.
use Rattle.std.specs.Prelude.{ℕ, ◌/◌, ◌^◌, Bool, ◌==◌, List}
use Rattle.wire.specs.Format.{Front, Whole, reads, such, fixed, ◌&◌, sized, only, before, checked, whole_reads}
use Rattle.wire.specs.Number.{number}
use Rattle.section_form.specs.Long.{has_right_crc, length_of}
use Rattle.si_desc.specs.Descriptors.{sized_row}
use Rattle.ssu_time.specs.UtcField.{TimeFields, utc}
use Rattle.si_table.specs.Tables.{fits_a_table}

-- section_syntax_indicator 1, which is not set; one bit and 2 reserved bits; section_length 12
abbrev pub is_short : ℕ → Bool
is_short n = n / 2 ^ 15 == 0

unfoldable pub short_head : Front ℕ
short_head = reads length_of (such is_short (number 2))

-- table_id 8: 0x70; section_length 5 and the time
unfoldable pub tdt : Whole TimeFields
tdt = whole_reads (λ x. x.1) (only (
    fixed (number 1) 0x70 &
    sized short_head (only utc)))

pub record TotFields : Type 0 where
  pub time : TimeFields
  pub info : List ℕ

-- the time; 4 reserved bits, descriptors_loop_length 12 and a row of descriptors; CRC_32, four bytes
unfoldable pub tot_inside : Whole (TimeFields × List ℕ)
tot_inside = before 4 (only (
    utc &
    sized_row))

-- table_id 8: 0x73; section_length and that many bytes. The CRC over all bytes is 0.
unfoldable pub tot : Whole TotFields
tot = checked fits_a_table (checked has_right_crc (whole_reads (λ x. record { time = x.1.0; info = x.1.1 }) (only (
    fixed (number 1) 0x73 &
    sized short_head tot_inside))))
