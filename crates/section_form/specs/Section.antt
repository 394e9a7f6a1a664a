-- Sections: ISO/IEC 13818-1, 2.4.4.10 and 2.4.4.11 (the general form), ETSI EN 300 468, 5.2.5 and 5.2.6 (the two tables
-- of time).
use Rattle.std.specs.Prelude.{◌≡◌, ◌≢◌, ℕ, ◌+◌, ◌*◌, ◌/◌, ◌%◌, ◌≤◌, ◌⊎◌, Bool, ◌&&◌, ◌||◌, not, ◌==◌, nat_le, List, length, slice_index}
use Rattle.ts_crc.specs.Crc.{crc_of}

-- The fields at the front of a section: table_id 8, section_syntax_indicator 1, one bit that no reader looks at,
-- 2 reserved bits, section_length 12.
abbrev pub table_id : List ℕ → ℕ
table_id section = slice_index section 0

abbrev pub syntax_indicator : List ℕ → ℕ
syntax_indicator section = slice_index section 1 / 128

-- The number of bytes behind the field itself.
abbrev pub section_length : List ℕ → ℕ
section_length section = slice_index section 1 % 16 * 256 + slice_index section 2

-- Of the long form, where the indicator is 1.
abbrev pub current_next_indicator : List ℕ → ℕ
current_next_indicator section = slice_index section 5 % 2

-- A section takes three bytes and as many as its section_length says.
abbrev pub section_end : List ℕ → ℕ
section_end bytes = 3 + section_length bytes

pub record IsWhole (section : List ℕ) : Type 0 where
  pub head : 3 ≤ length section
  pub end : length section ≡ section_end section

-- A TDT is the one section without a CRC: table_id 0x70, five bytes of time.
pub record IsTimeAndDate (section : List ℕ) : Type 0 where
  pub table : table_id section ≡ 0x70
  pub short : syntax_indicator section ≡ 0
  pub five : section_length section ≡ 5

-- The long form, which is in force now: table_id_extension, version, section numbers, a body and CRC_32.
pub record IsRightLong (section : List ℕ) : Type 0 where
  pub table : table_id section ≢ 0x70
  pub long : syntax_indicator section ≡ 1
  pub least : 9 ≤ section_length section
  pub most : section_length section ≤ 4093
  pub current : current_next_indicator section ≡ 1
  pub crc : crc_of section ≡ 0

-- The short form: a body and CRC_32.
pub record IsRightShort (section : List ℕ) : Type 0 where
  pub table : table_id section ≢ 0x70
  pub short : syntax_indicator section ≡ 0
  pub least : 4 ≤ section_length section
  pub most : section_length section ≤ 4093
  pub crc : crc_of section ≡ 0

-- A whole section is right in one of three ways.
abbrev pub IsRight : List ℕ → Type 0
IsRight section = IsTimeAndDate section ⊎ IsRightLong section ⊎ IsRightShort section

abbrev pub IsRightSection : List ℕ → Type 0
IsRightSection section = IsWhole section × IsRight section

-- The same as a test that computes.
abbrev pub is_time_and_date : List ℕ → Bool
is_time_and_date section =
    (table_id section == 0x70) && (syntax_indicator section == 0) && (section_length section == 5)

abbrev pub is_right_long : List ℕ → Bool
is_right_long section =
    not (table_id section == 0x70) && (syntax_indicator section == 1)
    && nat_le 9 (section_length section) && nat_le (section_length section) 4093
    && (current_next_indicator section == 1) && (crc_of section == 0)

abbrev pub is_right_short : List ℕ → Bool
is_right_short section =
    not (table_id section == 0x70) && (syntax_indicator section == 0)
    && nat_le 4 (section_length section) && nat_le (section_length section) 4093
    && (crc_of section == 0)

unfoldable pub is_right : List ℕ → Bool
is_right section = is_time_and_date section || is_right_long section || is_right_short section
