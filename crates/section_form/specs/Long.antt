-- The long form of a section: ISO/IEC 13818-1, 2.4.4.11.
use Rattle.std.specs.Prelude.{ℕ, ◌/◌, ◌%◌, ◌^◌, Bool, ◌&&◌, ◌==◌, nat_le, List}
use Rattle.ts_crc.specs.Crc.{crc_of}
use Rattle.wire.specs.Format.{Front, Whole, ◌&◌, ◌then◌, reads, such, sized, only, rest, before, checked, whole_such, whole_reads}
use Rattle.wire.specs.Inside.{inside}
use Rattle.wire.specs.Number.{number}
use Rattle.section_form.specs.declared.reading.LongForm.{LongForm}

-- The fields of a section in the long form. Its body stands between last_section_number and CRC_32.
pub record LongFields : Type 0 where
  pub table : ℕ
  pub extension : ℕ
  pub version : ℕ
  pub number : ℕ
  pub last : ℕ
  pub body : List ℕ

-- section_syntax_indicator 1, which is set; one bit and 2 reserved bits; section_length 12, at most 4093
abbrev pub is_long_head : ℕ → Bool
is_long_head n = (n / 2 ^ 15 == 1) && nat_le (n % 2 ^ 12) 4093

abbrev pub length_of : ℕ → ℕ
length_of n = n % 2 ^ 12

unfoldable pub long_head : Front ℕ
long_head = reads length_of (such is_long_head (number 2))

-- 2 reserved bits, version_number 5, current_next_indicator 1, which is set
abbrev pub is_current : ℕ → Bool
is_current n = n % 2 == 1

unfoldable pub current_version : Front ℕ
current_version = reads (λ n. n / 2 % 2 ^ 5) (such is_current (number 1))

-- table_id_extension 16, version, section_number 8, last_section_number 8, the body, and four bytes of CRC_32: at least
-- nine bytes
unfoldable pub behind_length : Whole (ℕ × (ℕ × (ℕ × (ℕ × List ℕ))))
behind_length =
    number 2 then λ _.
    current_version then λ _.
    number 1 then λ _.
    number 1 then λ _.
    before 4 rest

-- table_id 8, section_length and as many bytes
abbrev pub fields_of : ℕ × (ℕ × (ℕ × (ℕ × (ℕ × List ℕ)))) → LongFields
fields_of x = record {
  table = x.0;
  extension = x.1.0;
  version = x.1.1.0;
  number = x.1.1.1.0;
  last = x.1.1.1.1.0;
  body = x.1.1.1.1.1;
}

-- The CRC over all bytes of the section, its own among them, is 0.
abbrev pub has_right_crc : List ℕ → Bool
has_right_crc section = crc_of section == 0

-- what the long form is beside its CRC
unfoldable pub unchecked_form : Whole LongFields
unchecked_form = whole_reads fields_of (only (number 1 & sized long_head behind_length))

unfoldable pub long_form : Whole LongFields
long_form = checked has_right_crc unchecked_form

-- A section of the long form whose fields pass a test, and what its body is.
abbrev pub body_of : LongFields → List ℕ
body_of head = head.body

abbrev pub section_of : {A : Type 0} → (LongFields → Bool) → Whole A → Whole (LongFields × A)
section_of is_head body = inside (whole_such is_head long_form) body_of body

-- the test on table_id alone
abbrev pub has_table : ℕ → LongFields → Bool
has_table table head = head.table == table

-- what a LongForm shows, without where its body lies in memory
abbrev pub fields : LongForm → LongFields
fields f = record {
  table = f.table;
  extension = f.extension;
  version = f.version;
  number = f.number;
  last = f.last;
  body = f.body.now;
}
