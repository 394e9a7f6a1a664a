-- The section that is written for the fields of the long form: reserved bits are ones.
use Rattle.std.specs.Prelude.{ℕ, ◌+◌, ◌*◌, Bool, if◌then◌else◌, List, ◌++◌, length}
use Rattle.ts_crc.specs.Crc.{crc_of}
use Rattle.wire.specs.Number.{bytes_of}
use Rattle.section_form.specs.Long.{LongFields}

-- section 0 of 0 of a table
abbrev pub only_section : (table extension version : ℕ) → List ℕ → LongFields
only_section table extension version body = record {
  table = table;
  extension = extension;
  version = version;
  number = 0;
  last = 0;
  body = body;
}

-- section_syntax_indicator 1, the second bit as the table states it, 2 reserved bits
abbrev pub head_bits : Bool → ℕ
head_bits second_bit = if second_bit then 15 else 11

-- What the CRC is taken over. section_length counts the body and nine bytes beside it.
unfoldable pub long_text : Bool → LongFields → List ℕ
long_text second_bit head =
    bytes_of 1 head.table
    ++ bytes_of 2 (head_bits second_bit * 4096 + (9 + length head.body))
    ++ bytes_of 2 head.extension
    ++ bytes_of 1 (0xC1 + 2 * head.version)
    ++ bytes_of 1 head.number
    ++ bytes_of 1 head.last
    ++ head.body

unfoldable pub long_bytes : Bool → LongFields → List ℕ
long_bytes second_bit head =
    long_text second_bit head ++ bytes_of 4 (crc_of (long_text second_bit head))
