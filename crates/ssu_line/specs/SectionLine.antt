-- The line of a section that was heard. It ends with a line feed.
use Rattle.std.specs.Prelude.{ℕ, List, [], ◌++◌, codes, decimal, Option, None, Some}
use Rattle.ssu_line.specs.Digits.{hex_byte, hex_half, right}
use Rattle.section_kind.specs.Words.{time_of, word_of}
use Rattle.ssu_time.specs.TimeText.{time_text}
use Rattle.section_kind.specs.declared.section_kinds.SectionKind.{SectionKind}
use Rattle.ssu_time.specs.declared.utc_time.Utc.{Utc}

-- the word of a kind, and - for none
abbrev pub kind_word : Option SectionKind → List ℕ
kind_word None = codes "-"
kind_word (Some kind) = word_of kind

abbrev pub time_part : Option Utc → List ℕ
time_part None = []
time_part (Some time) = codes " " ++ time_text time

-- a space and the time of a table of time
abbrev pub kind_time : Option SectionKind → List ℕ
kind_time None = []
kind_time (Some kind) = time_part (time_of kind)

-- the number of the packet right in 8 places, the PID in four and the table_id in two hexadecimal digits, the bytes of the
-- section right in 4 places, the word, and the time of a TDT or TOT
abbrev pub shown_line : ℕ → ℕ → ℕ → ℕ → Option SectionKind → List ℕ
shown_line packet pid table_id bytes kind =
    right 8 (decimal packet) ++ codes " " ++ hex_half pid ++ codes " " ++ hex_byte table_id
    ++ codes " " ++ right 4 (decimal bytes) ++ codes " " ++ kind_word kind ++ kind_time kind ++ codes "\n"
