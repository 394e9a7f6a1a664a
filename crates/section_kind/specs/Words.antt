-- The three letters of each kind of section, and the time that a table of time tells.
use Rattle.std.specs.Prelude.{ℕ, List, codes, Option, None, Some}
use Rattle.section_kind.specs.declared.section_kinds.SectionKind.{SectionKind}
use Rattle.section_kind.specs.declared.section_kinds.SectionKind.TheVariants.{Pat, Pmt, Nit, Bat, Tdt, Tot, Unt, Dsi, Dii, Ddb}
use Rattle.ssu_time.specs.declared.utc_time.Utc.{Utc}

abbrev pub word_of : SectionKind → List ℕ
word_of Pat = codes "PAT"
word_of Pmt = codes "PMT"
word_of Nit = codes "NIT"
word_of Bat = codes "BAT"
word_of (Tdt time) = codes "TDT"
word_of (Tot time) = codes "TOT"
word_of Unt = codes "UNT"
word_of Dsi = codes "DSI"
word_of Dii = codes "DII"
word_of Ddb = codes "DDB"

abbrev pub time_of : SectionKind → Option Utc
time_of (Tdt time) = Some time
time_of (Tot time) = Some time
time_of other = None
