-- What holds of each section that is built.
use Rattle.std.specs.Prelude.{◌≡◌, ◌≢◌, ℕ, ◌<◌, ◌≤◌, List, [], ◌∷◌, slice_index, true}
use Rattle.section_form.specs.Section.{IsRightSection}
use Rattle.ts_section.specs.Cut.{cut_packets}
use Rattle.ts_section.specs.Events.{Event, heard_of, is_listened, span}
use Rattle.ts_section.specs.TimedSection.{TimedSection}

-- The section is whole and right, and no stuffing has its table_id.
pub record IsWellMade (section : List ℕ) : Type 0 where
  pub right : IsRightSection section
  pub table : slice_index section 0 ≢ 0xFF

-- It may be sent: it is well made, is due again after a turn or later, and has a PID of 13 bits.
pub record IsReady (section : TimedSection) : Type 0 where
  pub made : IsWellMade section.bytes
  pub period : 1 ≤ section.period
  pub pid : section.pid < 8192

-- A hearer that listens to its PID, and was fed no usable packet of it since it began to, gives the section back when it
-- is fed the section's packets.
abbrev pub IsHeard : TimedSection → Type 0
IsHeard section = (counter : ℕ) (events : List Event) → counter < 16 → is_listened section.pid events ≡ true → span section.pid events ≡ []
    → heard_of events (cut_packets section.bytes section.pid counter) ≡ section.bytes ∷ []
