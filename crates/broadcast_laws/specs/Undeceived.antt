-- That no damaged or spliced section passes for a right one: ISO/IEC 13818-1, 2.4.3.2, 2.4.3.3 and 2.4.4. Lists of packets have
-- the oldest first.
use Rattle.std.specs.Prelude.{◌≢◌, ℕ, Contains, List, [], ◌∷◌, drop}
use Rattle.section_form.specs.Section.{table_id}
use Rattle.ts_section.specs.Events.{Listen, heard_of}

-- The right whole sections of a PID in these packets, from the first of them on.
abbrev pub sections_of_pid : ℕ → List (List ℕ) → List (List ℕ)
sections_of_pid pid packets = heard_of (Listen (pid ∷ []) ∷ []) packets

-- The section is a right whole section of some PID in these packets, from some packet on.
pub record IsRightIn (packets : List (List ℕ)) (section : List ℕ) : Type 0 where
  pub pid : ℕ
  pub first : ℕ
  pub found : Contains (sections_of_pid pid (drop first packets)) section

-- Each right whole section of the packets, over every PID and from every packet on, is one of these sections. A TDT (table_id 0x70)
-- need not be: it has no CRC. The PID does not matter.
abbrev pub IsUndeceived : List (List ℕ) → List (List ℕ) → Type 0
IsUndeceived sections packets =
    (section : List ℕ) → IsRightIn packets section → table_id section ≢ 0x70 → Contains sections section
