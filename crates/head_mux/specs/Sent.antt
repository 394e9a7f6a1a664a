-- In which order the sections of a list are sent, and as which packets: one section a turn, those of a PID with counters
-- that go on (ISO/IEC 13818-1, 2.4.3.3).
use Rattle.std.specs.Prelude.{zero, suc, ◌≢◌, ℕ, ◌+◌, ◌≤◌, Bool, if◌then◌else◌, ◌==◌, nat_le, List, [], ◌∷◌, ◌++◌, max}
use Rattle.std.specs.Prelude.{length, slice_index, slice_index_or, slice_set, ◌≡◌, ◌%◌, ◌<◌, map}
use Rattle.std.specs.List.{list_all, position_or_len, range_with_len, filter}
use Rattle.ts_section.specs.TimedSection.{TimedSection}
use Rattle.ts_section.specs.Cut.{cut_packets, next_counter}
use Rattle.ts_packet.specs.Packet.{pid_of, continuity_counter}

-- What is asked of a section: the length of a section, a table_id that no stuffing has, and a period of at least a turn.
pub record IsSendable (section : TimedSection) : Type 0 where
  pub least : 3 ≤ length section.bytes
  pub most : length section.bytes ≤ 4096
  pub table : slice_index section.bytes 0 ≢ 0xFF
  pub period : 1 ≤ section.period

-- The section at this index.
abbrev pub section_at : List TimedSection → ℕ → TimedSection
section_at list index = slice_index_or list index (record { pid = 0; period = 0; bytes = [] })

-- No due number is less than this one.
abbrev pub is_least : List ℕ → ℕ → Bool
is_least dues due = list_all (λ other. nat_le due other) dues

-- The index of the section that is sent next: the first index of those with the least due number.
unfoldable pub next_index : List ℕ → ℕ
next_index dues = position_or_len (is_least dues) dues

-- The due number of each section before a turn. At first it is the section's index. The section that turn t sends is due
-- again at t and its period.
unfoldable pub dues_before : List TimedSection → ℕ → List ℕ
dues_before list zero = range_with_len 0 (length list)
dues_before list (suc t) =
    let index = next_index (dues_before list t) in
    slice_set (dues_before list t) index (t + (section_at list index).period)

-- The section that a turn sends.
abbrev pub section_of_turn : List TimedSection → ℕ → TimedSection
section_of_turn list t = section_at list (next_index (dues_before list t))

-- The counter of the next packet of a PID before a turn. It starts at 0, and goes on over the sections of the PID.
unfoldable pub counter_before : List TimedSection → ℕ → ℕ → ℕ
counter_before list zero pid = 0
counter_before list (suc t) pid =
    let section = section_of_turn list t in
    if section.pid == pid then next_counter section.bytes (counter_before list t pid) else counter_before list t pid

-- The packets of the section that a turn sends.
abbrev pub packets_of_turn : List TimedSection → ℕ → List (List ℕ)
packets_of_turn list t =
    let section = section_of_turn list t in
    cut_packets section.bytes section.pid (counter_before list t section.pid)

-- The packets of so many turns, the first of which is turn 0.
unfoldable pub sent : List TimedSection → ℕ → List (List ℕ)
sent list zero = []
sent list (suc t) = sent list t ++ packets_of_turn list t

-- The greatest period of the sections of a list.
abbrev pub greatest_period : List TimedSection → ℕ
greatest_period [] = 0
greatest_period (section ∷ list) = max section.period (greatest_period list)

-- The counters of the packets of a PID, in order: continuity_counter, which goes on modulo 16 from a packet of the PID to
-- the next one (ISO/IEC 13818-1, 2.4.3.3).
abbrev pub counters_of : ℕ → List (List ℕ) → List ℕ
counters_of pid packets = map continuity_counter (filter (λ packet. pid_of packet == pid) packets)

-- They go on from the first one without a gap.
abbrev pub GoOn : ℕ → List ℕ → Type 0
GoOn first counters = (k : ℕ) → k < length counters → slice_index counters k ≡ (first + k) % 16
