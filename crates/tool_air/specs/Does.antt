-- What `air` does: it reads script.toml, puts the packets of the input, as the script changes them, into `made`, and a line
-- that counts them into `out`.
use Rattle.std.specs.Prelude.{◌≡◌, ◌≤◌, ℕ, List}
use Rattle.ssu_io.specs.Faults.{Rose}
use Rattle.ssu_io.specs.Seen.{ShelfSeen, SinkSeen, SourceSeen}
use Rattle.ssu_status.specs.Status.{OnAbsent, OnDone, OnPlanRefused, OnReadFault, OnTooLong, OnWriteFault}
use Rattle.ssu_status.specs.declared.status.Status.{Status}
use Rattle.tool_air.specs.Airing.{ForScript, IsAnswer, IsEarly, IsUnrefused, PutsAll, PutsMost, PutsPart, PutsTaken}
use Rattle.tool_air.specs.Held.{RefusesScript, script_name}
use Rattle.tool_box.specs.Fetching.{HasNone, Lacks, SaysAbsent}
use Rattle.tool_box.specs.Shelves.{ReadsShelf}
use Rattle.ts_input.specs.Packets.{IsAtEnd}

pub record AirDoes (result : Status) (shelf : ShelfSeen) (air : SourceSeen) (made out : SinkSeen) : Type 0 where
  -- Done: the input was read to its end, `made` got what the script makes of its packets, and `out` the line.
  pub done : OnDone result (ForScript shelf.held (PutsAll air made out))
  pub end : OnDone result (IsAtEnd air.left_after)
  -- There is no script: script.toml is not there, or this is its first bad field.
  pub absent : OnAbsent result (λ name. (name ≡ script_name) × Lacks shelf.held name)
  pub no_script : HasNone shelf.held script_name → SaysAbsent script_name result
  pub plan_refused : OnPlanRefused result (λ field. RefusesScript shelf.held field)
  -- Each of these, a fault of the shelf, and want of memory come before the first packet is taken.
  pub early : IsEarly result → air.same × (made.same × out.same)
  -- The input failed, or one byte more came than 16,777,216 packets have: `made` got what the script makes of the packets
  -- taken, and `out` nothing.
  pub read_fault : OnReadFault result (ForScript shelf.held (PutsTaken air made out))
  pub read_cause : OnReadFault result (Rose air.faults air.faults_after)
  pub too_long : OnTooLong result (ForScript shelf.held (PutsMost air made out))
  -- A write failed: `made` got a prefix of that, or all of it and `out` a prefix of the line.
  pub write_fault : OnWriteFault result (ForScript shelf.held (PutsPart air made out))
  -- There is no other answer, and without a fault and a bad field none that tells of one.
  pub answers : IsAnswer result
  pub complete : ¬ Rose shelf.absences shelf.absences_after → ¬ Rose shelf.faults shelf.faults_after
      → ¬ Rose air.faults air.faults_after → ¬ Rose made.faults made.faults_after → ¬ Rose out.faults out.faults_after
      → ((field : List ℕ) → ¬ RefusesScript shelf.held field) → IsUnrefused result
  -- The shelf holds what it held, and the counts of faults never fall.
  pub files : ReadsShelf result shelf
  pub air_later : air.faults ≤ air.faults_after
  pub made_later : made.faults ≤ made.faults_after
  pub out_later : out.faults ≤ out.faults_after
