-- What `hear PID` does: it puts the right whole sections of that PID into `out`, joined, to the end of the input.
use Rattle.std.specs.Prelude.{ℕ, ◌≤◌}
use Rattle.ts_input.specs.Puts.{Puts, PutsOfMost, PutsPrefix}
use Rattle.ssu_io.specs.Faults.{Rose}
use Rattle.ssu_io.specs.Seen.{SinkSeen, SourceSeen}
use Rattle.ssu_status.specs.Answers.{IsEndOfInput, IsFault}
use Rattle.ssu_status.specs.Status.{OnDone, OnReadFault, OnWriteFault, OnTooLong, OnNoMemory}
use Rattle.ssu_status.specs.declared.status.Status.{Status}
use Rattle.ts_input.specs.Packets.{IsAtEnd}
use Rattle.ts_section.specs.Events.{hear as hear_text}
use Rattle.ssu_status.specs.declared.status.Status.TheVariants.{WriteFault, NoMemory}

-- What `hear` answers, and nothing else.
abbrev pub IsAnswer : Status → Type 0
IsAnswer WriteFault = Unit {0}
IsAnswer NoMemory = Unit {0}
IsAnswer other = IsEndOfInput other

pub record HearDoes (pid : ℕ) (result : Status) (air : SourceSeen) (out : SinkSeen) : Type 0 where
  -- Done: the input was read to its end, and `out` got the sections of its packets.
  pub done : OnDone result (Puts (hear_text pid) air.left air.left_after out.got out.got_after)
  pub end : OnDone result (IsAtEnd air.left_after)
  -- There was no memory before the first packet.
  pub no_memory : OnNoMemory result (air.same × out.same)
  -- The input failed, or one byte more came than 16,777,216 packets have: `out` got the sections of the packets taken.
  pub read_fault : OnReadFault result (Puts (hear_text pid) air.left air.left_after out.got out.got_after)
  pub read_cause : OnReadFault result (Rose air.faults air.faults_after)
  pub too_long : OnTooLong result (PutsOfMost (hear_text pid) air.left air.left_after out.got out.got_after)
  -- `out` failed: it got a prefix of them.
  pub write_fault : OnWriteFault result (PutsPrefix (hear_text pid) air.left air.left_after out.got out.got_after)
  pub write_cause : OnWriteFault result (Rose out.faults out.faults_after)
  -- There is no other answer, and without a fault none that tells of one.
  pub answers : IsAnswer result
  pub complete : ¬ Rose air.faults air.faults_after → ¬ Rose out.faults out.faults_after → ¬ IsFault result
  -- The counts of faults never fall.
  pub air_later : air.faults ≤ air.faults_after
  pub out_later : out.faults ≤ out.faults_after
