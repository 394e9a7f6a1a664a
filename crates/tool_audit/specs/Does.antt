-- What `audit PID` and `audit PID NOTICE` do: they hear a carousel on one PID, and its notice on the other, and print whether
-- all receivers that have a group whole have one image of it, or the first fact for which that is refused.
use Rattle.std.specs.Prelude.{ℕ, ◌≤◌, ◌⊎◌, Option, Result, Ok, Err}
use Rattle.audit_answer.specs.declared.answers.AuditNo.{AuditNo}
use Rattle.audit_answer.specs.declared.answers.AuditYes.{AuditYes}
use Rattle.ssu_audit.specs.Hearing.{IsOpen}
use Rattle.ssu_io.specs.Bytes.{Gains, GainsPrefix}
use Rattle.ssu_io.specs.Faults.{Rose}
use Rattle.ssu_io.specs.Seen.{SinkSeen, SourceSeen}
use Rattle.ssu_line.specs.AuditLines.{audit_line, audit_no_line, audit_ok_line}
use Rattle.ssu_status.specs.Answers.{IsFault}
use Rattle.ssu_status.specs.Status.{OnAuditRefused, OnDone, OnNoMemory, OnReadFault, OnTooLong, OnWriteFault}
use Rattle.ssu_status.specs.declared.status.Status.{Status}
use Rattle.tool_audit.specs.Answers.{IsAnswer, OnNoAnswer}
use Rattle.tool_audit.specs.Comes.{ComesOf, HearsAtPacket, HearsIn}
use Rattle.ts_input.specs.Packets.{IsOneMore, IsWithin}

pub record AuditDoes (pid : ℕ) (notice : Option ℕ) (result : Status) (air : SourceSeen) (out : SinkSeen) : Type 0 where
  -- Done: the input was read to its end, each group has one image in what was heard, and `out` got the line.
  pub done : OnDone result ((counts : AuditYes)
      × (ComesOf pid notice air.left air.left_after (Ok counts) × Gains out.got out.got_after (audit_ok_line counts)))
  -- A fact stands against a section, at the packet at which it first does, or against all of the input. `out` got its line.
  pub refused : OnAuditRefused result (λ why.
      ComesOf pid notice air.left air.left_after (Err why) × Gains out.got out.got_after (audit_no_line why))
  -- There was no memory before the first packet, or at a packet before which no fact stood.
  pub no_memory : OnNoMemory result (air.same ⊎ HearsAtPacket pid notice air.left air.left_after (λ _. Unit {0}) IsOpen)
  -- The input failed, or one byte more came than 16,777,216 packets have, and no fact stands against a section.
  pub read_fault : OnReadFault result (HearsIn pid notice air.left air.left_after IsWithin IsOpen)
  pub read_cause : OnReadFault result (Rose air.faults air.faults_after)
  pub too_long : OnTooLong result (HearsIn pid notice air.left air.left_after IsOneMore IsOpen)
  -- An answer came, and `out` failed: it got a prefix of the line.
  pub write_fault : OnWriteFault result ((answer : Result AuditYes AuditNo)
      × (ComesOf pid notice air.left air.left_after answer × GainsPrefix out.got out.got_after (audit_line answer)))
  pub write_cause : OnWriteFault result (Rose out.faults out.faults_after)
  -- Before an answer nothing is printed.
  pub unprinted : OnNoAnswer result out.same
  -- There is no other answer, and without a fault none that tells of one.
  pub answers : IsAnswer result
  pub complete : ¬ Rose air.faults air.faults_after → ¬ Rose out.faults out.faults_after → ¬ IsFault result
  -- The counts of faults never fall.
  pub air_later : air.faults ≤ air.faults_after
  pub out_later : out.faults ≤ out.faults_after
