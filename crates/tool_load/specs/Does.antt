-- What `load PID` does: it takes the first group of the first DSI on the PID that has a group, then the first DII of it that
-- can be used, then its blocks; and it puts the image of the group into `made`, and a line of the verdict into `out`.
use Rattle.std.specs.Prelude.{ℕ, ◌≤◌, ◌⊎◌}
use Rattle.ssu_answer.specs.declared.verdict.Verdict.{Verdict}
use Rattle.ssu_io.specs.Faults.{Rose}
use Rattle.ssu_io.specs.Seen.{SinkSeen, SourceSeen}
use Rattle.ssu_status.specs.Answers.{IsFault}
use Rattle.ssu_status.specs.Status.{OnNoMemory, OnReadFault, OnTooLong, OnWriteFault}
use Rattle.ssu_status.specs.declared.status.Status.{Status}
use Rattle.tool_load.specs.Load.{ComesOf, HearsAtPacket, HearsIn, IsChosen, IsOpen, IsUnchosen}
use Rattle.tool_load.specs.Printed.{PutsAll, PutsPart}
use Rattle.tool_load.specs.Told.{IsAnswer, OnNoImage, OnNoVerdict, OnTold}
use Rattle.ts_input.specs.Packets.{IsOneMore, IsWithin}

pub record LoadDoes (pid : ℕ) (result : Status) (air : SourceSeen) (made out : SinkSeen) : Type 0 where
  -- The verdict is that of the sections heard, at the packet at which it is reached or at the end of the input.
  pub verdict : OnTold result (λ v. ComesOf pid air.left air.left_after v (λ sections. PutsAll sections v made out))
  -- There was no memory before the first packet, or at the packet at which the group is chosen.
  pub no_memory : OnNoMemory result (air.same ⊎ HearsAtPacket pid air.left air.left_after IsChosen IsUnchosen)
  -- The input failed, or one byte more came than 16,777,216 packets have, and no verdict was reached.
  pub read_fault : OnReadFault result (HearsIn pid air.left air.left_after IsWithin IsOpen)
  pub read_cause : OnReadFault result (Rose air.faults air.faults_after)
  pub too_long : OnTooLong result (HearsIn pid air.left air.left_after IsOneMore IsOpen)
  -- A verdict came, and a part of what it puts out was put.
  pub write_fault : OnWriteFault result
      ((v : Verdict) × ComesOf pid air.left air.left_after v (λ sections. PutsPart sections v made out))
  pub write_cause : OnWriteFault result (Rose made.faults made.faults_after ⊎ Rose out.faults out.faults_after)
  -- Where no group was loaded nothing is made, and before a verdict nothing is printed.
  pub made_kept : OnNoImage result made.same
  pub out_kept : OnNoVerdict result out.same
  -- There is no other answer, and without a fault none that tells of one.
  pub answers : IsAnswer result
  pub complete : ¬ Rose air.faults air.faults_after → ¬ Rose made.faults made.faults_after
      → ¬ Rose out.faults out.faults_after → ¬ IsFault result
  -- The counts of faults never fall.
  pub air_later : air.faults ≤ air.faults_after
  pub made_later : made.faults ≤ made.faults_after
  pub out_later : out.faults ≤ out.faults_after
