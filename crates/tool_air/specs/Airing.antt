-- What `air` puts: what the script makes of the packets, and a line that counts them.
use Rattle.std.specs.Prelude.{ℕ, ◌⊎◌, List, Option}
use Rattle.air_channel.specs.Aired.{aired_bytes}
use Rattle.air_channel.specs.Passing.{Airs}
use Rattle.air_channel.specs.Scripts.{ScriptData}
use Rattle.ssu_io.specs.Bytes.{Gains, GainsPrefix}
use Rattle.ssu_io.specs.Faults.{Rose}
use Rattle.ssu_io.specs.Files.{File}
use Rattle.ssu_io.specs.Seen.{SinkSeen, SourceSeen}
use Rattle.ssu_line.specs.Lines.{aired_line}
use Rattle.ssu_status.specs.declared.status.Status.{Status}
use Rattle.ssu_status.specs.declared.status.Status.TheVariants.{Absent, Done, NoMemory, PlanRefused, ReadFault, ShelfFault}
use Rattle.ssu_status.specs.declared.status.Status.TheVariants.{TooLong, WriteFault}
use Rattle.tool_air.specs.Held.{TellsScript}
use Rattle.ts_input.specs.Packets.{IsAtEnd}
use Rattle.ts_input.specs.Puts.{Puts, PutsOfMost, PutsPrefix}

-- The shelf has a script, and this holds of it.
pub record ForScript (held : Option (List File)) (Fact : ScriptData → Type 0) : Type 0 where
  pub script : ScriptData
  pub tells : TellsScript held script
  pub fact : Fact script

-- `made` got what the script makes of the packets taken, and `out` the line that counts it
pub record PutsAll (air : SourceSeen) (made out : SinkSeen) (script : ScriptData) : Type 0 where
  pub count : ℕ
  pub airs : Airs script count air.left air.left_after made.got made.got_after
  pub line : Gains out.got out.got_after (aired_line count)

-- `made` got what the script makes of the packets taken, and nothing was printed
abbrev pub PutsTaken : SourceSeen → SinkSeen → SinkSeen → ScriptData → Type 0
PutsTaken air made out script = Puts (aired_bytes script) air.left air.left_after made.got made.got_after × out.same

-- the same, where one byte behind the greatest number of packets was taken
abbrev pub PutsMost : SourceSeen → SinkSeen → SinkSeen → ScriptData → Type 0
PutsMost air made out script = PutsOfMost (aired_bytes script) air.left air.left_after made.got made.got_after × out.same

-- `made` failed on the way: it got a prefix of that, and nothing was printed
pub record StopsOnTheWay (air : SourceSeen) (made out : SinkSeen) (script : ScriptData) : Type 0 where
  pub puts : PutsPrefix (aired_bytes script) air.left air.left_after made.got made.got_after
  pub untold : out.same
  pub cause : Rose made.faults made.faults_after

-- the input was read to its end and `made` got all, and `out` failed: it got a prefix of the line
pub record StopsAtTheLine (air : SourceSeen) (made out : SinkSeen) (script : ScriptData) : Type 0 where
  pub count : ℕ
  pub airs : Airs script count air.left air.left_after made.got made.got_after
  pub end : IsAtEnd air.left_after
  pub line : GainsPrefix out.got out.got_after (aired_line count)
  pub cause : Rose out.faults out.faults_after

-- a write failed
abbrev pub PutsPart : SourceSeen → SinkSeen → SinkSeen → ScriptData → Type 0
PutsPart air made out script = StopsOnTheWay air made out script ⊎ StopsAtTheLine air made out script

-- what the command answers once the script was read
abbrev pub IsPutAnswer : Status → Type 0
IsPutAnswer Done = Unit {0}
IsPutAnswer ReadFault = Unit {0}
IsPutAnswer TooLong = Unit {0}
IsPutAnswer WriteFault = Unit {0}
IsPutAnswer other = ⊥

-- what the command answers
abbrev pub IsAnswer : Status → Type 0
IsAnswer (Absent name) = Unit {0}
IsAnswer ShelfFault = Unit {0}
IsAnswer (PlanRefused field) = Unit {0}
IsAnswer NoMemory = Unit {0}
IsAnswer other = IsPutAnswer other

-- the status comes before the first packet is taken
abbrev pub IsEarly : Status → Type 0
IsEarly Done = ⊥
IsEarly ReadFault = ⊥
IsEarly TooLong = ⊥
IsEarly WriteFault = ⊥
IsEarly other = Unit {0}

-- the status comes of no fault and of no bad field
abbrev pub IsUnrefused : Status → Type 0
IsUnrefused Done = Unit {0}
IsUnrefused TooLong = Unit {0}
IsUnrefused NoMemory = Unit {0}
IsUnrefused other = ⊥
