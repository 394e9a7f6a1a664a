-- What each answer of `replay` says.
use Rattle.std.specs.Prelude.{◌≡◌, ◌++◌, ℕ, Bool, List, Option, Some, None}
use Rattle.box_file.specs.declared.file.BoxFile.{BoxFile}
use Rattle.flash_bank.specs.Seen.{FlashSeen}
use Rattle.flash_bank.specs.Sound.{Boot, BootOf}
use Rattle.route_tables.specs.Values.{Receiver}
use Rattle.ssu_answer.specs.declared.chosen.Chosen.{Chosen}
use Rattle.ssu_io.specs.Bytes.{Gains, GainsPrefix}
use Rattle.ssu_io.specs.Faults.{Rose}
use Rattle.ssu_io.specs.Files.{File}
use Rattle.ssu_io.specs.Seen.{ShelfSeen, SinkSeen, SourceSeen}
use Rattle.ssu_line.specs.Lines.{verdict_line}
use Rattle.ssu_loader.specs.Lasting.{BreaksLasting, TakesLasting}
use Rattle.ssu_loader.specs.Life.{LeavesStep}
use Rattle.ssu_loader.specs.Replaying.{AsBox, Ends, Fails, IsNotBegun, receiver_at}
use Rattle.ssu_loader.specs.Replays.{TakesAndInstalls}
use Rattle.ssu_loader.specs.declared.fault.LoadFault.{LoadFault}
use Rattle.ssu_loader.specs.declared.fault.LoadFault.TheVariants as load_fault
use Rattle.ssu_answer.specs.declared.verdict.Verdict.{Verdict}
use Rattle.ssu_answer.specs.declared.verdict.Verdict.TheVariants as verdict
use Rattle.ssu_status.specs.declared.status.Status.{Status}
use Rattle.ssu_status.specs.declared.status.Status.TheVariants.{Installed, BoxRefused, Foreign, Nothing, Incomplete, BadModule, Absent}
use Rattle.ssu_status.specs.declared.status.Status.TheVariants.{ReadFault, WriteFault, FlashFault, Worn, TooLong, NoMemory, Geometry, ShelfFault, Unsettled}
use Rattle.tool_box.specs.Boxes.{RefusesBox, TellsBox, box_name}
use Rattle.tool_box.specs.Fetching.{Lacks}

-- the status of a replay without one
abbrev pub status_of_fault : LoadFault → Status
status_of_fault load_fault.Geometry = Geometry
status_of_fault load_fault.FlashFault = FlashFault
status_of_fault load_fault.Foreign = Foreign
status_of_fault load_fault.Worn = Worn
status_of_fault load_fault.Memory = NoMemory
status_of_fault load_fault.ReadFault = ReadFault
status_of_fault load_fault.TooLong = TooLong

-- The shelf told a box, this verdict came for it, and of its line this was printed.
pub record Tells (in_bank keeps : Bool) (verdict : Verdict) (Prints : Option (List ℕ) → Option (List ℕ) → List ℕ → Type 0) (shelf : ShelfSeen)
    (air : SourceSeen) (flash : FlashSeen) (out : SinkSeen) : Type 0 where
  pub box_file : BoxFile
  pub told : TellsBox shelf.held box_file
  pub ends : Ends in_bank keeps box_file air flash verdict
  pub prints : Prints out.got out.got_after (verdict_line verdict)

-- The shelf told a box, and this is why no verdict came for it. Nothing was printed.
pub record Refuses (keeps : Bool) (fault : LoadFault) (shelf : ShelfSeen) (air : SourceSeen) (flash : FlashSeen) (out : SinkSeen) : Type 0 where
  pub box_file : BoxFile
  pub told : TellsBox shelf.held box_file
  pub fails : Fails keeps box_file air flash fault
  pub unprinted : out.same

-- Source, flash and output were not called.
abbrev pub IsNotCalled : SourceSeen → FlashSeen → SinkSeen → Type 0
IsNotCalled air flash out = air.same × (flash.same × out.same)

-- What the answer says. There is no other one.
abbrev pub Says : Bool → Bool → Status → ShelfSeen → SourceSeen → FlashSeen → SinkSeen → Type 0
Says in_bank keeps (Installed chosen) shelf air flash out = Tells in_bank keeps (verdict.Installed chosen) Gains shelf air flash out
Says in_bank keeps (Nothing level) shelf air flash out = Tells in_bank keeps (verdict.Nothing level) Gains shelf air flash out
Says in_bank keeps (Incomplete chosen missing) shelf air flash out = Tells in_bank keeps (verdict.Incomplete chosen missing) Gains shelf air flash out
Says in_bank keeps (BadModule id want found) shelf air flash out = Tells in_bank keeps (verdict.BadModule id want found) Gains shelf air flash out
Says in_bank keeps Unsettled shelf air flash out = Tells in_bank keeps verdict.Unsettled Gains shelf air flash out
Says in_bank keeps WriteFault shelf air flash out =
    Rose out.faults out.faults_after × ((told : Verdict) × Tells in_bank keeps told GainsPrefix shelf air flash out)
Says in_bank keeps ReadFault shelf air flash out = Refuses keeps load_fault.ReadFault shelf air flash out
Says in_bank keeps TooLong shelf air flash out = Refuses keeps load_fault.TooLong shelf air flash out
Says in_bank keeps FlashFault shelf air flash out = Refuses keeps load_fault.FlashFault shelf air flash out
Says in_bank keeps Geometry shelf air flash out = Refuses keeps load_fault.Geometry shelf air flash out
Says in_bank keeps Foreign shelf air flash out = Refuses keeps load_fault.Foreign shelf air flash out
Says in_bank keeps Worn shelf air flash out = Refuses keeps load_fault.Worn shelf air flash out
Says in_bank keeps NoMemory shelf air flash out = IsNotBegun air flash × out.same
Says in_bank keeps (Absent name) shelf air flash out = IsNotCalled air flash out × ((name.bytes ≡ box_name) × Lacks shelf.held name.bytes)
Says in_bank keeps (BoxRefused field) shelf air flash out = IsNotCalled air flash out × RefusesBox shelf.held field.bytes
Says in_bank keeps ShelfFault shelf air flash out = IsNotCalled air flash out
Says in_bank keeps other shelf air flash out = ⊥

-- ---- for the promise

-- the fact where a module has not the CRC of its descriptor
abbrev pub OnBadModule : Status → Type 0 → Type 0
OnBadModule (BadModule id want found) fact = fact
OnBadModule other fact = Unit {0}

-- the fact where the answer is no decision, and the flash did not fail
abbrev pub OnNoDecision : Status → Type 0 → Type 0
OnNoDecision (Nothing level) fact = fact
OnNoDecision (Incomplete chosen missing) fact = fact
OnNoDecision ReadFault fact = fact
OnNoDecision TooLong fact = fact
OnNoDecision other fact = Unit {0}

-- the shelf tells its files, and its box file tells of this box
abbrev pub HoldsBox : Option (List File) → BoxFile → Type 0
HoldsBox (Some files) box_file = TellsBox (Some files) box_file
HoldsBox None box_file = ⊥

-- The shelf told a box, the packets that were taken carry this group whole for it, with the places of it that the stage kept and not without
-- the last packet, and y is x with its image installed.
pub record InstallsForBox (keeps : Bool) (shelf : ShelfSeen) (air : SourceSeen) (flash : FlashSeen) (former : Boot) (left : List ℕ) : Type 0 where
  pub box_file : BoxFile
  pub told : TellsBox shelf.held box_file
  pub chosen : Chosen
  pub installs : TakesAndInstalls (receiver_at keeps box_file flash former) air.left air.left_after flash.blocks flash.contents left chosen

-- For the box that the shelf told, a replay of the packets of the bytes that were taken may leave this, as a step of a life.
pub record StepsForBox (keeps : Bool) (shelf : ShelfSeen) (air : SourceSeen) (flash : FlashSeen) (former : Boot) (left : List ℕ) : Type 0 where
  pub box_file : BoxFile
  pub told : TellsBox shelf.held box_file
  pub step : LeavesStep box_file keeps air.left air.left_after flash.blocks former flash.contents left

-- For the box that the shelf told, a replay of the packets of the bytes that were taken may leave this: what was staged is, up to the end that
-- `Lasts` names, and the margin has fallen by n at most.
pub record LastsForBox (n : ℕ) (keeps : Bool) (shelf : ShelfSeen) (air : SourceSeen) (flash : FlashSeen) (former : Boot) (left : List ℕ)
    : Type 0 where
  pub box_file : BoxFile
  pub told : TellsBox shelf.held box_file
  pub takes : TakesLasting n (receiver_at keeps box_file flash former) air.left air.left_after flash.blocks flash.contents left

-- For the box that the shelf told, the flash failed at a packet: what was stored before it is, up to the end that `Lasts` names.
pub record BreaksForBox (keeps : Bool) (shelf : ShelfSeen) (air : SourceSeen) (flash : FlashSeen) : Type 0 where
  pub box_file : BoxFile
  pub told : TellsBox shelf.held box_file
  pub breaks : AsBox keeps box_file flash (λ me. BreaksLasting me air.left air.left_after flash.blocks flash.contents flash.contents_after)

-- This holds of the box that the shelf told, with this flash, and of the bytes that were taken, where shelf, flash and source tell them.
abbrev pub ForTaken : Bool → ShelfSeen → SourceSeen → FlashSeen → (Receiver → List ℕ → Type 0) → Type 0
ForTaken keeps shelf air flash Fact =
    (former : Boot) → BootOf flash.blocks flash.contents former → (box_file : BoxFile) → HoldsBox shelf.held box_file
    → (taken rest : List ℕ) → air.left ≡ Some (taken ++ rest) → air.left_after ≡ Some rest
    → Fact (receiver_at keeps box_file flash former) taken

-- No count of faults rose.
pub record NoneFailed (shelf : ShelfSeen) (air : SourceSeen) (flash : FlashSeen) (out : SinkSeen) : Type 0 where
  pub shelf_well : ¬ Rose shelf.faults shelf.faults_after
  pub air_well : ¬ Rose air.faults air.faults_after
  pub flash_well : ¬ Rose flash.faults flash.faults_after
  pub out_well : ¬ Rose out.faults out.faults_after
