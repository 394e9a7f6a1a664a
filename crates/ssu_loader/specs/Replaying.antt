-- What a whole replay does for a box: what it leaves in the flash, and what each answer says.
use Rattle.std.specs.Prelude.{◌≡◌, ◌≤◌, ◌⊎◌, ◌++◌, ℕ, Bool, true, false, List, Some, length, Result, IfErr, IfOk, IsErrOf, IsOkAnd}
use Rattle.box_file.specs.declared.file.BoxFile.{BoxFile}
use Rattle.flash_layout.specs.Layout.{Geometry, IsInLimits}
use Rattle.flash_bank.specs.Layout.{len_under}
use Rattle.flash_bank.specs.Leaving.{KeepsBoot}
use Rattle.flash_bank.specs.Seen.{FlashSeen}
use Rattle.flash_bank.specs.Sound.{Boot, BootOf, IsSound, IsWorn}
use Rattle.flash_bank.specs.declared.record.Record.{Record}
use Rattle.ssu_answer.specs.declared.chosen.Chosen.{Chosen}
use Rattle.ssu_io.specs.Faults.{Rose}
use Rattle.ssu_io.specs.Seen.{SourceSeen}
use Rattle.ts_input.specs.Packets.{IsOneMore, IsWithin}
use Rattle.route_tables.specs.Values.{Opening, Receiver}
use Rattle.ssu_loader.specs.declared.fault.LoadFault.{LoadFault}
use Rattle.ssu_loader.specs.declared.fault.LoadFault.TheVariants as load_fault
use Rattle.ssu_loader.specs.declared.fault.LoadFault.TheVariants.{FlashFault, Foreign, Worn, Memory, ReadFault, TooLong}
use Rattle.ssu_answer.specs.declared.verdict.Verdict.{Verdict}
use Rattle.ssu_answer.specs.declared.verdict.Verdict.TheVariants.{Installed}
use Rattle.ssu_loader.specs.Lasting.{BreaksLasting, IsNoDecision, KeepsMargin, TakesLasting}
use Rattle.ssu_loader.specs.Opening.{opening_of}
use Rattle.ssu_loader.specs.Remaining.{StagesLast}
use Rattle.ssu_loader.specs.Replays.{BeginsNone, BreaksAtPacket, CarriesFirst, ComesSeen, EndsWith, HearsIn, ReachesNone, ReplayLeaves, record_after}
use Rattle.ssu_loader.specs.Verdicts.{receiver_of}

-- ---- the flash

-- Whenever the power goes in the call, within an erase or program too, it leaves contents that have this; and so have those at its
-- return, whatever it answers.
pub record AtAnyMoment (flash : FlashSeen) (P : List ℕ → Type 0) : Type 0 where
  pub left : flash.leaves_only P
  pub held : P flash.contents_after

-- Its blocks are in the limits, its contents are sound, and a record can follow the current one.
pub record IsReady (flash : FlashSeen) : Type 0 where
  pub limits : IsInLimits flash.blocks
  pub sound : flash.tells → IsSound flash.blocks flash.contents
  pub fresh : flash.tells → ¬ IsWorn flash.blocks flash.contents

-- ---- the box

-- the box of this file with a flash of these blocks, which runs the software of this record and found this at the opening
abbrev pub receiver_under : BoxFile → Geometry → Record → Opening → Receiver
receiver_under box_file g current opening = receiver_of box_file (len_under g current) current.software opening

-- the box of this file with this flash, of which boot takes this; `keeps` says whether its stage keeps the places that the flash has staged
abbrev pub receiver_at : Bool → BoxFile → FlashSeen → Boot → Receiver
receiver_at keeps box_file flash former =
    receiver_under box_file flash.blocks former.head (opening_of keeps flash.blocks former.head flash.contents)

-- This holds of the box of this file with this flash under some current record: that which boot takes, where the flash tells what it
-- holds.
pub record AsBox (keeps : Bool) (box_file : BoxFile) (flash : FlashSeen) (Fact : Receiver → Type 0) : Type 0 where
  pub current : Record
  pub boots : flash.tells → (former : Boot) → BootOf flash.blocks flash.contents former → former.head ≡ current
  pub fact : Fact (receiver_under box_file flash.blocks current (opening_of keeps flash.blocks current flash.contents))

-- It is known what the flash kept of the places of a group: the stage keeps none, or the flash tells what it holds.
abbrev pub IsKnown : Bool → FlashSeen → Type 0
IsKnown keeps flash = (keeps ≡ false) ⊎ flash.tells

-- ---- the answers

-- A verdict comes of the packets that were taken, and where the flash tells what it holds, it became as the verdict says.
pub record Ends (in_bank keeps : Bool) (box_file : BoxFile) (air : SourceSeen) (flash : FlashSeen) (verdict : Verdict) : Type 0 where
  pub ready : IsReady flash
  pub comes : AsBox keeps box_file flash (λ me. ComesSeen (IsKnown keeps flash) me air.left air.left_after verdict
      × (flash.tells → EndsWith in_bank keeps me air.left air.left_after flash.blocks flash.contents flash.contents_after verdict))

-- No packet was taken, and the flash was only read.
abbrev pub IsNotBegun : SourceSeen → FlashSeen → Type 0
IsNotBegun air flash = air.same × flash.only_reads

-- The flash failed at the opening, or at a packet before which no verdict was reached.
abbrev pub Breaks : Bool → BoxFile → SourceSeen → FlashSeen → Type 0
Breaks keeps box_file air flash =
    IsNotBegun air flash
    ⊎ (IsReady flash × AsBox keeps box_file flash (λ me. BreaksAtPacket (IsKnown keeps flash) me air.left air.left_after))

-- So many bytes were taken, and no verdict was reached in their packets. Boot takes what it took, and of a stage that keeps its places those of
-- the last choice are staged still.
pub record IsCutShort (keeping : Bool) (box_file : BoxFile) (air : SourceSeen) (flash : FlashSeen) (Length : ℕ → Type 0) : Type 0 where
  pub ready : IsReady flash
  pub reaches : AsBox keeping box_file flash (λ me. ReachesNone (IsKnown keeping flash) me air.left air.left_after Length)
  pub keeps : flash.tells → KeepsBoot flash.blocks flash.contents flash.contents_after
  pub staged : keeping ≡ true → flash.tells → AsBox keeping box_file flash (λ me.
      HearsIn me air.left air.left_after Length (λ heard. StagesLast me heard flash.blocks flash.contents_after))

-- Why there is no verdict.
abbrev pub Fails : Bool → BoxFile → SourceSeen → FlashSeen → LoadFault → Type 0
Fails keeps box_file air flash load_fault.Geometry = ¬ IsInLimits flash.blocks × IsNotBegun air flash
Fails keeps box_file air flash FlashFault = IsInLimits flash.blocks × (Rose flash.faults flash.faults_after × Breaks keeps box_file air flash)
Fails keeps box_file air flash Foreign =
    IsInLimits flash.blocks × ((flash.tells → ¬ IsSound flash.blocks flash.contents) × IsNotBegun air flash)
Fails keeps box_file air flash Worn = IsInLimits flash.blocks × ((flash.tells → IsWorn flash.blocks flash.contents) × IsNotBegun air flash)
Fails keeps box_file air flash Memory = IsReady flash × IsNotBegun air flash
Fails keeps box_file air flash ReadFault = Rose air.faults air.faults_after × IsCutShort keeps box_file air flash IsWithin
Fails keeps box_file air flash TooLong = IsCutShort keeps box_file air flash IsOneMore

-- ---- the whole

-- The group is installed, and boot takes this image of it.
abbrev pub IsInstalled : FlashSeen → Boot → Chosen → List ℕ → Verdict → Type 0
IsInstalled flash former chosen image verdict =
    (verdict ≡ Installed chosen)
    × BootOf flash.blocks flash.contents_after (record { head = record_after former.head chosen; image = image })

-- `in_bank` says whether the places of a group are staged in the spare bank, and `keeps` whether the stage keeps those that the flash has staged.
pub record ReplaysBox (in_bank keeps : Bool) (box_file : BoxFile) (result : Result Verdict LoadFault) (air : SourceSeen) (flash : FlashSeen)
    : Type 0 where
  -- Of sound contents boot takes, whenever the power goes, what it took, or a group that the packets taken carry whole.
  pub at_any_moment : flash.tells → IsSound flash.blocks flash.contents → (former : Boot) → BootOf flash.blocks flash.contents former
      → AtAnyMoment flash
      (ReplayLeaves (receiver_at keeps box_file flash former) air.left air.left_after flash.blocks flash.contents)
  -- If packets of the source carry a group whole, the first that is decided, and no call fails, it is installed.
  pub carried : flash.tells → IsReady flash → (former : Boot) → BootOf flash.blocks flash.contents former
      → ¬ Rose air.faults air.faults_after → ¬ Rose flash.faults flash.faults_after → ¬ IsErrOf result Memory
      → (front rest : List ℕ) (chosen : Chosen) (image : List ℕ) → air.left ≡ Some (front ++ rest) → IsWithin (length front)
      → CarriesFirst (receiver_at keeps box_file flash former) front chosen image
      → IsOkAnd result (IsInstalled flash former chosen image)
  -- What each answer says.
  pub ends : IfOk result (Ends in_bank keeps box_file air flash)
  pub fails : IfErr result (Fails keeps box_file air flash)
  -- Of a stage that keeps its places, what the flash had staged at the opening stays staged, up to the end that `Lasts` names, and the margin falls
  -- by one at most, for a fault or a power loss ends the replay. Where neither came it has not fallen.
  pub lasts : keeps ≡ true → flash.tells → IsSound flash.blocks flash.contents → (former : Boot) → BootOf flash.blocks flash.contents former
      → AtAnyMoment flash
      (TakesLasting 1 (receiver_at keeps box_file flash former) air.left air.left_after flash.blocks flash.contents)
  pub lasts_unfailed : ¬ IsErrOf result FlashFault → keeps ≡ true → flash.tells → IsSound flash.blocks flash.contents → (former : Boot)
      → BootOf flash.blocks flash.contents former
      → TakesLasting 0 (receiver_at keeps box_file flash former) air.left air.left_after flash.blocks flash.contents flash.contents_after
  -- Where nothing is decided and the flash did not fail: all that had been staged of the group that is staged is so still, and the margin has not
  -- fallen; or the margin is whole, as where the group began anew.
  pub margin : IsNoDecision result → keeps ≡ true → flash.tells → IsSound flash.blocks flash.contents → (former : Boot)
      → BootOf flash.blocks flash.contents former → KeepsMargin flash.blocks flash.contents flash.contents_after
  -- And where the flash failed at a packet, so does all that was stored before that packet.
  pub faulted : IsErrOf result FlashFault → keeps ≡ true → flash.tells
      → IsNotBegun air flash ⊎ AsBox keeps box_file flash (λ me. BreaksLasting me air.left air.left_after flash.blocks flash.contents flash.contents_after)
  -- Where no choice begins in what was taken, the flash is only read.
  pub untouched : flash.tells → (former : Boot) → BootOf flash.blocks flash.contents former
      → (taken rest : List ℕ) → air.left ≡ Some (taken ++ rest) → air.left_after ≡ Some rest
      → BeginsNone (receiver_at keeps box_file flash former) taken → flash.only_reads
  -- Contents that are not sound, or that no record can follow, are only read, and no packet is taken, whatever the answer.
  pub refused : flash.tells → ¬ IsSound flash.blocks flash.contents ⊎ IsWorn flash.blocks flash.contents → IsNotBegun air flash
  -- The blocks stay as they are, and no count falls.
  pub blocks : flash.blocks_after ≡ flash.blocks
  pub air_later : air.faults ≤ air.faults_after
  pub flash_later : flash.faults ≤ flash.faults_after
