-- What the command `replay` does: the promise of a loader, and then what each answer says.
use Rattle.std.specs.Prelude.{◌≡◌, ◌≤◌, ◌⊎◌, ◌++◌, ℕ, Bool, true, List, Some, length}
use Rattle.box_file.specs.declared.file.BoxFile.{BoxFile}
use Rattle.flash_bank.specs.Leaving.{KeepsBoot}
use Rattle.flash_bank.specs.Seen.{FlashSeen}
use Rattle.flash_bank.specs.Sound.{Boot, BootOf, IsSound, IsWorn}
use Rattle.flash_stage.specs.Keeping.{StagesNone}
use Rattle.ssu_answer.specs.declared.chosen.Chosen.{Chosen}
use Rattle.ssu_io.specs.Seen.{ShelfSeen, SinkSeen, SourceSeen}
use Rattle.ssu_loader.specs.Lasting.{KeepsMargin}
use Rattle.ssu_loader.specs.Remaining.{StagesStanding}
use Rattle.ssu_loader.specs.Replaying.{AtAnyMoment, IsNotBegun, IsReady, receiver_at}
use Rattle.ssu_loader.specs.Replays.{BeginsNone, CarriesFirst, heard_in, record_after}
use Rattle.ssu_loader.specs.Storing.{Stores}
use Rattle.ssu_status.specs.Answers.{IsFault}
use Rattle.ssu_status.specs.Status.{OnIncomplete}
use Rattle.ssu_status.specs.declared.status.Status.{Status}
use Rattle.ssu_status.specs.declared.status.Status.TheVariants.{FlashFault, Installed, NoMemory}
use Rattle.tool_box.specs.Boxes.{box_name}
use Rattle.tool_box.specs.Fetching.{HasNone, SaysAbsent}
use Rattle.tool_box.specs.Shelves.{ReadsShelf}
use Rattle.tool_replay.specs.Answers.{BreaksForBox, ForTaken, HoldsBox, InstallsForBox, LastsForBox, NoneFailed, OnBadModule, OnNoDecision, Says, StepsForBox}
use Rattle.ts_input.specs.Packets.{IsWithin}

-- What is said of contents holds of a flash that tells them, and of what may be left where it tells its moments.
-- `in_bank` says whether the places of a group are staged in the spare bank, and `keeps` whether the stage keeps those that the flash has
-- staged.
pub record Replays (in_bank keeps : Bool) (result : Status) (shelf : ShelfSeen) (air : SourceSeen) (flash : FlashSeen)
    (out : SinkSeen) : Type 0 where
  -- From sound contents, whatever packets come, power loss at any moment, within an erase or program too, leaves a
  -- flash whose boot takes the former image, or a matching, admitted group that the packets taken carry whole, with the
  -- places of it that the stage kept.
  pub at_any_moment : flash.tells → IsSound flash.blocks flash.contents
      → (former : Boot) → BootOf flash.blocks flash.contents former → AtAnyMoment flash
      (λ left. KeepsBoot flash.blocks flash.contents left ⊎ InstallsForBox keeps shelf air flash former left)
  -- Each that is left is what the flash held, or a step of a life (`life_holds` of ssu_loader): so of places it holds those that the flash
  -- held, and those that were heard.
  pub steps : flash.tells → IsSound flash.blocks flash.contents
      → (former : Boot) → BootOf flash.blocks flash.contents former → AtAnyMoment flash
      (λ left. (left ≡ flash.contents) ⊎ StepsForBox keeps shelf air flash former left)
  -- If packets at the front, with the places kept, carry a group whole, that is decided first, and no call fails, the
  -- answer is Installed, and boot takes its image.
  pub carried : flash.tells → IsReady flash → (former : Boot) → BootOf flash.blocks flash.contents former
      → (box_file : BoxFile) → HoldsBox shelf.held box_file → NoneFailed shelf air flash out → ¬ (result ≡ NoMemory)
      → (front rest : List ℕ) (chosen : Chosen) (image : List ℕ) → air.left ≡ Some (front ++ rest)
      → IsWithin (length front) → CarriesFirst (receiver_at keeps box_file flash former) front chosen image
      → (result ≡ Installed chosen)
      × BootOf flash.blocks flash.contents_after (record { head = record_after former.head chosen; image = image })
  -- Each answer comes exactly where it may, the flash is as it says, and the line of a verdict is printed.
  pub answers : Says in_bank keeps result shelf air flash out
  -- It comes of the shelf where it says so, and where no count of faults rises, it is no fault.
  pub files : ReadsShelf result shelf
  pub no_box : HasNone shelf.held box_name → SaysAbsent box_name result
  pub complete : NoneFailed shelf air flash out → ¬ IsFault result
  -- Where no choice of a group begins in the packets taken, the flash is only read.
  pub untouched : flash.tells → ForTaken keeps shelf air flash (λ me taken. BeginsNone me taken → flash.only_reads)
  -- At Incomplete each place that the standing choice has filled is in the spare bank, with the bytes of the first
  -- block that filled it, if its group is not one that is kept. What boot took before is gone, since a choice began.
  pub stored : flash.tells → in_bank ≡ true → ForTaken keeps shelf air flash (λ me taken. OnIncomplete result
      (λ chosen missing. Stores flash.blocks flash.contents_after me (heard_in me taken)))
  -- If it is one that is kept, it is staged in the flash, with just the places that are kept or filled and with their
  -- bytes. So no block is kept in memory alone.
  pub staged : flash.tells → keeps ≡ true → ForTaken keeps shelf air flash (λ me taken. OnIncomplete result
      (λ chosen missing. StagesStanding flash.blocks flash.contents_after me (heard_in me taken)))
  -- Of a group with a wrong module nothing stays staged.
  pub forgotten : flash.tells → keeps ≡ true → OnBadModule result (StagesNone flash.blocks flash.contents_after)
  -- What was staged stays staged at any moment, up to a choice with another message, a group with a wrong module or a record that is
  -- committed; the margin falls by one at most, and at an answer that is no fault of the flash not at all.
  pub lasts : flash.tells → keeps ≡ true → IsSound flash.blocks flash.contents
      → (former : Boot) → BootOf flash.blocks flash.contents former → AtAnyMoment flash
      (λ left. (left ≡ flash.contents) ⊎ LastsForBox 1 keeps shelf air flash former left)
  pub lasts_unfailed : flash.tells → keeps ≡ true → IsSound flash.blocks flash.contents
      → (former : Boot) → BootOf flash.blocks flash.contents former → ¬ (result ≡ FlashFault)
      → (flash.contents_after ≡ flash.contents) ⊎ LastsForBox 0 keeps shelf air flash former flash.contents_after
  -- Where nothing is decided: the group that is staged was staged before, with all that it has had and at least its margin; or the margin is
  -- whole, as where the group began anew.
  pub margin : flash.tells → keeps ≡ true → IsSound flash.blocks flash.contents
      → (former : Boot) → BootOf flash.blocks flash.contents former
      → OnNoDecision result (KeepsMargin flash.blocks flash.contents flash.contents_after)
  -- Where the flash failed at a packet, all that was stored before that packet stays so.
  pub faulted : flash.tells → keeps ≡ true → result ≡ FlashFault → IsNotBegun air flash ⊎ BreaksForBox keeps shelf air flash
  -- Contents that are not sound, or that no record can follow, are only read, and no packet is taken.
  pub refused : flash.tells → ¬ IsSound flash.blocks flash.contents ⊎ IsWorn flash.blocks flash.contents
      → IsNotBegun air flash
  -- The blocks stay as they are, and no count falls.
  pub blocks : flash.blocks_after ≡ flash.blocks
  pub air_later : air.faults ≤ air.faults_after
  pub flash_later : flash.faults ≤ flash.faults_after
  pub out_later : out.faults ≤ out.faults_after
