-- What the commands of a flash do.
use Rattle.std.specs.Prelude.{◌≡◌, ◌↔◌, ◌≤◌, ℕ, List}
use Rattle.box_file.specs.declared.file.BoxFile.{BoxFile}
use Rattle.flash_bank.specs.Format.{SameOutsideFirst, layout_for}
use Rattle.flash_layout.specs.Layout.{IsInLimits}
use Rattle.flash_bank.specs.Migrate.{IsWornOut, LacksRoom, LeavesMoved}
use Rattle.flash_bank.specs.Seen.{FlashSeen}
use Rattle.flash_bank.specs.Sound.{IsSound}
use Rattle.flash_bank.specs.declared.record.Record.{Record}
use Rattle.ssu_io.specs.Bytes.{Gains, GainsPrefix}
use Rattle.ssu_io.specs.Faults.{Rose}
use Rattle.ssu_io.specs.Seen.{ShelfSeen, SinkSeen, StopsWriting}
use Rattle.ssu_line.specs.Lines.{blank_line}
use Rattle.ssu_status.specs.Answers.{IsFault, IsPrinted}
use Rattle.ssu_status.specs.Status.{OnAbsent, OnBoxRefused, OnDone, OnWriteFault}
use Rattle.ssu_status.specs.declared.status.Status.{Status}
use Rattle.ssu_status.specs.declared.status.Status.TheVariants.{Done, Geometry}
use Rattle.tool_box.specs.Boxes.{RefusesBox, TellsBox, box_name}
use Rattle.tool_box.specs.Fetching.{HasNone, SaysAbsent, SaysAbsentOrFails}
use Rattle.tool_box.specs.Shelves.{ReadsShelf}
use Rattle.tool_flash.specs.Answers.{IsBootAnswer, IsFormatAnswer, IsMigrateAnswer, OnFilesRead, OnFilesRefused, OnFlashFault}
use Rattle.tool_flash.specs.Answers.{OnForeign, OnNoFit, OnOpeningRefused, OnTaken, OnUnprinted, OnUntouched, OnWorn}
use Rattle.tool_flash.specs.Blank.{blank_bytes}
use Rattle.tool_flash.specs.Boots.{Boots, BootsPart, MakesPrefix}
use Rattle.tool_flash.specs.Formatting.{FormatsFile, IsFirstAbsent, Judges}
use Rattle.tool_flash.specs.Migrating.{MigrateDecides, MigratesFlash}

-- `blank N` puts N blocks of 4,096 bytes 255 into `made`, and a line into `out`.
pub record BlankDoes (blocks : ℕ) (result : Status) (made out : SinkSeen) : Type 0 where
  -- Done: all of this was put.
  pub makes : OnDone result (Gains made.got made.got_after (blank_bytes blocks))
  pub prints : OnDone result (Gains out.got out.got_after (blank_line blocks))
  -- A write failed on the way.
  pub write_fault : OnWriteFault result (StopsWriting made out (blank_bytes blocks) (blank_line blocks))
  -- There is no other answer, and without a fault it is Done.
  pub answers : IsPrinted result
  pub complete : ¬ Rose made.faults made.faults_after → ¬ Rose out.faults out.faults_after → result ≡ Done
  -- The counts of faults never fall.
  pub made_later : made.faults ≤ made.faults_after
  pub out_later : out.faults ≤ out.faults_after

-- `format FILE` formats the flash with the bytes of the file and the software of box.toml, and puts a line into `out`.
pub record FormatDoes (name : List ℕ) (result : Status) (shelf : ShelfSeen) (flash : FlashSeen) (out : SinkSeen)
    : Type 0 where
  -- Done: the flash is formatted with these, and `out` got the line.
  pub done : OnDone result (FormatsFile Gains shelf.held name flash out)
  -- box.toml is not there, or this is its first bad field; then, the file is not there. The flash is as before.
  pub absent : OnAbsent result (λ told. IsFirstAbsent shelf.held name told)
  pub no_box : HasNone shelf.held box_name → SaysAbsent box_name result
  pub box_refused : OnBoxRefused result (λ field. RefusesBox shelf.held field)
  pub no_file : (box_file : BoxFile) → TellsBox shelf.held box_file → HasNone shelf.held name
      → SaysAbsentOrFails name result
  pub files_refused : OnFilesRefused result flash.same
  -- Once both were read: Geometry comes exactly where the blocks are out of the limits, and NoFit exactly where the file is
  -- longer than a bank. The flash is not changed.
  pub files_read : OnFilesRead result (Judges shelf.held name flash.blocks result)
  pub untouched : OnUntouched result flash.only_reads
  -- The flash failed: the other bank and an odd last block are as before.
  pub flash_fault : OnFlashFault result
      (flash.tells → SameOutsideFirst flash.blocks (layout_for flash.blocks) flash.contents flash.contents_after)
  pub flash_cause : OnFlashFault result (Rose flash.faults flash.faults_after)
  -- `out` failed: the flash is formatted, and `out` got a prefix of the line.
  pub write_fault : OnWriteFault result (FormatsFile GainsPrefix shelf.held name flash out)
  pub write_cause : OnWriteFault result (Rose out.faults out.faults_after)
  pub unprinted : OnUnprinted result out.same
  -- There is no other answer, and without a fault none that tells of one.
  pub answers : IsFormatAnswer result
  pub complete : ¬ Rose shelf.faults shelf.faults_after → ¬ Rose flash.faults flash.faults_after
      → ¬ Rose out.faults out.faults_after → ¬ IsFault result
  -- The shelf holds what it held, the flash has its blocks, and the counts of faults never fall.
  pub files : ReadsShelf result shelf
  pub blocks : flash.blocks_after ≡ flash.blocks
  pub flash_later : flash.faults ≤ flash.faults_after
  pub out_later : out.faults ≤ out.faults_after

-- `boot` puts the image that boot takes into `made`, and a line of its record into `out`. It does not change the flash.
pub record BootDoes (result : Status) (flash : FlashSeen) (made out : SinkSeen) : Type 0 where
  -- Done: all of this was put.
  pub done : OnDone result (Boots Gains flash made out)
  -- Geometry comes exactly where the blocks are out of the limits.
  pub geometry : (result ≡ Geometry) ↔ (IsInLimits flash.blocks → ⊥)
  -- The contents are not sound; they are, where something was put.
  pub foreign : flash.tells → OnForeign result (IsSound flash.blocks flash.contents → ⊥)
  pub sound : flash.tells → OnTaken result (IsSound flash.blocks flash.contents)
  pub refused : OnOpeningRefused result made.same
  -- The flash failed: nothing was made, or a prefix of the image.
  pub flash_fault : OnFlashFault result (flash.tells → MakesPrefix flash made)
  pub flash_cause : OnFlashFault result (Rose flash.faults flash.faults_after)
  -- A write failed on the way.
  pub write_fault : OnWriteFault result (BootsPart flash made out)
  pub unprinted : OnUnprinted result out.same
  pub reads : flash.only_reads
  -- There is no other answer, and without a fault none that tells of one.
  pub answers : IsBootAnswer result
  pub complete : ¬ Rose flash.faults flash.faults_after → ¬ Rose made.faults made.faults_after
      → ¬ Rose out.faults out.faults_after → ¬ IsFault result
  -- The counts of faults never fall.
  pub flash_later : flash.faults ≤ flash.faults_after
  pub made_later : made.faults ≤ made.faults_after
  pub out_later : out.faults ≤ out.faults_after

-- `migrate` turns a flash of layout 1 into one of layout 2 with the same image, and puts a line into `out`.
pub record MigrateDoes (result : Status) (flash : FlashSeen) (out : SinkSeen) : Type 0 where
  -- Done: the flash has layout 2, and `out` got the line.
  pub done : OnDone result (MigratesFlash Gains flash out)
  -- Geometry comes exactly where the blocks are out of the limits.
  pub geometry : (result ≡ Geometry) ↔ (IsInLimits flash.blocks → ⊥)
  -- The contents are not sound; else the current record is of layout 1, and none can follow it; else there is no room for its image.
  pub foreign : flash.tells → OnForeign result (IsSound flash.blocks flash.contents → ⊥)
  pub worn : flash.tells → OnWorn result ((head : Record) × IsWornOut flash.blocks flash.contents head)
  pub no_fit : flash.tells → OnNoFit result ((head : Record) × LacksRoom flash.blocks flash.contents head)
  pub decides : flash.tells → IsInLimits flash.blocks → MigrateDecides flash.blocks flash.contents result
  pub untouched : OnUntouched result flash.only_reads
  -- At every moment boot takes the former image, with its software and group. Contents that are not sound are not changed.
  pub held : flash.tells → IsSound flash.blocks flash.contents → LeavesMoved flash.blocks flash.contents flash.contents_after
  pub at_any_moment : flash.tells → IsSound flash.blocks flash.contents
      → flash.leaves_only (LeavesMoved flash.blocks flash.contents)
  pub unsound : flash.tells → (IsSound flash.blocks flash.contents → ⊥) → flash.only_reads
  pub flash_cause : OnFlashFault result (Rose flash.faults flash.faults_after)
  -- `out` failed: the flash has layout 2, and `out` got a prefix of the line.
  pub write_fault : OnWriteFault result (MigratesFlash GainsPrefix flash out)
  pub write_cause : OnWriteFault result (Rose out.faults out.faults_after)
  pub unprinted : OnUnprinted result out.same
  -- There is no other answer, and without a fault none that tells of one.
  pub answers : IsMigrateAnswer result
  pub complete : ¬ Rose flash.faults flash.faults_after → ¬ Rose out.faults out.faults_after → ¬ IsFault result
  -- The flash has its blocks, and the counts of faults never fall.
  pub blocks : flash.blocks_after ≡ flash.blocks
  pub flash_later : flash.faults ≤ flash.faults_after
  pub out_later : out.faults ≤ out.faults_after
