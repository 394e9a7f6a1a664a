-- A command of the flash over a flash with spares.
use Rattle.std.specs.Prelude.{◌≡◌, ◌⊎◌, ◌+◌, ◌-◌, ◌*◌, ◌^◌, ◌<◌, ◌≤◌, ℕ, List, true, false}
use Rattle.std.specs.declared.marker.Brand.{Brand}
use Rattle.flash_bank.specs.Leaving.{KeepsBoot}
use Rattle.flash_bank.specs.Migrate.{LeavesMoved}
use Rattle.flash_bank.specs.Seen.{FlashSeen, flash_seen}
use Rattle.flash_bank.specs.Sound.{Boot, BootOf, IsSound}
use Rattle.flash_dev.specs.Changes.{Changes, IsErased, IsTornErase}
use Rattle.flash_dev.specs.Moments.{LeavesOnly}
use Rattle.flash_dev.specs.declared.device.Flash.{Ghosts as FlashGhosts}
use Rattle.flash_remap.specs.Layout.{IsInLimits, geometry_in, left_from}
use Rattle.flash_remap.specs.Logical.{logical}
use Rattle.flash_remap.specs.Map.{next_slot, next_spare}
use Rattle.flash_remap.specs.Reads.{ChangesNothing}
use Rattle.flash_remap.specs.Seen.{block_count_of, block_len_of, contents_of, faults_of, geometry_of, halted_of, inner_of, left_of, left_since_of}
use Rattle.flash_remap.specs.Seen.{worn_of}
use Rattle.flash_remap.specs.declared.remap.Remap.{Remap}
use Rattle.ssu_io.specs.Faults.{Rose}
use Rattle.ssu_io.specs.Seen.{ShelfSeen, SinkSeen, SourceSeen}
use Rattle.ssu_status.specs.Words.{Task, ToFormat, ToMigrate, ToReplay}
use Rattle.ssu_status.specs.declared.status.Status.{Status}
use Rattle.ssu_status.specs.declared.status.Status.TheVariants.{FlashFault, Geometry}
use Rattle.ssu_tool.specs.Does.{Does}
use Rattle.tool_replay.specs.Answers.{InstallsForBox}
use Rattle.ssu_tool.specs.declared.opened.Opened.{Opened}
use Rattle.ssu_tool.specs.declared.opened.Opening.{Ghosts as OpeningGhosts}

-- The flash is refused before anything is done to it: with so many spares it is out of the limits, and for `format`, which
-- prepares it first, it has no room for any.
abbrev pub IsRefusedAtOnce : Task → ℕ → ℕ → Type 0
IsRefusedAtOnce (ToFormat name) blocks spares = blocks < 6
IsRefusedAtOnce other blocks spares = IsInLimits blocks spares → ⊥

module _ {F : Type 0} (f : FlashGhosts F) where
  -- how an opened flash is parted, how often that beneath had failed, and how many replacements were left
  abbrev pub opening : Remap F f → OpeningGhosts Brand
  opening remap = record { geometry = geometry_of remap; count = f.faults (inner_of remap); left = left_of remap }

  -- the last block, byte by byte, was changed so, and a power loss since leaves no more than its erase torn
  pub record ChangesMap (P : ℕ → ℕ → ℕ → Type 0) (old new : F) : Type 0 where
    pub held : f.tells → Changes ((f.block_count old - 1) * f.block_len old) (f.block_len old) P (f.contents old) (f.contents new)
    pub left : LeavesOnly f.moment f.left_since old new (λ y. f.tells
        → Changes ((f.block_count old - 1) * f.block_len old) (f.block_len old) IsTornErase (f.contents old) y)
    pub blocks : f.block_count new ≡ f.block_count old
    pub block_size : f.block_len new ≡ f.block_len old

  -- Before a command the map is read; for `format` it is changed so first.
  abbrev pub IsReadied : (ℕ → ℕ → ℕ → Type 0) → Task → F → F → Type 0
  IsReadied P (ToFormat name) old new = ChangesMap P old new
  IsReadied P other old new = ChangesNothing f old new

  -- The flash was refused, and no command begun: with so many spares it is out of the limits, or it failed. For `format` the map may
  -- be torn or erased.
  pub record IsRefused (task : Task) (spares : ℕ) (flash new : F) (status : Status) (shelf : ShelfSeen) (air : SourceSeen)
      (made out : SinkSeen) : Type 0 where
    pub cause : ((status ≡ Geometry) × (IsInLimits (f.block_count flash) spares → ⊥))
        ⊎ ((status ≡ FlashFault) × Rose (f.faults flash) (f.faults new))
    pub at_once : IsRefusedAtOnce task (f.block_count flash) spares → (status ≡ Geometry) × (new ≡ flash)
    pub readied : IsReadied IsTornErase task flash new
    pub not_at_once : status ≡ Geometry → (IsRefusedAtOnce task (f.block_count flash) spares → ⊥) → IsReadied IsErased task flash new
    pub shelf_same : shelf.same
    pub air_same : air.same
    pub made_same : made.same
    pub out_same : out.same

  module _ {K : Type 0} (k : OpeningGhosts K) where
    -- what layers above see of a flash with spares: the logical contents
    abbrev pub opened_ghosts : FlashGhosts (Opened F K f k)
    opened_ghosts = record {
      tells = f.tells;
      tells_moments = f.tells × f.tells_moments;
      contents = λ it. contents_of it.remap;
      block_count = λ it. block_count_of it.remap;
      block_len = λ it. block_len_of it.remap;
      moment = λ it. f.moment (inner_of it.remap);
      left_since = λ it. left_since_of it.remap;
      halted = λ it. halted_of it.remap;
      faults = λ it. faults_of it.remap;
    }

    abbrev pub seen_of : Opened F K f k → Opened F K f k → FlashSeen
    seen_of before after = flash_seen opened_ghosts before after

    -- From sound logical contents, whatever packets come, power loss at any moment since the flash was handed in, within an erase or a
    -- program too, leaves contents beneath whose logical contents are such that boot takes the former image, or a matching, admitted
    -- group that the packets taken carry whole.
    pub record KeepsBootAtAnyMoment (flash new : F) (before after : Opened F K f k) (shelf : ShelfSeen) (air : SourceSeen) : Type 0 where
      pub keeps : f.tells → IsSound (seen_of before after).blocks (contents_of before.remap) → (former : Boot)
          → BootOf (seen_of before after).blocks (contents_of before.remap) former → (left : List ℕ) → f.left_since new (f.moment flash) left
          → KeepsBoot (seen_of before after).blocks (contents_of before.remap) (logical (geometry_of before.remap) left)
          ⊎ InstallsForBox true shelf air (seen_of before after) former (logical (geometry_of before.remap) left)

    -- From sound logical contents, power loss at any moment since the flash was handed in leaves contents beneath whose logical contents
    -- are such that boot takes the former image, with its software and group.
    pub record KeepsUpdateAtAnyMoment (flash new : F) (before after : Opened F K f k) : Type 0 where
      pub keeps : f.tells → IsSound (seen_of before after).blocks (contents_of before.remap) → (left : List ℕ) → f.left_since new (f.moment flash) left
          → LeavesMoved (seen_of before after).blocks (contents_of before.remap) (logical (geometry_of before.remap) left)

    -- A command was done to a flash with spares since its opening. Its failures are failures of the flash beneath. No more
    -- replacements are used than the count of that rose by, until it stands still, and where the flash is worn, none is left.
    pub record IsDone (task : Task) (remap : Remap F f) (new : F) (status : Status) (shelf : ShelfSeen) (air : SourceSeen)
        (made out : SinkSeen) : Type 0 where
      pub before : Opened F K f k
      pub after : Opened F K f k
      pub opened : before.remap ≡ remap
      pub does : Does task status shelf air (seen_of before after) made out
      pub back : new ≡ inner_of after.remap
      pub parted : geometry_of after.remap ≡ geometry_of remap
      pub later : f.faults (inner_of remap) ≤ f.faults new
      pub fewer : left_of after.remap ≤ left_of remap
      pub uses : (2 ^ 64 ≤ f.faults new + 1) ⊎ (left_of remap + f.faults (inner_of remap) ≤ left_of after.remap + f.faults new)
      pub cause : status ≡ FlashFault → Rose (f.faults (inner_of remap)) (f.faults new)
      pub used_up : worn_of after.remap ≡ true → left_of after.remap ≡ 0

  -- The command was done to the flash with spares. For `format` the map was erased first. Before it, that has the logical contents of
  -- the flash beneath, the replacements that its map leaves, and no failure.
  pub record IsServed (task : Task) (spares : ℕ) (flash new : F) (status : Status) (shelf : ShelfSeen) (air : SourceSeen)
      (made out : SinkSeen) : Type 0 where
    pub limits : IsInLimits (f.block_count flash) spares
    pub remap : Remap F f
    pub readied : IsReadied IsErased task flash (inner_of remap)
    pub parted : geometry_of remap ≡ geometry_in (f.block_count flash) spares (f.block_len flash)
    pub left : f.tells → left_of remap ≡ left_from (geometry_of remap) (next_spare (geometry_of remap) (f.contents (inner_of remap)))
        (next_slot (geometry_of remap) (f.contents (inner_of remap)))
    pub fresh : faults_of remap ≡ 0
    pub goes : worn_of remap ≡ false
    pub done : IsDone (opening remap) task remap new status shelf air made out
    pub at_any_moment : task ≡ ToReplay → KeepsBootAtAnyMoment (opening remap) flash new done.before done.after shelf air
    pub moved_at_any_moment : task ≡ ToMigrate → KeepsUpdateAtAnyMoment (opening remap) flash new done.before done.after
    -- a fault of the flash is one of the flash beneath in this call
    pub cause : status ≡ FlashFault → Rose (f.faults flash) (f.faults new)

  -- A command line of the flash with `spares S` behind it.
  abbrev pub DoesSpared : Task → ℕ → F → F → Status → ShelfSeen → SourceSeen → SinkSeen → SinkSeen → Type 0
  DoesSpared task spares flash new status shelf air made out =
      IsRefused task spares flash new status shelf air made out ⊎ IsServed task spares flash new status shelf air made out
