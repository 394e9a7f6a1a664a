-- What is seen of the spare journal of a bank, and what the calls on it leave, which are for layout 2.
use Rattle.std.specs.Prelude.{◌≡◌, ◌⊎◌, ℕ, ◌+◌, ◌*◌, ◌<◌, ◌≤◌, ◌==◌, if◌then◌else◌, List, length, slice_index}
use Rattle.flash_dev.specs.Changes.{Changes, Holds, IsBlank, IsErased, IsProgrammed, IsTornProgram}
use Rattle.flash_layout.specs.Journal.{mark_written}
use Rattle.flash_layout.specs.Layout.{Geometry, journal_len, mark_count, slots_at}
use Rattle.flash_bank.specs.Bank.{current_of, geometry_of, spare_journal, spare_record}
use Rattle.flash_bank.specs.Runs.{IsOutside, IsRaised}
use Rattle.flash_bank.specs.Sound.{Keeps, KeepsBoth}
use Rattle.flash_bank.specs.declared.bank.Bank.{Bank}

-- the bytes of a journal and the number of its marks; in layout 1 there is none
abbrev pub journal_len_of : Bank → ℕ
journal_len_of bank = if (current_of bank).layout == 2 then journal_len (geometry_of bank) else 0

abbrev pub mark_count_of : Bank → ℕ
mark_count_of bank = if (current_of bank).layout == 2 then mark_count (geometry_of bank) else 0

-- in layout 2, where the pair of a mark stands in the spare journal, and where a slot begins
abbrev pub mark_place : Bank → ℕ → ℕ
mark_place bank place = spare_journal bank + 8448 + 2 * place

abbrev pub slot_place : Bank → ℕ → ℕ
slot_place bank slot = spare_journal bank + slots_at (geometry_of bank) + 4352 * slot

-- ---- some bytes and then others

-- Some bytes are programmed, and then others are on their way.
pub record ProgramsThen (at : ℕ) (bytes : List ℕ) (next : ℕ) (more x y : List ℕ) : Type 0 where
  pub between : List ℕ
  pub first : Changes at (length bytes) (IsProgrammed bytes) x between
  pub second : Changes next (length more) (IsTornProgram more) between y

-- the first are on their way, or they are done and the others are on theirs
abbrev pub CutsPut : ℕ → List ℕ → ℕ → List ℕ → List ℕ → List ℕ → Type 0
CutsPut at bytes next more x y = Changes at (length bytes) (IsTornProgram bytes) x y ⊎ ProgramsThen at bytes next more x y

-- Both stand, and all else is as in x.
pub record Puts (at : ℕ) (bytes : List ℕ) (next : ℕ) (more x y : List ℕ) : Type 0 where
  pub size : length y ≡ length x
  pub same : (k : ℕ) → IsOutside at (length bytes) k → IsOutside next (length more) k → slice_index y k ≡ slice_index x k
  pub first : Holds y at bytes
  pub second : Holds y next more

-- What the program of some bytes and then of others may leave of x: boot takes what it took, also before; only both ranges may differ,
-- where no byte is below the one to be written; and where all of the others stand, so do all of the first.
pub record LeavesPut (g : Geometry) (at : ℕ) (bytes : List ℕ) (next : ℕ) (more x y : List ℕ) : Type 0 where
  pub keeps : KeepsBoth g x y
  pub size : length y ≡ length x
  pub same : (k : ℕ) → IsOutside at (length bytes) k → IsOutside next (length more) k → slice_index y k ≡ slice_index x k
  pub first : (k : ℕ) → k < length bytes → slice_index bytes k ≤ slice_index y (at + k)
  pub second : (k : ℕ) → k < length more → slice_index more k ≤ slice_index y (next + k)
  pub whole : Holds y next more → Holds y at bytes

-- ---- the other calls

-- What a mark may leave of x: boot takes what it took, also before, and only the pair may differ, where no byte is below the one to be
-- written.
pub record LeavesMarked (bank : Bank) (place : ℕ) (x y : List ℕ) : Type 0 where
  pub keeps : KeepsBoth (geometry_of bank) x y
  pub changes : Changes (mark_place bank place) 2 (IsTornProgram mark_written) x y

-- What `resume` may leave of x: boot takes what it took, what it took before is as in x or is there no longer, and only the spare record
-- block may differ, where no byte is below what it was.
pub record LeavesResumed (bank : Bank) (x y : List ℕ) : Type 0 where
  pub keeps : Keeps (geometry_of bank) x y
  pub changes : Changes (spare_record bank) (geometry_of bank).block_len IsRaised x y

-- The block that begins at a place is cleared: nothing changes where its first 256 bytes are erased, and otherwise all of it is erased.
pub record ClearsBlock (at block_len : ℕ) (x y : List ℕ) : Type 0 where
  pub same : IsBlank x at 256 → y ≡ x
  pub erased : (IsBlank x at 256 → ⊥) → Changes at block_len IsErased x y
  pub blank : IsBlank y at 256

-- What `forget` may leave of x: boot takes what it took, also before, and only the first block of the spare journal may differ, where no
-- byte is below what it was.
pub record LeavesForgotten (bank : Bank) (x y : List ℕ) : Type 0 where
  pub keeps : KeepsBoth (geometry_of bank) x y
  pub changes : Changes (spare_journal bank) (geometry_of bank).block_len IsRaised x y
