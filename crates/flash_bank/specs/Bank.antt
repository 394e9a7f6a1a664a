-- What is seen of an open bank, and what it asks of the flash that it is lent.
use Rattle.std.specs.Prelude.{◌≡◌, ◌⊎◌, ℕ, ◌+◌, ◌-◌, Bool, true, false, List, length, slice_index}
use Rattle.flash_dev.specs.Changes.{Changes, IsBlank, IsTornProgram}
use Rattle.flash_layout.specs.Layout.{Geometry, area_place, journal_place, record_place}
use Rattle.flash_layout.specs.Shape.{geometry}
use Rattle.flash_bank.specs.Layout.{len_under}
use Rattle.flash_bank.specs.Leaving.{KeepsBoot}
use Rattle.flash_bank.specs.Record.{written}
use Rattle.flash_bank.specs.Runs.{IsRaised}
use Rattle.flash_bank.specs.Sound.{IsSound, IsCurrent, Commits, Keeps, KeepsBoth, boot_of, record_in}
use Rattle.flash_bank.specs.Spare.{FirstCut}
use Rattle.flash_bank.specs.declared.bank.Bank.{Bank}
use Rattle.flash_bank.specs.declared.record.Record.{Record}

-- the number and the length of the blocks that it was opened with
abbrev pub geometry_of : Bank → Geometry
geometry_of bank = geometry bank.shape

-- the current record, and the block that holds it
abbrev pub current_of : Bank → Record
current_of bank = bank.current

abbrev pub block_of : Bank → ℕ
block_of bank = bank.block

-- the spare bank was erased and no record committed since
abbrev pub is_begun : Bank → Bool
is_begun bank = bank.begun

-- a call failed, and no further one is allowed
abbrev pub is_spent : Bank → Bool
is_spent bank = bank.spent

-- the length of a bank
abbrev pub len_of : Bank → ℕ
len_of bank = len_under (geometry_of bank) (current_of bank)

-- the area that the current record does not name
abbrev pub spare_area : Bank → ℕ
spare_area bank = 1 - (current_of bank).bank

-- where the spare record block begins, and the spare bank, at the front of its area
abbrev pub spare_record : Bank → ℕ
spare_record bank = record_place (geometry_of bank) (1 - block_of bank)

abbrev pub spare_bank : Bank → ℕ
spare_bank bank = area_place (geometry_of bank) (spare_area bank)

-- in layout 2, where the spare journal begins
abbrev pub spare_journal : Bank → ℕ
spare_journal bank = journal_place (geometry_of bank) (spare_area bank)

-- The bank fits these contents: they are sound and have its current record. Where it was begun, the spare
-- record's place is erased.
pub record Fits (bank : Bank) (contents : List ℕ) : Type 0 where
  pub sound : IsSound (geometry_of bank) contents
  pub current : IsCurrent (geometry_of bank) contents (block_of bank)
  pub head : record_in (geometry_of bank) contents (block_of bank) ≡ current_of bank
  pub blank : is_begun bank ≡ true → IsBlank contents (spare_record bank) 64

-- The bank may be used with this flash: it is not spent, the flash has the blocks that it was opened with, and
-- where contents are told it fits them.
pub record IsLent {F : Type 0} (tells : Type 0) (contents : F → List ℕ) (block_count block_len : F → ℕ) (bank : Bank) (flash : F) : Type 0 where
  pub usable : is_spent bank ≡ false
  pub blocks : block_count flash ≡ (geometry_of bank).blocks
  pub block_size : block_len flash ≡ (geometry_of bank).block_len
  pub fits : tells → Fits bank (contents flash)

-- What `begin` may leave of x: boot takes what it took, only the spare record block and the spare area may differ, no
-- byte is below what it was, and in layout 2 the first block of the spare journal goes before all else of the area.
pub record LeavesBegun (g : Geometry) (x y : List ℕ) : Type 0 where
  pub keeps : KeepsBoot g x y
  pub raised : (k : ℕ) → IsRaised k (slice_index x k) (slice_index y k)
  pub first : (r : ℕ) → IsCurrent g x r → (record_in g x r).layout ≡ 2 → FirstCut g (1 - (record_in g x r).bank) x y

-- What `fill` may leave of x: boot takes what it took, also before, and only the range may differ, where no byte
-- is below the one to be written.
pub record LeavesFilled (bank : Bank) (at : ℕ) (bytes x y : List ℕ) : Type 0 where
  pub keeps : KeepsBoth (geometry_of bank) x y
  pub changes : Changes (spare_bank bank + at) (length bytes) (IsTornProgram bytes) x y

-- What `commit` may leave of x: boot takes what it took, or the new record with its image as it stands in x;
-- and only the spare record's place may differ, where no byte is below the one to be written.
pub record LeavesCommitted (bank : Bank) (new : Record) (x y : List ℕ) : Type 0 where
  pub boot : Keeps (geometry_of bank) x y ⊎ Commits (geometry_of bank) (boot_of (geometry_of bank) x new) x y
  pub changes : Changes (spare_record bank) 64 (IsTornProgram (written new)) x y
