-- What a flash holds once it is formatted.
use Rattle.std.specs.Prelude.{◌≡◌, ℕ, ◌+◌, ◌*◌, ◌<◌, ◌≤◌, nat_le, ◌==◌, if◌then◌else◌, List, length, slice_index}
use Rattle.flash_dev.specs.Changes.{Changes, IsBlank, IsErased, IsProgrammed}
use Rattle.flash_layout.specs.Layout.{Geometry, area_len, area_place, journal_len, journal_place}
use Rattle.flash_bank.specs.Record.{written}
use Rattle.flash_bank.specs.Runs.{IsOutside}
use Rattle.flash_bank.specs.Sound.{IsSound, Boot, BootOf, PrevOf}
use Rattle.flash_bank.specs.declared.record.Record.{Record}
use Rattle.ssu_compat.specs.declared.rule.SwId.{SwId}

-- the layout that a flash is formatted with: 2 where it exists
abbrev pub layout_for : Geometry → ℕ
layout_for g = if nat_le 1048576 (area_len g) then 2 else 1

-- the record of an image of this length
abbrev pub first_record : ℕ → ℕ → SwId → Record
first_record layout len software = record { layout = layout; number = 1; bank = 0; length = len; software = software; group = 0 }

-- the bytes of a journal in a layout
abbrev pub journal_in : Geometry → ℕ → ℕ
journal_in g layout = if layout == 2 then journal_len g else 0

-- y is x but in both record blocks, in area 0, and in layout 2 in the journal of area 1
pub record SameOutsideFirst (g : Geometry) (layout : ℕ) (x y : List ℕ) : Type 0 where
  pub size : length y ≡ length x
  pub same : (k : ℕ) → IsOutside 0 (2 * g.block_len) k → IsOutside (area_place g 0) (area_len g) k → IsOutside (journal_place g 1) (journal_in g layout) k
      → slice_index y k ≡ slice_index x k

-- y is sound, boot takes this record with the image and took nothing before; all else of the record blocks and of area 0 is erased, and in
-- layout 2 both journals are; what lies outside of them is as in x
pub record Formats (g : Geometry) (head : Record) (image x y : List ℕ) : Type 0 where
  pub sound : IsSound g y
  pub boot : BootOf g y (record { head = head; image = image })
  pub no_prev : (b : Boot) → PrevOf g y b → ⊥
  pub erased_records : (k : ℕ) → 64 ≤ k → k < 2 * g.block_len → slice_index y k ≡ 255
  pub erased_area : (k : ℕ) → length image ≤ k → k < area_len g → slice_index y (area_place g 0 + k) ≡ 255
  pub erased_journals : head.layout ≡ 2 → (k : ℕ) → k < 2 → IsBlank y (journal_place g k) (journal_len g)
  pub outside : SameOutsideFirst g head.layout x y

-- the steps: both record blocks, area 0 and the journal of area 1 are erased, the image is put there, and the record before it
pub record PutsFirst (g : Geometry) (image : List ℕ) (head : Record) (x y : List ℕ) : Type 0 where
  pub no_records : List ℕ
  pub no_area : List ℕ
  pub no_image : List ℕ
  pub no_head : List ℕ
  pub erases_records : Changes 0 (2 * g.block_len) IsErased x no_records
  pub erases_area : Changes (area_place g 0) (area_len g) IsErased no_records no_area
  pub erases_journal : Changes (journal_place g 1) (journal_in g head.layout) IsErased no_area no_image
  pub puts_image : Changes (area_place g 0) (length image) (IsProgrammed image) no_image no_head
  pub puts_head : Changes 0 64 (IsProgrammed (written head)) no_head y
