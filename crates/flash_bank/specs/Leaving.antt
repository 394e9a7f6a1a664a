-- The part of a flash that boot does not take, and contents that are as before but there.
use Rattle.std.specs.Prelude.{◌≡◌, ℕ, ◌-◌, List, length, slice_index}
use Rattle.flash_layout.specs.Layout.{Geometry, area_len, area_place, record_place}
use Rattle.flash_bank.specs.Runs.{IsOutside}
use Rattle.flash_bank.specs.Sound.{IsCurrent, Commits, Keeps, record_in}
use Rattle.flash_bank.specs.declared.record.Record.{Record}

-- a place outside the spare record block and the spare area, where the current record stands in this block and names this bank
abbrev pub IsOutsideSpare : Geometry → ℕ → ℕ → ℕ → Type 0
IsOutsideSpare g block bank k =
    IsOutside (record_place g (1 - block)) g.block_len k × IsOutside (area_place g (1 - bank)) (area_len g) k

-- y is x but in the spare record block and the spare area
pub record SameOutsideSpare (g : Geometry) (x y : List ℕ) : Type 0 where
  pub size : length y ≡ length x
  pub same : (block k : ℕ) → IsCurrent g x block → IsOutsideSpare g block (record_in g x block).bank k
      → slice_index y k ≡ slice_index x k

-- Boot takes of y what it took of x, what it took before is as in x or is there no longer, and only the spare record block and
-- the spare area may differ.
pub record KeepsBoot (g : Geometry) (x y : List ℕ) : Type 0 where
  pub keeps : Keeps g x y
  pub outside : SameOutsideSpare g x y

-- Boot takes of y this image under this record, before it took what boot takes of x, and only the spare record block and the
-- spare area may differ.
pub record Installs (g : Geometry) (new : Record) (image x y : List ℕ) : Type 0 where
  pub commits : Commits g (record { head = new; image = image }) x y
  pub outside : SameOutsideSpare g x y
