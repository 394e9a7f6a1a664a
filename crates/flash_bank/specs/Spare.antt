-- What the erases of `begin` make of contents: the spare record block goes first, then the spare area, in layout 2 its journal
-- before its bank.
use Rattle.std.specs.Prelude.{◌≡◌, ◌⊎◌, ℕ, ◌+◌, ◌-◌, ◌≤◌, ◌<◌, List, length, slice_index}
use Rattle.flash_dev.specs.Changes.{Changes, IsBlank}
use Rattle.flash_layout.specs.Layout.{Geometry, area_len, area_place, journal_len, journal_place, record_place, short_len}
use Rattle.flash_bank.specs.Runs.{IsOutside, IsRaised, SameAt}

-- Of area k only the first block of the journal has changed, in which no byte is below what it was.
pub record OnlyFirst (g : Geometry) (k : ℕ) (x y : List ℕ) : Type 0 where
  pub bank : SameAt (area_place g k) (short_len g) x y
  pub first : (i : ℕ) → i < g.block_len → slice_index x (journal_place g k + i) ≤ slice_index y (journal_place g k + i)
  pub rest : SameAt (journal_place g k + g.block_len) (journal_len g - g.block_len) x y

-- the same, or that block is erased
abbrev pub FirstCut : Geometry → ℕ → List ℕ → List ℕ → Type 0
FirstCut g k x y = OnlyFirst g k x y ⊎ IsBlank y (journal_place g k) g.block_len

-- The record block is erased, and beside it only the area has changed, in which no byte is below what it was.
pub record Clears (g : Geometry) (layout block k : ℕ) (x y : List ℕ) : Type 0 where
  pub size : length y ≡ length x
  pub outside : (i : ℕ) → IsOutside (record_place g block) g.block_len i → IsOutside (area_place g k) (area_len g) i → slice_index y i ≡ slice_index x i
  pub raised : (i : ℕ) → IsRaised i (slice_index x i) (slice_index y i)
  pub blank : IsBlank y (record_place g block) g.block_len
  pub first : layout ≡ 2 → FirstCut g k x y

-- the record block is on its way, or it is erased and the area is on its way
abbrev pub CutsSpare : Geometry → ℕ → ℕ → ℕ → List ℕ → List ℕ → Type 0
CutsSpare g layout block k x y = Changes (record_place g block) g.block_len IsRaised x y ⊎ Clears g layout block k x y

-- both are erased
pub record Cleared (g : Geometry) (layout block k : ℕ) (x y : List ℕ) : Type 0 where
  pub clears : Clears g layout block k x y
  pub area : IsBlank y (area_place g k) (area_len g)

-- the first block of a journal is on its way, or it is erased and the others are on their way
pub record FirstGone (g : Geometry) (k : ℕ) (x y : List ℕ) : Type 0 where
  pub all : Changes (journal_place g k) (journal_len g) IsRaised x y
  pub first : IsBlank y (journal_place g k) g.block_len

abbrev pub CutsJournal : Geometry → ℕ → List ℕ → List ℕ → Type 0
CutsJournal g k x y = Changes (journal_place g k) g.block_len IsRaised x y ⊎ FirstGone g k x y
