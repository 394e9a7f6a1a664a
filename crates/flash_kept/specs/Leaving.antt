-- What the calls of a bank leave of its spare area, place by place.
use Rattle.std.specs.Prelude.{◌≡◌, ◌≢◌, ◌⊎◌, ℕ, ◌+◌, ◌*◌, ◌<◌, ◌≤◌, List, Some, length, slice_index}
use Rattle.dsmcc_msg.specs.Control.{DiiFields}
use Rattle.flash_dev.specs.Changes.{IsBlank}
use Rattle.flash_layout.specs.Journal.{header_written}
use Rattle.flash_layout.specs.Pairs.{paired}
use Rattle.flash_layout.specs.Slots.{slot_written}
use Rattle.ssu_group.specs.declared.places.Place.{Place}
use Rattle.flash_kept.specs.Lost.{lost_places}
use Rattle.flash_kept.specs.Places.{place_count, place_of}
use Rattle.flash_kept.specs.Slots.{free_slots}
use Rattle.flash_kept.specs.SpareArea.{IsInOrder, SpareArea, mark_place, message_place, slot_bytes, slot_place}

-- a place outside the n bytes from `at` on
abbrev pub IsOutside : ℕ → ℕ → ℕ → Type 0
IsOutside at n k = (k < at) ⊎ (at + n ≤ k)

-- y is x in the n bytes from `at` on
abbrev pub SameIn : ℕ → ℕ → List ℕ → List ℕ → Type 0
SameIn at n x y = (k : ℕ) → k < n → slice_index y (at + k) ≡ slice_index x (at + k)

-- How the group of a DII lies in a bank: its places are below their number, lie in the bank, have bytes and lie apart.
pub record PlacesLie (area : SpareArea) (dii : DiiFields) : Type 0 where
  pub order : IsInOrder area
  pub below : (n : ℕ) (p : Place) → place_of dii n ≡ Some p → n < place_count dii
  pub inside : (n : ℕ) (p : Place) → place_of dii n ≡ Some p → p.at + p.len ≤ area.bank_len
  pub not_empty : (n : ℕ) (p : Place) → place_of dii n ≡ Some p → (0 < p.len) × (p.len ≤ 4066)
  pub apart : (n m : ℕ) (p q : Place) → place_of dii n ≡ Some p → place_of dii m ≡ Some q → n ≢ m → (p.at + p.len ≤ q.at) ⊎ (q.at + q.len ≤ p.at)
  pub few : place_count dii ≤ area.marks

-- The margin, the free slots less the lost places, falls by n at most.
abbrev pub MarginFalls : SpareArea → DiiFields → ℕ → List ℕ → List ℕ → Type 0
MarginFalls area dii n x y = free_slots area x + lost_places area dii y ≤ free_slots area y + lost_places area dii x + n

-- `fill` and `mark`: y is x but in the range of a place and in its mark.
pub record ChangesPlace (area : SpareArea) (n : ℕ) (p : Place) (x y : List ℕ) : Type 0 where
  pub size : length y ≡ length x
  pub same : (k : ℕ) → IsOutside (area.bank + p.at) p.len k → IsOutside (mark_place area n) 2 k → slice_index y k ≡ slice_index x k

-- `spare`: y is x but in the slot; no byte of the head is below the one to be written; where the whole head stands, so do all bytes.
pub record ChangesSlot (area : SpareArea) (s : ℕ) (p : Place) (bytes x y : List ℕ) : Type 0 where
  pub size : length y ≡ length x
  pub same : (k : ℕ) → IsOutside (slot_place area s) 4352 k → slice_index y k ≡ slice_index x k
  pub above : (k : ℕ) → k < 16 → slice_index (slot_written p.at p.len) k ≤ slice_index y (slot_place area s + k)
  pub all : ((k : ℕ) → k < 16 → slice_index y (slot_place area s + k) ≡ slice_index (slot_written p.at p.len) k)
      → (k : ℕ) → k < length bytes → slice_index y (slot_bytes area s + k) ≡ slice_index bytes k

-- `resume`, and `commit` while boot takes what it took: bank and journal are as they were.
pub record SameArea (area : SpareArea) (x y : List ℕ) : Type 0 where
  pub size : length y ≡ length x
  pub bank : SameIn area.bank area.bank_len x y
  pub journal : SameIn area.journal area.journal_len x y

-- In the first block of the journal no byte is below what it was, and all else of bank and journal is as it was.
pub record RaisesFirst (area : SpareArea) (block_len : ℕ) (x y : List ℕ) : Type 0 where
  pub size : length y ≡ length x
  pub bank : SameIn area.bank area.bank_len x y
  pub above : (k : ℕ) → k < block_len → slice_index x (area.journal + k) ≤ slice_index y (area.journal + k)
  pub rest : (k : ℕ) → block_len ≤ k → k < area.journal_len → slice_index y (area.journal + k) ≡ slice_index x (area.journal + k)

-- `begin` and `forget`: that, or the first block of the journal is erased.
abbrev pub ClearsFirst : SpareArea → ℕ → List ℕ → List ℕ → Type 0
ClearsFirst area block_len x y = IsBlank y area.journal block_len ⊎ RaisesFirst area block_len x y

-- bank and journal are erased
pub record IsErasedArea (area : SpareArea) (c : List ℕ) : Type 0 where
  pub bank : IsBlank c area.bank area.bank_len
  pub journal : IsBlank c area.journal area.journal_len

-- `head`: y is x but in the place of the header.
pub record ChangesHeader (area : SpareArea) (x y : List ℕ) : Type 0 where
  pub size : length y ≡ length x
  pub same : (k : ℕ) → IsOutside area.journal 8448 k → slice_index y k ≡ slice_index x k

-- the fixed part of a header stands in y, and the pairs of its message
pub record HeaderStands (area : SpareArea) (message y : List ℕ) : Type 0 where
  pub fixed : (k : ℕ) → k < 32 → slice_index y (area.journal + k) ≡ slice_index (header_written area.next (length message)) k
  pub pairs : (k : ℕ) → k < 2 * length message → slice_index y (message_place area + k) ≡ slice_index (paired message) k
