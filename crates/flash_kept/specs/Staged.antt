-- What is staged in a spare area: what is held there, where the slots fit the group and are enough for its lost places.
use Rattle.std.specs.Prelude.{◌≡◌, ℕ, ◌<◌, ◌≤◌, true, false, List, Some}
use Rattle.dsmcc_msg.specs.Control.{DiiFields}
use Rattle.ssu_group.specs.declared.places.Place.{Place}
use Rattle.flash_kept.specs.Held.{HasHeldMessage, IsHeld}
use Rattle.flash_kept.specs.Lost.{lost_places}
use Rattle.flash_kept.specs.Places.{place_of}
use Rattle.flash_kept.specs.Slots.{free_slots, is_marked, is_slot_of, is_valid_slot}
use Rattle.flash_kept.specs.SpareArea.{SpareArea}

-- the slot is that of a place of the group
pub record IsOfSomePlace (area : SpareArea) (dii : DiiFields) (c : List ℕ) (s : ℕ) : Type 0 where
  pub number : ℕ
  pub place : Place
  pub is_place : place_of dii number ≡ Some place
  pub is_slot : is_slot_of area c place s ≡ true

-- Each valid slot is one place of the group, each another one, and none of them is marked.
pub record SlotsFit (area : SpareArea) (dii : DiiFields) (c : List ℕ) : Type 0 where
  pub each : (s : ℕ) → s < 16 → is_valid_slot area c s ≡ true → IsOfSomePlace area dii c s
  pub unmarked : (s n : ℕ) (p : Place) → s < 16 → place_of dii n ≡ Some p → is_slot_of area c p s ≡ true → is_marked area c n ≡ false
  pub another : (s t n : ℕ) (p : Place) → s < 16 → t < 16 → place_of dii n ≡ Some p → is_slot_of area c p s ≡ true → is_slot_of area c p t ≡ true → s ≡ t

-- A message is staged: it is held, the slots fit, and the free slots are at least as many as the lost places.
pub record HasStagedMessage (area : SpareArea) (c message : List ℕ) (dii : DiiFields) : Type 0 where
  pub held : HasHeldMessage area c message dii
  pub slots : SlotsFit area dii c
  pub enough : lost_places area dii c ≤ free_slots area c

-- Under this message the place numbered n is staged with these bytes.
pub record IsStaged (area : SpareArea) (c message : List ℕ) (n : ℕ) (bytes : List ℕ) : Type 0 where
  pub dii : DiiFields
  pub staged : HasStagedMessage area c message dii
  pub held : IsHeld area c message n bytes
