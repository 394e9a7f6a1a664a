-- What the offer of a place leaves of a spare area.
use Rattle.std.specs.Prelude.{◌≡◌, ◌⊎◌, ℕ, ◌+◌, ◌≤◌, false, List, length, Some}
use Rattle.dsmcc_msg.specs.Control.{DiiFields}
use Rattle.ssu_group.specs.declared.places.Place.{Place}
use Rattle.flash_kept.specs.Held.{IsHeld}
use Rattle.flash_kept.specs.Leaving.{MarginFalls, PlacesLie}
use Rattle.flash_kept.specs.Lost.{lost_places}
use Rattle.flash_kept.specs.Places.{place_of}
use Rattle.flash_kept.specs.Slots.{free_slots, is_marked, is_slotted}
use Rattle.flash_kept.specs.SpareArea.{SpareArea}
use Rattle.flash_kept.specs.Staged.{HasStagedMessage, IsStaged}

-- the margin is at least 1
abbrev pub HasMargin : SpareArea → DiiFields → List ℕ → Type 0
HasMargin area dii c = lost_places area dii c + 1 ≤ free_slots area c

-- each place that is held was held, or it is this one with these bytes
abbrev pub HoldsNoOther : SpareArea → List ℕ → ℕ → List ℕ → List ℕ → List ℕ → Type 0
HoldsNoOther area message a bytes x y = (other : List ℕ) (n : ℕ) (b : List ℕ) → IsHeld area y other n b
    → IsHeld area x other n b ⊎ ((other ≡ message) × (n ≡ a) × (b ≡ bytes))

-- The message is staged, and the place is not.
pub record IsOffered (area : SpareArea) (dii : DiiFields) (message : List ℕ) (p : Place) (bytes x : List ℕ) : Type 0 where
  pub lie : PlacesLie area dii
  pub staged : HasStagedMessage area x message dii
  pub is_place : place_of dii p.number ≡ Some p
  pub long : length bytes ≡ p.len
  pub unmarked : is_marked area x p.number ≡ false
  pub unslotted : is_slotted area x p ≡ false
  pub fits : area.journal + area.journal_len ≤ length x

-- What the offer of a place may leave, torn or done: the margin falls by one at most; message and each staged place stay where the margin
-- was at least 1; and what is held was held, or is the place offered.
pub record LeavesOffered (area : SpareArea) (dii : DiiFields) (message : List ℕ) (a : ℕ) (bytes x y : List ℕ) : Type 0 where
  pub margin : MarginFalls area dii 1 x y
  pub message_staged : HasMargin area dii x → HasStagedMessage area y message dii
  pub staged : HasMargin area dii x → (n : ℕ) (b : List ℕ) → IsStaged area x message n b → IsStaged area y message n b
  pub held : HoldsNoOther area message a bytes x y

-- What it leaves once it is done: the margin does not fall, all that was staged stays, and the place offered is staged too.
pub record Offers (area : SpareArea) (dii : DiiFields) (message : List ℕ) (a : ℕ) (bytes x y : List ℕ) : Type 0 where
  pub margin : MarginFalls area dii 0 x y
  pub message_staged : HasStagedMessage area y message dii
  pub added : IsStaged area y message a bytes
  pub staged : (n : ℕ) (b : List ℕ) → IsStaged area x message n b → IsStaged area y message n b
  pub held : HoldsNoOther area message a bytes x y
