-- What a call may leave of what contents hold and have staged.
use Rattle.std.specs.Prelude.{◌≡◌, ◌⊎◌, ℕ, ◌+◌, ◌≤◌, List}
use Rattle.dsmcc_msg.specs.Control.{DiiFields}
use Rattle.flash_kept.specs.Leaving.{MarginFalls}
use Rattle.flash_kept.specs.Lost.{lost_places}
use Rattle.flash_kept.specs.Slots.{free_slots}
use Rattle.flash_kept.specs.SpareArea.{SpareArea}
use Rattle.flash_kept.specs.Staged.{HasStagedMessage}
use Rattle.flash_layout.specs.Layout.{Geometry}
use Rattle.bank_kept.specs.Contents.{HasSpareArea, HoldsPlace, StagesGroup, StagesPlace}

-- Each place that y holds under a message x holds under it, with the same bytes.
abbrev pub HoldsNoMore : Geometry → List ℕ → List ℕ → Type 0
HoldsNoMore g x y = (message : List ℕ) (n : ℕ) (b : List ℕ) → HoldsPlace g y message n b → HoldsPlace g x message n b

-- The same, or it is the place numbered a, with these bytes under this message.
abbrev pub HoldsNoMoreBut : Geometry → List ℕ → ℕ → List ℕ → List ℕ → List ℕ → Type 0
HoldsNoMoreBut g message a bytes x y = (other : List ℕ) (n : ℕ) (b : List ℕ) → HoldsPlace g y other n b
    → HoldsPlace g x other n b ⊎ ((other ≡ message) × (n ≡ a) × (b ≡ bytes))

-- Where a message is staged in x, the margin falls by n at most, and where it was at least `least` the message is staged in y, and each place
-- that is staged in x is staged in y, under the same message and with the same bytes.
pub record KeepsStaged (g : Geometry) (n least : ℕ) (x y : List ℕ) : Type 0 where
  pub margin : (area : SpareArea) (message : List ℕ) (dii : DiiFields) → HasSpareArea g x area → HasStagedMessage area x message dii
      → MarginFalls area dii n x y
  pub group : (area : SpareArea) (message : List ℕ) (dii : DiiFields) → HasSpareArea g x area → HasStagedMessage area x message dii
      → lost_places area dii x + least ≤ free_slots area x → StagesGroup g y message dii
  pub places : (area : SpareArea) (message : List ℕ) (dii : DiiFields) → HasSpareArea g x area → HasStagedMessage area x message dii
      → lost_places area dii x + least ≤ free_slots area x → (number : ℕ) (b : List ℕ) → StagesPlace g x message number b → StagesPlace g y message number b
