-- What a stage may keep of a group that the flash has staged, and what its calls leave of what the flash holds and has staged.
use Rattle.std.specs.Prelude.{◌≡◌, ℕ, ◌<◌, ◌≤◌, Bool, true, false, List, None, Some}
use Rattle.bank_kept.specs.Contents.{HasSpareArea, StagesGroup, StagesPlace}
use Rattle.bank_kept.specs.Leaving.{HoldsNoMore, HoldsNoMoreBut, KeepsStaged}
use Rattle.dsmcc_msg.specs.Control.{DiiFields, dii_message}
use Rattle.flash_bank.specs.Bank.{current_of, geometry_of}
use Rattle.flash_bank.specs.Sound.{Keeps}
use Rattle.flash_bank.specs.declared.bank.Bank.{Bank}
use Rattle.flash_kept.specs.Lost.{lost_places}
use Rattle.flash_kept.specs.Slots.{free_slots}
use Rattle.flash_kept.specs.SpareArea.{SpareArea}
use Rattle.flash_kept.specs.Staged.{HasStagedMessage}
use Rattle.flash_layout.specs.Layout.{Geometry, mark_count}
use Rattle.ssu_group.specs.Lays.{IsPlanOf}
use Rattle.ssu_group.specs.Refusal.{refusal}
use Rattle.ssu_group.specs.declared.group_plan.GroupPlan.{GroupPlan}

-- The message spells a DII that is usable for a bank of this length, and this is its plan.
pub record IsPlanOfMessage (bank_len : ℕ) (message : List ℕ) (plan : GroupPlan) : Type 0 where
  pub dii : DiiFields
  pub reads : dii_message.of message ≡ Some dii
  pub usable : refusal dii bank_len ≡ None
  pub lays : IsPlanOf dii plan

-- ---- what is staged

-- The place numbered n is staged in these contents, under this message.
abbrev pub IsStagedIn : Geometry → List ℕ → List ℕ → ℕ → Type 0
IsStagedIn g contents message n = (bytes : List ℕ) × StagesPlace g contents message n bytes

-- No group is staged in these contents.
abbrev pub StagesNone : Geometry → List ℕ → Type 0
StagesNone g contents = (message : List ℕ) (dii : DiiFields) → StagesGroup g contents message dii → ⊥

-- A group of so many places is kept in the flash: the current record has layout 2, and there is a mark for each place.
pub record IsKeptIn (bank : Bank) (places : ℕ) : Type 0 where
  pub two : (current_of bank).layout ≡ 2
  pub few : places ≤ mark_count (geometry_of bank)

-- The group of this message is staged in these contents, just with the places that the stage has, and with their bytes.
pub record StagesJust (g : Geometry) (contents message : List ℕ) (places : ℕ) (has : ℕ → Bool) (bytes : ℕ → List ℕ) : Type 0 where
  pub dii : DiiFields
  pub group : StagesGroup g contents message dii
  pub each : (n : ℕ) → n < places → has n ≡ true → StagesPlace g contents message n (bytes n)
  pub no_other : (n : ℕ) (b : List ℕ) → StagesPlace g contents message n b → has n ≡ true

-- ---- what a call leaves

-- The offer of the place numbered a leaves nothing more that is held, but that place with these bytes, where the stage keeps its places.
abbrev pub HoldsOffered : Bool → Geometry → List ℕ → ℕ → List ℕ → List ℕ → List ℕ → Type 0
HoldsOffered true g message a bytes x y = HoldsNoMoreBut g message a bytes x y
HoldsOffered false g message a bytes x y = HoldsNoMore g x y

-- Where boot takes what it took, all that was staged is, and the margin stays.
abbrev pub KeepsStagedUnlessInstalled : Geometry → List ℕ → List ℕ → Type 0
KeepsStagedUnlessInstalled g x y = Keeps g x y → KeepsStaged g 0 0 x y

-- Where a group is staged all 16 slots are free, and no place is lost.
abbrev pub HasWholeMargin : Geometry → List ℕ → Type 0
HasWholeMargin g c = (area : SpareArea) (message : List ℕ) (dii : DiiFields) → HasSpareArea g c area → HasStagedMessage area c message dii
    → (lost_places area dii c ≡ 0) × (free_slots area c ≡ 16)
