-- What the beginning of a group that is kept leaves.
use Rattle.std.specs.Prelude.{◌≡◌, ℕ, ◌≤◌, List, None, Some}
use Rattle.bank_kept.specs.Contents.{HoldsPlace, StagesGroup}
use Rattle.bank_kept.specs.Leaving.{HoldsNoMore}
use Rattle.dsmcc_msg.specs.Control.{DiiFields, dii_message}
use Rattle.flash_bank.specs.Bank.{geometry_of, len_of}
use Rattle.flash_bank.specs.Leaving.{KeepsBoot}
use Rattle.flash_bank.specs.declared.bank.Bank.{Bank}
use Rattle.flash_kept.specs.Places.{place_count}
use Rattle.flash_layout.specs.Layout.{Geometry, mark_count}
use Rattle.flash_stage.specs.Keeping.{HasWholeMargin}
use Rattle.ssu_group.specs.Refusal.{refusal}

-- The message spells a DII that is usable for the bank, with a mark for each place.
pub record SpellsKept (bank : Bank) (message : List ℕ) : Type 0 where
  pub dii : DiiFields
  pub reads : dii_message.of message ≡ Some dii
  pub usable : refusal dii (len_of bank) ≡ None
  pub few : place_count dii ≤ mark_count (geometry_of bank)

-- The message spells a DII that is usable for the bank.
pub record SpellsUsable (bank : Bank) (message : List ℕ) : Type 0 where
  pub dii : DiiFields
  pub reads : dii_message.of message ≡ Some dii
  pub usable : refusal dii (len_of bank) ≡ None

-- Boot takes what it took, and nothing more is held than was.
pub record LeavesCleared (g : Geometry) (x y : List ℕ) : Type 0 where
  pub keeps : KeepsBoot g x y
  pub no_more : HoldsNoMore g x y

-- The group of the message is staged with no place, and the margin is whole.
pub record StagesNew (g : Geometry) (message contents : List ℕ) : Type 0 where
  pub dii : DiiFields
  pub group : StagesGroup g contents message dii
  pub none : (other : List ℕ) (n : ℕ) (bytes : List ℕ) → HoldsPlace g contents other n bytes → ⊥
  pub margin : HasWholeMargin g contents
