-- What is staged, in words of a plan.
use Rattle.std.specs.Prelude.{◌≡◌, ℕ, ◌<◌, true, false, List, Some}
use Rattle.flash_kept.specs.Counts.{count_below}
use Rattle.flash_kept.specs.Lost.{is_lost}
use Rattle.flash_kept.specs.Slots.{is_marked, is_slot_of, is_valid_slot}
use Rattle.flash_kept.specs.SpareArea.{SpareArea}
use Rattle.ssu_group.specs.Place.{place_at}
use Rattle.ssu_group.specs.declared.group_plan.GroupPlan.{GroupPlan}
use Rattle.ssu_group.specs.declared.places.Place.{Place}

-- how many places of the plan are lost
unfoldable pub lost_in_plan : SpareArea → GroupPlan → List ℕ → ℕ
lost_in_plan area plan c = count_below (λ n. is_lost area c n (place_at plan.block_size plan.modules.items n)) plan.places

-- The slot is for this place of the plan, which is not marked, and no slot before it is.
pub record IsFirstOf (area : SpareArea) (plan : GroupPlan) (c : List ℕ) (s : ℕ) : Type 0 where
  pub place : Place
  pub is_place : place_at plan.block_size plan.modules.items place.number ≡ Some place
  pub is_slot : is_slot_of area c place s ≡ true
  pub unmarked : is_marked area c place.number ≡ false
  pub first : (t : ℕ) → t < s → is_slot_of area c place t ≡ false

-- where it is valid
abbrev pub SlotFits : SpareArea → GroupPlan → List ℕ → ℕ → Type 0
SlotFits area plan c s = is_valid_slot area c s ≡ true → IsFirstOf area plan c s

abbrev pub SlotsFitPlan : SpareArea → GroupPlan → List ℕ → Type 0
SlotsFitPlan area plan c = (s : ℕ) → s < 16 → SlotFits area plan c s
