-- What a stage keeps of the plan of a group.
use Rattle.std.specs.Prelude.{◌≡◌, ℕ, ◌+◌, List, Option, Some}
use Rattle.ssu_group.specs.declared.group_plan.GroupPlan.{GroupPlan}
use Rattle.ssu_group.specs.declared.module_plan.ModulePlan.{ModulePlan}
use Rattle.ssu_group.specs.declared.places.Place.{Place}
use Rattle.ssu_group.specs.Carried.{joined}
use Rattle.ssu_group.specs.Place.{place_at}

-- The length of a block, the modules, the number of places and the number of bytes: all that plans of the same modules
-- have in common.
pub record Outline : Type 0 where
  pub block_size : ℕ
  pub modules : List ModulePlan
  pub places : ℕ
  pub total : ℕ

abbrev pub outline_of : GroupPlan → Outline
outline_of plan = record { block_size = plan.block_size; modules = plan.modules.items; places = plan.places; total = plan.total }

-- the place of that number
abbrev pub place_of : Outline → ℕ → Option Place
place_of outline number = place_at outline.block_size outline.modules number

-- a place of the plan
abbrev pub IsPlaceOf : Outline → Place → Type 0
IsPlaceOf outline p = place_of outline p.number ≡ Some p

-- the texts of the places of a module, joined
abbrev pub module_text : (ℕ → List ℕ) → ModulePlan → List ℕ
module_text text m = joined (λ k. text (m.first + k)) m.blocks

-- the texts of all places, joined
abbrev pub group_text : (ℕ → List ℕ) → Outline → List ℕ
group_text text outline = joined text outline.places
