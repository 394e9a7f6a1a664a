-- The places of a group that stand in the spare bank, and what its erase has ended. Lists of sections have the newest first.
use Rattle.std.specs.Prelude.{◌≡◌, ℕ, ◌+◌, ◌-◌, ◌<◌, ◌≤◌, false, List, ◌∷◌, ◌++◌, Some, IsTrue}
use Rattle.flash_layout.specs.Layout.{Geometry, area_place}
use Rattle.flash_layout.specs.Pairs.{part}
use Rattle.flash_bank.specs.Sound.{Boot, IsCurrent, PrevOf, record_in}
use Rattle.ts_section.specs.Events.{Heard}
use Rattle.ssu_group.specs.declared.group_plan.GroupPlan.{GroupPlan}
use Rattle.ssu_group.specs.declared.places.Place.{Place}
use Rattle.ssu_group.specs.Carried.{filling}
use Rattle.ssu_group.specs.Place.{place_at}
use Rattle.route_tables.specs.Values.{Receiver}
use Rattle.ssu_route.specs.declared.choice.Choice.{Choice}
use Rattle.ssu_route.specs.Windows.{beginnings, is_one_too_many, window}
use Rattle.ssu_loader.specs.Decisions.{IsStanding}
use Rattle.ssu_loader.specs.Opening.{is_within}

-- Each place of the plan that the sections fill stands in the bank of these contents that boot does not take, with the bytes of
-- the first block that fills it.
abbrev pub StandsInSpare : Geometry → List ℕ → GroupPlan → List (List ℕ) → Type 0
StandsInSpare g contents plan sections =
    (block number : ℕ) (place : Place) (bytes : List ℕ) → IsCurrent g contents block → number < plan.places
    → place_at plan.block_size plan.modules.items number ≡ Some place → filling plan sections number ≡ Some bytes
    → part contents (area_place g (1 - (record_in g contents block).bank) + place.at) place.len ≡ bytes

-- What boot took before the current image is there no longer.
abbrev pub HasNoPrev : Geometry → List ℕ → Type 0
HasNoPrev g contents = (b : Boot) → PrevOf g contents b → ⊥

-- It is not once a choice has begun.
abbrev pub EndsPrev : Geometry → List ℕ → Receiver → List Heard → Type 0
EndsPrev g contents me heard = 1 ≤ beginnings me heard → HasNoPrev g contents

-- Where a choice stands whose group is not one that is kept, the places that its window fills stand so. What boot took before is gone once a
-- choice has begun.
pub record Stores (g : Geometry) (contents : List ℕ) (me : Receiver) (heard : List Heard) : Type 0 where
  pub places : (choice : Choice) → IsStanding me heard choice → is_within me.opening.most choice.plan.places ≡ false
      → StandsInSpare g contents choice.plan (window me heard)
  pub gone : EndsPrev g contents me heard

-- At one of these sections a choice too many would begin, and the places of the one that stood before it stand so still.
pub record StoresBefore (g : Geometry) (contents : List ℕ) (me : Receiver) (heard : List Heard) : Type 0 where
  pub later : List Heard
  pub item : Heard
  pub earlier : List Heard
  pub parts : heard ≡ later ++ item ∷ earlier
  pub too_many : IsTrue (is_one_too_many me (item ∷ earlier))
  pub stored : Stores g contents me earlier
