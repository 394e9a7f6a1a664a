-- What a flash has staged while sections are heard: what the choice that stands has, or the last one had. Lists of sections have the newest
-- first.
use Rattle.std.specs.Prelude.{◌≡◌, ◌↔◌, ℕ, ◌<◌, true, List, ◌∷◌, ◌++◌, Some, IsTrue}
use Rattle.bank_kept.specs.Contents.{StagesGroup, StagesPlace}
use Rattle.dsmcc_msg.specs.Control.{DiiFields}
use Rattle.flash_layout.specs.Layout.{Geometry}
use Rattle.ts_section.specs.Events.{Heard}
use Rattle.route_tables.specs.Values.{Receiver}
use Rattle.ssu_group.specs.Lays.{IsPlanOf}
use Rattle.ssu_group.specs.declared.group_plan.GroupPlan.{GroupPlan}
use Rattle.ssu_route.specs.Choosing.{level_7}
use Rattle.ssu_route.specs.Offers.{dii_of}
use Rattle.ssu_route.specs.Windows.{is_one_too_many}
use Rattle.ssu_route.specs.declared.choice.Choice.{Choice}
use Rattle.ssu_loader.specs.Decisions.{IsStanding}
use Rattle.ssu_loader.specs.Opening.{fills_at, has_at, is_within, last_message, places_in}
use Rattle.ssu_loader.specs.Staging.{IsStagedGroup, StagesFills}

-- The group of this message is that of the last choice, and it is one that is kept.
pub record IsLastKept (me : Receiver) (heard : List Heard) (message : List ℕ) : Type 0 where
  pub last : last_message me heard ≡ Some message
  pub within : is_within me.opening.most (places_in (dii_of message)) ≡ true

-- These contents have staged the group of the last choice, if it is one that is kept, with just the places that it has; and else nothing.
pub record StagesLast (me : Receiver) (heard : List Heard) (g : Geometry) (contents : List ℕ) : Type 0 where
  pub own : (message : List ℕ) (dii : DiiFields) → StagesGroup g contents message dii → IsLastKept me heard message
  pub group : (message : List ℕ) → IsLastKept me heard message → IsStagedGroup g contents message
  pub places : (message : List ℕ) (dii : DiiFields) (plan : GroupPlan) → IsLastKept me heard message → dii_of message ≡ Some dii → IsPlanOf dii plan
      → (n : ℕ) (b : List ℕ) → n < plan.places → (has_at me heard plan n ≡ Some b) ↔ StagesPlace g contents message n b

-- At one of these sections a choice too many would begin, and what these contents have staged is what the choice before it had.
pub record StagesBefore (me : Receiver) (heard : List Heard) (g : Geometry) (contents : List ℕ) : Type 0 where
  pub later : List Heard
  pub item : Heard
  pub earlier : List Heard
  pub parts : heard ≡ later ++ item ∷ earlier
  pub too_many : IsTrue (is_one_too_many me (item ∷ earlier))
  pub staged : StagesLast me earlier g contents

-- Where a choice stands whose group is kept, it is staged in these contents with just the places that are kept or filled, and their bytes.
abbrev pub StagesStanding : Geometry → List ℕ → Receiver → List Heard → Type 0
StagesStanding g contents me heard =
    (choice : Choice) (message : List ℕ) → IsStanding me heard choice → level_7 me heard ≡ Some message
    → is_within me.opening.most choice.plan.places ≡ true → StagesFills g contents message choice.plan (fills_at me heard choice.plan)
