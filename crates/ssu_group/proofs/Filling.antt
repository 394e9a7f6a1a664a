-- What fills a place, one section on, and what a section brings.
use Rattle.std.proofs.Common.{◌≡◌, ℕ, cond, eqb, List, [], ◌∷◌, Some, None, refl}
use Rattle.std.specs.Option.{option_or}
use Rattle.route_part.proofs.Steps.{first_said-none, first_said-step}
use Rattle.dsmcc_msg.specs.Block.{DdbFields, ddb}
use Rattle.ssu_group.specs.declared.places.Place.{Place}
use Rattle.ssu_group.specs.declared.group_plan.GroupPlan.{GroupPlan}
use Rattle.ssu_group.specs.Place.{place_of}
use Rattle.ssu_group.specs.Carried.{brings, filling}

pub filling-none : (plan : GroupPlan) (n : ℕ) → filling plan [] n ≡ None
unfolding filling
filling-none plan n = first_said-none (brings plan n)

pub filling-step : (plan : GroupPlan) (section : List ℕ) (window : List (List ℕ)) (n : ℕ)
    → filling plan (section ∷ window) n ≡ option_or (filling plan window n) (brings plan n section)
unfolding filling
filling-step plan section window n = first_said-step (brings plan n) section window

-- ---- what a section brings

pub brings_no_block : (plan : GroupPlan) (n : ℕ) (section : List ℕ) → ddb.of section ≡ None → brings plan n section ≡ None
unfolding brings
brings_no_block plan n section e = rw e refl

pub brings_no_place : (plan : GroupPlan) (n : ℕ) (section : List ℕ) (d : DdbFields) → ddb.of section ≡ Some d → place_of plan d ≡ None → brings plan n section ≡ None
unfolding brings
brings_no_place plan n section d e f = rw (e, f) refl

pub brings_place : (plan : GroupPlan) (n : ℕ) (section : List ℕ) (d : DdbFields) (p : Place) → ddb.of section ≡ Some d → place_of plan d ≡ Some p
    → brings plan n section ≡ cond (eqb p.number n) (Some d.bytes) None
unfolding brings
brings_place plan n section d p e f = rw (e, f) refl
