-- Two plans of one DII count the same places as filled.
use Rattle.std.proofs.Common.{◌≡◌, ℕ, List, [], ◌∷◌, cond, eqb, Option, Some, None, refl, sym, ap, ◌∙◌}
use Rattle.std.specs.Prelude.{is_some, sum_by}
use Rattle.std.specs.List.{find}
use Rattle.std.specs.Option.{option_or, option_and_then}
use Rattle.route_part.proofs.Steps.{first_said-none, first_said-step}
use Rattle.dsmcc_msg.specs.Block.{DdbFields, ddb}
use Rattle.dsmcc_msg.specs.Control.{DiiFields}
use Rattle.ssu_group.specs.declared.module_plan.ModulePlan.{ModulePlan}
use Rattle.ssu_group.specs.declared.places.Place.{Place}
use Rattle.ssu_group.specs.declared.group_plan.GroupPlan.{GroupPlan}
use Rattle.ssu_group.specs.Plan.{block_count, size_of}
use Rattle.ssu_group.specs.Place.{place_of, block_place, is_module_of}
use Rattle.ssu_group.specs.Lays.{IsPlanOf}
use Rattle.ssu_group.specs.Map.{missing_below}
use Rattle.ssu_group.specs.Carried.{Fills, bytes_at, brings, filling, missing_places}
use Rattle.ssu_group.proofs.MapLaws.{missing_same}

pub record IsSamePlan (a b : GroupPlan) : Type 0 where
  pub download : a.download ≡ b.download
  pub block_size : a.block_size ≡ b.block_size
  pub modules : a.modules.items ≡ b.modules.items
  pub places : a.places ≡ b.places
  pub total : a.total ≡ b.total

pub same_plan : (d : DiiFields) (a b : GroupPlan) → IsPlanOf d a → IsPlanOf d b → IsSamePlan a b
same_plan d a b p q =
    let modules : a.modules.items ≡ b.modules.items = p.modules ∙ sym q.modules in
    record {
      download = p.download ∙ sym q.download;
      block_size = p.block_size ∙ sym q.block_size;
      modules = modules;
      places = a.planned.all_places ∙ ap (λ (ms : List ModulePlan). sum_by block_count ms) modules ∙ sym b.planned.all_places;
      total = a.planned.all_bytes ∙ ap (λ (ms : List ModulePlan). sum_by size_of ms) modules ∙ sym b.planned.all_bytes;
    }

abbrev place_by : ℕ → ℕ → List ModulePlan → DdbFields → Option Place
place_by download block_size modules d =
    cond (eqb d.download download) (option_and_then (block_place block_size d) (find (is_module_of d) modules)) None

place_is : (plan : GroupPlan) (d : DdbFields) → place_of plan d ≡ place_by plan.download plan.block_size plan.modules.items d
unfolding place_of
place_is plan d = refl

same_place : (a b : GroupPlan) (d : DdbFields) → IsSamePlan a b → place_of a d ≡ place_of b d
same_place a b d s =
    place_is a d
    ∙ ap (λ (n : ℕ). place_by n a.block_size a.modules.items d) s.download
    ∙ ap (λ (n : ℕ). place_by b.download n a.modules.items d) s.block_size
    ∙ ap (λ (ms : List ModulePlan). place_by b.download b.block_size ms d) s.modules
    ∙ sym (place_is b d)

pub same_brings : (a b : GroupPlan) (n : ℕ) (section : List ℕ) → IsSamePlan a b → brings a n section ≡ brings b n section
unfolding brings
same_brings a b n section s = by_block (ddb.of section)
  where
    by_block : (o : Option DdbFields) → option_and_then (λ d. option_and_then (bytes_at n d) (place_of a d)) o ≡ option_and_then (λ d. option_and_then (bytes_at n d) (place_of b d)) o
    by_block None = refl
    by_block (Some d) = ap (λ (o : Option Place). option_and_then (bytes_at n d) o) (same_place a b d s)

pub same_filling : (a b : GroupPlan) (window : List (List ℕ)) (n : ℕ) → IsSamePlan a b → filling a window n ≡ filling b window n
unfolding filling
same_filling a b [] n s = first_said-none (brings a n) ∙ sym (first_said-none (brings b n))
same_filling a b (section ∷ window) n s =
    first_said-step (brings a n) section window
    ∙ ap (λ (o : Option (List ℕ)). option_or o (brings a n section)) (same_filling a b window n s)
    ∙ ap (λ (o : Option (List ℕ)). option_or (filling b window n) o) (same_brings a b n section s)
    ∙ sym (first_said-step (brings b n) section window)

pub same_missing : (a b : GroupPlan) (f g : Fills) → IsSamePlan a b → ((n : ℕ) → f n ≡ g n) → missing_places a f ≡ missing_places b g
same_missing a b f g s same =
    missing_same (λ n. is_some (g n)) (λ n. is_some (f n)) a.places (λ n below. ap is_some (same n))
    ∙ ap (λ (n : ℕ). missing_below (λ (k : ℕ). is_some (g k)) n) s.places
