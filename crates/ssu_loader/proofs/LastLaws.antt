-- The message of the last choice, and the places that it has or had, section by section.
use Rattle.std.proofs.Common.{◌≡◌, ℕ, List, [], ◌∷◌, Option, Some, None, refl, sym, ap, ◌∙◌}
use Rattle.std.specs.Prelude.{IsSome}
use Rattle.std.specs.Option.{option_or}
use Rattle.ts_section.specs.Events.{Heard}
use Rattle.route_tables.specs.Values.{Receiver}
use Rattle.ssu_group.specs.declared.group_plan.GroupPlan.{GroupPlan}
use Rattle.ssu_route.specs.declared.change.Change.{Change}
use Rattle.ssu_route.specs.declared.change.Change.TheVariants.{Same, Chosen, Lost}
use Rattle.ssu_route.specs.Choosing.{level_7}
use Rattle.ssu_route.specs.Windows.{change_at}
use Rattle.ssu_route.proofs.Choices.{level_7-none, lost_none, lost_stood, same_stays}
use Rattle.ssu_loader.specs.Opening.{by_standing, fills_at, has_at, kept, last_message}
use Rattle.ssu_loader.proofs.KeptLaws.{kept_lost, kept_same}

last_step : (me : Receiver) (item : Heard) (heard : List Heard) → last_message me (item ∷ heard) ≡ option_or (level_7 me (item ∷ heard)) (last_message me heard)
unfolding last_message
last_step me item heard = refl

or_again : {A : Type 0} (a b : Option A) → option_or a (option_or a b) ≡ option_or a b
or_again None b = refl
or_again (Some a) b = refl

-- where a choice stands, it is its own
pub last_stands : (me : Receiver) (heard : List Heard) (message : List ℕ) → level_7 me heard ≡ Some message → last_message me heard ≡ Some message
last_stands me [] message e = let none = level_7-none me in absurd cc
last_stands me (item ∷ heard) message e = last_step me item heard ∙ ap (λ (o : Option (List ℕ)). option_or o (last_message me heard)) e

own_last : (me : Receiver) (heard : List Heard) → option_or (level_7 me heard) (last_message me heard) ≡ last_message me heard
own_last me [] = ap (λ (o : Option (List ℕ)). option_or o (last_message me [])) (level_7-none me)
own_last me (item ∷ heard) =
    ap (option_or (level_7 me (item ∷ heard))) (last_step me item heard) ∙ or_again (level_7 me (item ∷ heard)) (last_message me heard) ∙ sym (last_step me item heard)

pub last_same : (me : Receiver) (item : Heard) (heard : List Heard) → change_at me item heard ≡ Same → last_message me (item ∷ heard) ≡ last_message me heard
last_same me item heard e =
    last_step me item heard ∙ ap (λ (o : Option (List ℕ)). option_or o (last_message me heard)) (same_stays me item heard e) ∙ own_last me heard

pub last_lost : (me : Receiver) (item : Heard) (heard : List Heard) → change_at me item heard ≡ Lost → last_message me (item ∷ heard) ≡ last_message me heard
last_lost me item heard e = last_step me item heard ∙ ap (λ (o : Option (List ℕ)). option_or o (last_message me heard)) (lost_none me item heard e)

-- ---- what it has

pub has_standing : (me : Receiver) (heard : List Heard) (plan : GroupPlan) (message : List ℕ) → level_7 me heard ≡ Some message → has_at me heard plan ≡ fills_at me heard plan
has_standing me heard plan message e = ap (λ (o : Option (List ℕ)). by_standing o (kept me heard plan) (fills_at me heard plan)) e

pub has_ended : (me : Receiver) (heard : List Heard) (plan : GroupPlan) → level_7 me heard ≡ None → has_at me heard plan ≡ kept me heard plan
has_ended me heard plan e = ap (λ (o : Option (List ℕ)). by_standing o (kept me heard plan) (fills_at me heard plan)) e

value_of : {A : Type 0} (o : Option A) → IsSome o → (a : A) × (o ≡ Some a)
value_of None some = absurd cc
value_of (Some a) some = (a, refl)

-- Where no choice stands and none stood, or one ended, the last one has what it had.
pub has_still : (me : Receiver) (item : Heard) (heard : List Heard) (plan : GroupPlan) (n : ℕ) → (change_at me item heard ≡ Chosen → ⊥) → level_7 me (item ∷ heard) ≡ None
    → has_at me (item ∷ heard) plan n ≡ has_at me heard plan n
has_still me item heard plan n other none = by_change (change_at me item heard) refl
  where
    by_change : (c : Change) → change_at me item heard ≡ c → has_at me (item ∷ heard) plan n ≡ has_at me heard plan n
    by_change Chosen e = absurd (other e)
    by_change Same e =
        (λ i. has_ended me (item ∷ heard) plan none i n)
        ∙ kept_same me item heard plan n e
        ∙ sym (λ i. has_ended me heard plan (sym (same_stays me item heard e) ∙ none) i n)
    by_change Lost e =
        let stood = value_of (level_7 me heard) (lost_stood me item heard e) in
        (λ i. has_ended me (item ∷ heard) plan none i n)
        ∙ kept_lost me item heard plan n e
        ∙ sym (λ i. has_standing me heard plan stood.0 stood.1 i n)

pub last_still : (me : Receiver) (item : Heard) (heard : List Heard) → (change_at me item heard ≡ Chosen → ⊥) → last_message me (item ∷ heard) ≡ last_message me heard
last_still me item heard other = by_change (change_at me item heard) refl
  where
    by_change : (c : Change) → change_at me item heard ≡ c → last_message me (item ∷ heard) ≡ last_message me heard
    by_change Chosen e = absurd (other e)
    by_change Same e = last_same me item heard e
    by_change Lost e = last_lost me item heard e
