-- What is not decided by what was heard alone.
use Rattle.std.proofs.Common.{◌≡◌, ℕ, ◌<◌, ◌≤◌, zero, suc, Bool, true, false, List, [], ◌∷◌, ◌++◌, None, refl, sym, ap, subst, ◌∙◌, arith}
use Rattle.std.specs.Prelude.{IsTrue, is_some}
use Rattle.ts_section.specs.Events.{Heard}
use Rattle.route_tables.specs.Values.{Receiver}
use Rattle.flash_stage.specs.declared.stage.Stage.{Ghosts as StageGhosts}
use Rattle.ssu_group.specs.declared.group_plan.GroupPlan.{GroupPlan}
use Rattle.ssu_group.specs.Carried.{Fills, filling, missing_places, nothing_kept, with_section}
use Rattle.ssu_group.specs.Map.{missing_below}
use Rattle.ssu_group.proofs.Filling.{filling-none, filling-step}
use Rattle.ssu_group.proofs.SamePlans.{IsSamePlan, same_filling, same_missing}
use Rattle.ssu_route.specs.declared.choice.Choice.{Choice}
use Rattle.ssu_route.specs.Choosing.{level_7}
use Rattle.ssu_route.specs.Windows.{IsChoice, is_one_too_many, window}
use Rattle.ssu_route.proofs.Choices.{level_7-none}
use Rattle.ssu_loader.specs.Collecting.{IncludesFilled}
use Rattle.ssu_loader.specs.Verdicts.{IsUnfilled, LacksPlace}
use Rattle.ssu_loader.proofs.ChoiceLaws.{all_missing, no_choice}
use Rattle.ssu_loader.proofs.DecisionLaws.{one_choice}

pub unfilled_none : (me : Receiver) → IsUnfilled me []
unfolding IsUnfilled
unfilled_none me = tt

pub unfilled_more : (me : Receiver) (item : Heard) (heard : List Heard) → IsUnfilled me heard → is_one_too_many me (item ∷ heard) ≡ false → LacksPlace me (item ∷ heard) → IsUnfilled me (item ∷ heard)
unfolding IsUnfilled
unfilled_more me item heard before few lacks = (before, (λ many. absurd cc, lacks))

pub unfilled_before : (me : Receiver) (item : Heard) (heard : List Heard) → IsUnfilled me (item ∷ heard) → IsUnfilled me heard
unfolding IsUnfilled
unfilled_before me item heard is = is.0

pub unfilled_few : (me : Receiver) (item : Heard) (heard : List Heard) → IsUnfilled me (item ∷ heard) → IsTrue (is_one_too_many me (item ∷ heard)) → ⊥
unfolding IsUnfilled
unfilled_few me item heard is = is.1.0

-- and before
pub unfilled_front : (me : Receiver) (later heard : List Heard) → IsUnfilled me (later ++ heard) → IsUnfilled me heard
unfilled_front me [] heard is = is
unfilled_front me (item ∷ later) heard is = unfilled_front me later heard (unfilled_before me item (later ++ heard) is)

tail_same : (a b : Heard) (xs ys : List Heard) → a ∷ xs ≡ b ∷ ys → xs ≡ ys
tail_same a b xs ys e = cc

-- Where nothing was decided before, the section that brings one choice too many is the newest.
pub many_last : (me : Receiver) (item : Heard) (heard : List Heard) → IsUnfilled me heard → (later : List Heard) (other : Heard) (earlier : List Heard) → item ∷ heard ≡ later ++ other ∷ earlier
    → IsTrue (is_one_too_many me (other ∷ earlier)) → IsTrue (is_one_too_many me (item ∷ heard))
many_last me item heard before [] other earlier parts many = subst (λ (items : List Heard). IsTrue (is_one_too_many me items)) (sym parts) many
many_last me item heard before (newer ∷ later) other earlier parts many =
    let rest : heard ≡ later ++ other ∷ earlier = tail_same item newer heard (later ++ other ∷ earlier) parts in
    absurd (unfilled_few me other earlier (unfilled_front me later (other ∷ earlier) (subst (IsUnfilled me) rest before)) many)

-- ---- a place that the window lacks

pub no_place : (me : Receiver) (heard : List Heard) → level_7 me heard ≡ None → LacksPlace me heard
no_place me heard none choice standing = absurd (no_choice me heard choice none standing.chosen)

pub unfilled_lacks : (me : Receiver) (heard : List Heard) → IsUnfilled me heard → LacksPlace me heard
unfolding IsUnfilled
unfilled_lacks me [] is = no_place me [] (level_7-none me)
unfilled_lacks me (item ∷ heard) is = is.1.1

pub lacks_place : (me : Receiver) (heard : List Heard) (choice : Choice) → IsChoice me heard choice → 1 ≤ missing_places choice.plan (filling choice.plan (window me heard)) → LacksPlace me heard
lacks_place me heard choice is some other standing =
    let same = (one_choice me heard choice other is standing.chosen).plan in
    let count = same_missing choice.plan other.plan (filling choice.plan (window me heard)) (filling other.plan (window me heard)) same (λ n. same_filling choice.plan other.plan (window me heard) n same) in
    omega (arith, count, some)

-- a choice that begins has filled none
pub nothing_filled : (plan : GroupPlan) → filling plan [] ≡ nothing_kept
nothing_filled plan = (λ i. λ n. filling-none plan n i)

pub begins_lacking : (me : Receiver) (heard : List Heard) (choice : Choice) → IsChoice me heard choice → window me heard ≡ [] → LacksPlace me heard
begins_lacking me heard choice is empty =
    lacks_place me heard choice is
    (subst (λ (fills : Fills). 1 ≤ missing_places choice.plan fills) (sym (ap (filling choice.plan) empty ∙ nothing_filled choice.plan)) (all_missing choice.plan))

-- one section more in the window
pub window_more : (plan : GroupPlan) (section : List ℕ) (window : List (List ℕ)) → filling plan (section ∷ window) ≡ with_section plan section (filling plan window)
window_more plan section window = (λ i. λ n. filling-step plan section window n i)

-- ---- what is staged

pub includes_none : {S : Type 0} (s : StageGhosts S) (plan : GroupPlan) (stage : S) → IncludesFilled s plan (filling plan []) stage
includes_none s plan stage n below some = let none : is_some (filling plan [] n) ≡ false = ap is_some (filling-none plan n) in absurd cc

pub includes_for : {S : Type 0} (s : StageGhosts S) (a b : GroupPlan) (window : List (List ℕ)) (stage : S) → IsSamePlan a b → IncludesFilled s a (filling a window) stage → IncludesFilled s b (filling b window) stage
includes_for s a b window stage same includes n below some =
    includes n (subst (λ (k : ℕ). n < k) (sym same.places) below) (ap is_some (same_filling a b window n same) ∙ some)

-- where more is staged, no more is missing
missing_step : (f h : ℕ → Bool) (m : ℕ) (a b : Bool) → f m ≡ a → h m ≡ b → (a ≡ true → b ≡ true) → missing_below h m ≤ missing_below f m → missing_below h (suc m) ≤ missing_below f (suc m)
unfolding missing_below
missing_step f h m true true e d more before = rw (e, d) (omega (arith, before))
missing_step f h m false true e d more before = rw (e, d) (omega (arith, before))
missing_step f h m false false e d more before = rw (e, d) (omega (arith, before))
missing_step f h m true false e d more before = let no = more refl in absurd cc

missing_least : (f h : ℕ → Bool) (m : ℕ) → ((n : ℕ) → n < m → f n ≡ true → h n ≡ true) → missing_below h m ≤ missing_below f m
unfolding missing_below
missing_least f h zero more = omega arith
missing_least f h (suc m) more =
    missing_step f h m (f m) (h m) refl refl (more m (omega arith)) (missing_least f h m (λ n below. more n (omega (arith, below))))

pub fewer_missing : (plan : GroupPlan) (fills : Fills) (has : ℕ → Bool) (count : ℕ) → count ≡ missing_below has plan.places
    → ((n : ℕ) → n < plan.places → is_some (fills n) ≡ true → has n ≡ true) → count ≤ missing_places plan fills
fewer_missing plan fills has count is more = let least = missing_least (λ (n : ℕ). is_some (fills n)) has plan.places more in omega (arith, is, least)
