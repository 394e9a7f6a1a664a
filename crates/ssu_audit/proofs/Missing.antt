-- The modules of a plan, one after the other.
use Rattle.std.proofs.lemmas.List.{drop_all}
use Rattle.std.proofs.Common.{◌≡◌, ℕ, zero, suc, ◌≤◌, ◌+◌, ◌<◌, List, [], ◌∷◌, ◌++◌, length, get_or, drop, Option, Some, None, refl, sym, ap, subst, ◌∙◌, arith, add-one, drop-cons}
use Rattle.std.specs.Prelude.{Contains, is_some}
use Rattle.std.specs.Option.{option_map, option_or}
use Rattle.ssu_group.specs.Carried.{joined}
use Rattle.ssu_group.specs.declared.group_plan.GroupPlan.{GroupPlan}
use Rattle.ssu_group.specs.declared.module_plan.ModulePlan.{ModulePlan}
use Rattle.ssu_audit.specs.Filled.{Blocks, missing_in, missing_of}

pub missing-step : (kept : Blocks) (plan : GroupPlan) (m : ModulePlan) (later : List ModulePlan)
    → missing_of kept plan (m ∷ later) ≡ option_or (option_map (λ (block : ℕ). m.first + block) (missing_in kept plan m)) (missing_of kept plan later)
unfolding missing_of
missing-step kept plan m later = refl

pub missing-none : (kept : Blocks) (plan : GroupPlan) → missing_of kept plan [] ≡ None
unfolding missing_of
missing-none kept plan = refl

dropped : (modules : List ModulePlan) (i : ℕ) (d : ModulePlan) → i < length modules → drop i modules ≡ get_or modules i d ∷ drop (i + 1) modules
dropped modules i d lt = rw (add-one, drop-cons modules i d) refl

-- what is missing from the module at a place on
pub missing-at : (kept : Blocks) (plan : GroupPlan) (modules items : List ModulePlan) (i : ℕ) (d : ModulePlan) → items ≡ modules → i < length items
    → missing_of kept plan (drop i modules)
    ≡ option_or (option_map (λ (block : ℕ). (get_or items i d).first + block) (missing_in kept plan (get_or items i d))) (missing_of kept plan (drop (i + 1) modules))
missing-at kept plan modules items i d is lt =
    ap (λ (ms : List ModulePlan). missing_of kept plan (drop i ms)) (sym is)
    ∙ ap (missing_of kept plan) (dropped items i d lt)
    ∙ missing-step kept plan (get_or items i d) (drop (i + 1) items)
    ∙ ap (λ (ms : List ModulePlan). option_or (option_map (λ (block : ℕ). (get_or items i d).first + block) (missing_in kept plan (get_or items i d))) (missing_of kept plan (drop (i + 1) ms))) is

pub missing-end : (kept : Blocks) (plan : GroupPlan) (modules items : List ModulePlan) (i : ℕ) → items ≡ modules → length items ≤ i → missing_of kept plan (drop i modules) ≡ None
missing-end kept plan modules items i is past =
    ap (λ (ms : List ModulePlan). missing_of kept plan (drop i ms)) (sym is) ∙ ap (missing_of kept plan) (drop_all i items past) ∙ missing-none kept plan

same_default : (ms : List ModulePlan) (i : ℕ) (d e : ModulePlan) → i < length ms → get_or ms i d ≡ get_or ms i e
same_default [] i d e lt = absurd (omega arith)
same_default (m ∷ ms) zero d e lt = refl
same_default (m ∷ ms) (suc i) d e lt = same_default ms i d e (omega arith)

-- a module of a list, at its place
pub among-at : (modules items : List ModulePlan) (i : ℕ) (d : ModulePlan) → items ≡ modules → i < length items → Contains modules (get_or items i d)
among-at modules items i d is lt =
    subst (λ (ms : List ModulePlan). Contains ms (get_or items i d)) is (i, lt, same_default items i (get_or items i d) d lt)

pub some-mapped : {A B : Type 0} (f : A → B) (o : Option A) → is_some (option_map f o) ≡ is_some o
some-mapped f None = refl
some-mapped f (Some x) = refl

pub joined-step : (f : ℕ → List ℕ) (n : ℕ) → joined f (n + 1) ≡ joined f n ++ f n
unfolding joined
joined-step f n = ap (joined f) (add-one n)

pub joined-zero : (f : ℕ → List ℕ) → joined f 0 ≡ []
unfolding joined
joined-zero f = refl
