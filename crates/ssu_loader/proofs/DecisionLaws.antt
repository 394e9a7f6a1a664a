-- What is decided, section by section.
use Rattle.std.proofs.Common.{◌≡◌, ◌⊎◌, inl, inr, ⊎_elim, ℕ, zero, suc, ◌<◌, ◌≤◌, Bool, true, false, not, cond, ◌&&◌, eqb, leb, List, [], ◌∷◌, ◌++◌, Option, Some, None, refl, sym, ap, subst, ◌∙◌, arith}
use Rattle.std.specs.Prelude.{IsSome, min}
use Rattle.std.specs.List.{find}
use Rattle.std.proofs.lemmas.Bool.{le-leb, eq-eqb, eqb-true}
use Rattle.ts_crc.specs.Crc.{crc_of}
use Rattle.ts_section.specs.Events.{Heard}
use Rattle.dsmcc_msg.specs.Control.{DiiFields}
use Rattle.ssu_answer.specs.declared.chosen.Chosen.{Chosen}
use Rattle.ssu_group.specs.declared.module_plan.ModulePlan.{ModulePlan}
use Rattle.ssu_group.specs.Carried.{carried_image, crc_is, is_right, missing_places, module_bytes, wrong_module}
use Rattle.route_tables.specs.Values.{Receiver}
use Rattle.ssu_route.specs.declared.change.Change.TheVariants as change
use Rattle.ssu_route.specs.declared.choice.Choice.{Choice}
use Rattle.ssu_group.specs.Lays.{IsPlanOf}
use Rattle.ssu_route.specs.Choosing.{level_6, level_7}
use Rattle.ssu_route.specs.Windows.{IsChoice, beginnings, begins_at, change_at, choices, is_one_too_many, offered_by, standing}
use Rattle.ssu_route.proofs.Choices.{begins_exactly, level_7-none}
use Rattle.ssu_loader.specs.Decisions.{Decides, Decision, IsOpen, IsStanding, IsWhole, IsWrong, Reaches, TooMany, Whole, Wrong, chosen_of}
use Rattle.ssu_group.proofs.SamePlans.{IsSamePlan, same_plan}
use Rattle.ssu_loader.specs.Opening.{fills_at}
use Rattle.ssu_loader.proofs.PlanLaws.{same_count}

-- ---- the first decision

pub reaches_later : (me : Receiver) (item : Heard) (heard : List Heard) (d : Decision) → Reaches me heard d → Reaches me (item ∷ heard) d
unfolding Reaches
reaches_later me item heard d reached = inl reached

-- a decision stays the first when more sections come
pub reaches_more : (me : Receiver) (later heard : List Heard) (d : Decision) → Reaches me heard d → Reaches me (later ++ heard) d
reaches_more me [] heard d reached = reached
reaches_more me (item ∷ later) heard d reached = reaches_later me item (later ++ heard) d (reaches_more me later heard d reached)

pub open_before : (me : Receiver) (item : Heard) (heard : List Heard) → IsOpen me (item ∷ heard) → IsOpen me heard
open_before me item heard undecided d reached = undecided d (reaches_later me item heard d reached)

pub open_none : (me : Receiver) → IsOpen me []
unfolding Reaches
open_none me d reached = reached

pub reached_now : (me : Receiver) (item : Heard) (heard : List Heard) (d : Decision) → IsOpen me heard → Decides me (item ∷ heard) d → Reaches me (item ∷ heard) d
unfolding Reaches
reached_now me item heard d undecided decides = inr (undecided, decides)

-- what is decided first, and was not before
pub decided_now : (me : Receiver) (item : Heard) (heard : List Heard) (d : Decision) → IsOpen me heard → Reaches me (item ∷ heard) d → Decides me (item ∷ heard) d
unfolding Reaches
decided_now me item heard d undecided = ⊎_elim (λ before. absurd (undecided d before)) (λ now. now.1)

-- nothing is decided yet
pub open_more : (me : Receiver) (item : Heard) (heard : List Heard) → IsOpen me heard → ((d : Decision) → Decides me (item ∷ heard) d → ⊥) → IsOpen me (item ∷ heard)
unfolding Reaches
open_more me item heard undecided none d = ⊎_elim (λ before. undecided d before) (λ now. none d now.1)

-- ---- the choice that stands

pub standing_is : (me : Receiver) (heard : List Heard) → beginnings me heard ≤ 16 → standing me heard ≡ level_7 me heard
unfolding standing
standing_is me heard few = rw (le-leb (beginnings me heard) 16 few) refl

none_is_some : {A : Type 0} (o : Option A) → o ≡ None → IsSome o → ⊥
none_is_some None is some = absurd cc
none_is_some (Some a) is some = absurd cc

cond_none : {A : Type 0} (b : Bool) (o : Option A) → o ≡ None → cond b o None ≡ None
cond_none true o none = none
cond_none false o none = refl

pub standing_none : (me : Receiver) (heard : List Heard) → level_7 me heard ≡ None → standing me heard ≡ None
unfolding standing
standing_none me heard none = cond_none (leb (beginnings me heard) 16) (level_7 me heard) none

-- without a choice nothing is decided
pub none_decides : (me : Receiver) (heard : List Heard) → level_7 me heard ≡ None → is_one_too_many me heard ≡ false → (d : Decision) → Decides me heard d → ⊥
none_decides me heard none few (Whole chosen image) is = none_is_some (standing me heard) (standing_none me heard none) is.standing.stands
none_decides me heard none few (Wrong id want found) is = none_is_some (standing me heard) (standing_none me heard none) is.standing.stands
none_decides me heard none few TooMany is = absurd cc

-- ---- the choice is one

pub record IsOneChoice (a b : Choice) : Type 0 where
  pub group : a.group ≡ b.group
  pub software : a.software ≡ b.software
  pub plan : IsSamePlan a.plan b.plan

same_some : {A : Type 0} (a b : A) → Some a ≡ Some b → a ≡ b
same_some a b e = cc

pub one_choice : (me : Receiver) (heard : List Heard) (a b : Choice) → IsChoice me heard a → IsChoice me heard b → IsOneChoice a b
one_choice me heard a b p q =
    let dii : q.dii ≡ p.dii = same_some q.dii p.dii (sym q.read ∙ p.read) in
    let group : a.group ≡ b.group = same_some a.group b.group (sym p.group ∙ q.group) in
    record {
      group = group;
      software = p.software ∙ ap (λ (n : ℕ). offered_by n (level_6 me heard)) group ∙ sym q.software;
      plan = same_plan p.dii a.plan b.plan p.plan (subst (λ (d : DiiFields). IsPlanOf d b.plan) dii q.plan);
    }

-- where a place is missing nothing is decided
pub missing_decides : (me : Receiver) (heard : List Heard) (choice : Choice) → IsChoice me heard choice → 1 ≤ missing_places choice.plan (fills_at me heard choice.plan) → is_one_too_many me heard ≡ false
    → (d : Decision) → Decides me heard d → ⊥
missing_decides me heard choice chosen some few (Whole c image) is =
    let same = same_count me heard choice.plan is.choice.plan (one_choice me heard choice is.choice chosen is.standing.chosen).plan in
    absurd (omega (arith, same, some, is.whole.filled))
missing_decides me heard choice chosen some few (Wrong id want found) is =
    let same = same_count me heard choice.plan is.choice.plan (one_choice me heard choice is.choice chosen is.standing.chosen).plan in
    absurd (omega (arith, same, some, is.wrong.filled))
missing_decides me heard choice chosen some few TooMany is = absurd cc

-- ---- all places are filled

has_crc : (bytes : List ℕ) (crc : Option ℕ) → crc_is bytes crc ≡ false → (want : ℕ) × (crc ≡ Some want)
has_crc bytes None wrong = absurd cc
has_crc bytes (Some want) wrong = (want, refl)

found_wrong : (image : List ℕ) (modules : List ModulePlan) (m : ModulePlan) → find (λ n. not (is_right image n)) modules ≡ Some m → is_right image m ≡ false
found_wrong image [] m found = absurd cc
found_wrong image (n ∷ modules) m found = by_test (found_wrong image modules m) (is_right image n) refl found
  where
    by_test : (find (λ k. not (is_right image k)) modules ≡ Some m → is_right image m ≡ false) → (right : Bool) → is_right image n ≡ right
        → find (λ k. not (is_right image k)) (n ∷ modules) ≡ Some m → is_right image m ≡ false
    by_test more true is e = more (let h : find (λ k. not (is_right image k)) (n ∷ modules) ≡ find (λ k. not (is_right image k)) modules = rw is refl in sym h ∙ e)
    by_test more false is e =
        let h : find (λ k. not (is_right image k)) (n ∷ modules) ≡ Some n = rw is refl in
        let same : n ≡ m = same_some n m (sym h ∙ e) in
        subst (λ (k : ModulePlan). is_right image k ≡ false) same is

wrong_found : (modules : List ModulePlan) (image : List ℕ) (m : ModulePlan) → wrong_module modules image ≡ Some m → is_right image m ≡ false
unfolding wrong_module
wrong_found modules image m found = found_wrong image modules m found

-- where a choice stands whose places are all filled, its group is carried whole or a module is wrong
abbrev SettlesGroup : Receiver → List Heard → Type 0
SettlesGroup me heard =
    ((chosen : Chosen) × (image : List ℕ) × IsWhole me heard chosen image) ⊎ ((id : ℕ) × (want : ℕ) × (found : ℕ) × IsWrong me heard id want found)

pub filled_settles : (me : Receiver) (heard : List Heard) (choice : Choice) → IsStanding me heard choice → missing_places choice.plan (fills_at me heard choice.plan) ≡ 0 → SettlesGroup me heard
filled_settles me heard choice is filled = by_wrong (wrong_module choice.plan.modules.items (carried_image choice.plan (fills_at me heard choice.plan))) refl
  where
    by_wrong : (o : Option ModulePlan) → wrong_module choice.plan.modules.items (carried_image choice.plan (fills_at me heard choice.plan)) ≡ o → SettlesGroup me heard
    by_wrong None right = inl (
      chosen_of choice,
      carried_image choice.plan (fills_at me heard choice.plan),
      record { choice = choice; standing = is; is = refl; whole = record { filled = filled; joins = refl; right = right } },
    )
    by_wrong (Some m) first =
        let crc = has_crc (module_bytes (carried_image choice.plan (fills_at me heard choice.plan)) m) m.crc (wrong_found choice.plan.modules.items (carried_image choice.plan (fills_at me heard choice.plan)) m first) in
        inr (
          m.id,
          crc.0,
          crc_of (module_bytes (carried_image choice.plan (fills_at me heard choice.plan)) m),
          record {
            choice = choice;
            standing = is;
            wrong = record { filled = filled; module_plan = m; first = first; own_id = refl; wanted = crc.1; has = refl };
          },
        )

-- so something is decided
filled_decides : (me : Receiver) (heard : List Heard) (choice : Choice) → IsStanding me heard choice → missing_places choice.plan (fills_at me heard choice.plan) ≡ 0 → (d : Decision) × Decides me heard d
filled_decides me heard choice is filled =
    ⊎_elim (λ whole. (Whole whole.0 whole.1, whole.2)) (λ wrong. (Wrong wrong.0 wrong.1 wrong.2, wrong.3)) (filled_settles me heard choice is filled)

standing_at_none : (me : Receiver) → standing me [] ≡ None
standing_at_none me = standing_none me [] (level_7-none me)

none_too_many : (me : Receiver) → is_one_too_many me [] ≡ false
unfolding is_one_too_many
none_too_many me = refl

-- where nothing was decided, the newest section decides nothing
pub open_decides : (me : Receiver) (heard : List Heard) → IsOpen me heard → (d : Decision) → Decides me heard d → ⊥
open_decides me [] undecided (Whole chosen image) is = none_is_some (standing me []) (standing_at_none me) is.standing.stands
open_decides me [] undecided (Wrong id want found) is = none_is_some (standing me []) (standing_at_none me) is.standing.stands
open_decides me [] undecided TooMany is = let none = none_too_many me in absurd cc
open_decides me (item ∷ heard) undecided d is = undecided d (reached_now me item heard d (open_before me item heard undecided) is)

-- so a place of the choice is missing
pub some_missing : (me : Receiver) (heard : List Heard) (choice : Choice) → IsOpen me heard → IsStanding me heard choice → 1 ≤ missing_places choice.plan (fills_at me heard choice.plan)
some_missing me heard choice undecided is = by_count (missing_places choice.plan (fills_at me heard choice.plan)) refl
  where
    by_count : (n : ℕ) → missing_places choice.plan (fills_at me heard choice.plan) ≡ n → 1 ≤ missing_places choice.plan (fills_at me heard choice.plan)
    by_count zero none = let d = filled_decides me heard choice is none in absurd (open_decides me heard undecided d.0 d.1)
    by_count (suc n) some = omega (arith, some)

-- ---- one choice too many

and_false : (a b : Bool) → a ≡ false → (a && b) ≡ false
and_false true b is = absurd cc
and_false false b is = refl

begins_not : (me : Receiver) (item : Heard) (heard : List Heard) → (change_at me item heard ≡ change.Chosen → ⊥) → begins_at me item heard ≡ false
begins_not me item heard other = by_test (begins_at me item heard) refl
  where
    by_test : (b : Bool) → begins_at me item heard ≡ b → begins_at me item heard ≡ false
    by_test false is = is
    by_test true is = absurd (other ((begins_exactly me item heard).0 is))

pub not_too_many : (me : Receiver) (item : Heard) (heard : List Heard) → (change_at me item heard ≡ change.Chosen → ⊥) → is_one_too_many me (item ∷ heard) ≡ false
unfolding is_one_too_many
not_too_many me item heard other = and_false (begins_at me item heard) (eqb (choices me heard) 16) (begins_not me item heard other)

choices_is : (me : Receiver) (heard : List Heard) → choices me heard ≡ min 16 (beginnings me heard)
unfolding choices
choices_is me heard = refl

pub few_begin : (me : Receiver) (item : Heard) (heard : List Heard) → beginnings me heard < 16 → is_one_too_many me (item ∷ heard) ≡ false
unfolding is_one_too_many
few_begin me item heard few = by_test (eqb (choices me heard) 16) refl
  where
    and_no : (a : Bool) → (a && false) ≡ false
    and_no true = refl
    and_no false = refl

    by_test : (b : Bool) → eqb (choices me heard) 16 ≡ b → (begins_at me item heard && eqb (choices me heard) 16) ≡ false
    by_test false is = rw is (and_no (begins_at me item heard))
    by_test true is = absurd (omega (arith, eqb-true (choices me heard) 16 is, choices_is me heard, few))

pub sixteen_begin : (me : Receiver) (item : Heard) (heard : List Heard) → change_at me item heard ≡ change.Chosen → beginnings me heard ≡ 16 → is_one_too_many me (item ∷ heard) ≡ true
unfolding is_one_too_many
sixteen_begin me item heard chosen count =
    let begins : begins_at me item heard ≡ true = (begins_exactly me item heard).1 chosen in
    let all : eqb (choices me heard) 16 ≡ true = eq-eqb (choices me heard) 16 (omega (arith, choices_is me heard, count)) in
    rw (begins, all) refl
