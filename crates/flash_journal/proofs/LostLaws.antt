-- Lost places, one after another.
use Rattle.std.specs.Prelude.{is_some, if◌then◌else◌, ◌==◌, IfOk, Result, Ok, Err}
use Rattle.std.specs.Option.{option_or}
use Rattle.std.proofs.Common.{◌≡◌, ℕ, suc, zero, ◌+◌, Bool, true, false, ◌&&◌, ◌||◌, not, List, Option, None, Some, refl, sym, ap, ◌∙◌, arith}
use Rattle.std.proofs.lemmas.Bool.{eq-eqb, eqb-true}
use Rattle.flash_kept.specs.Counts.{all_below, count_below, find_below, one_if, some_below}
use Rattle.flash_kept.specs.Lost.{is_lost, is_untouched}
use Rattle.flash_kept.specs.Slots.{is_marked, is_slot_of, is_slotted}
use Rattle.flash_kept.specs.SpareArea.{SpareArea}
use Rattle.flash_journal.specs.Planned.{lost_in_plan}
use Rattle.ssu_group.specs.Map.{Marks, marked}
use Rattle.ssu_group.specs.Place.{place_at}
use Rattle.ssu_group.specs.declared.group_plan.GroupPlan.{GroupPlan}
use Rattle.ssu_group.specs.declared.places.Place.{Place}

-- whether the place of that number is lost, and how many of the first so many are
abbrev pub lost_at : SpareArea → GroupPlan → List ℕ → ℕ → Bool
lost_at area plan c n = is_lost area c n (place_at plan.block_size plan.modules.items n)

unfoldable pub lost_below : SpareArea → GroupPlan → List ℕ → ℕ → ℕ
lost_below area plan c n = count_below (lost_at area plan c) n

pub lost_none : (area : SpareArea) (plan : GroupPlan) (c : List ℕ) → lost_below area plan c 0 ≡ 0
unfolding lost_below count_below
lost_none area plan c = refl

pub lost_next : (area : SpareArea) (plan : GroupPlan) (c : List ℕ) (n : ℕ) (found : Bool) → found ≡ lost_at area plan c n
    → lost_below area plan c (n + 1) ≡ lost_below area plan c n + one_if found
unfolding lost_below count_below
lost_next area plan c n found is =
    let next : n + 1 ≡ suc n = omega arith in
    ap (count_below (lost_at area plan c)) next ∙ ap (λ (t : Bool). count_below (lost_at area plan c) n + one_if t) (sym is)

pub lost_all : (area : SpareArea) (plan : GroupPlan) (c : List ℕ) → lost_below area plan c plan.places ≡ lost_in_plan area plan c
unfolding lost_below lost_in_plan
lost_all area plan c = refl

pub no_place_lost : (area : SpareArea) (c : List ℕ) (n : ℕ) → false ≡ is_lost area c n None
unfolding is_lost
no_place_lost area c n = refl

-- ---- a place

-- some slot is for a place where a first one is
pub found_some : (f : ℕ → Bool) (n : ℕ) → is_some (find_below f n) ≡ some_below f n
unfolding find_below all_below
found_some f zero = refl
found_some f (suc n) = by_last (find_below f n) (all_below (λ k. not (f k)) n) (f n) (found_some f n)
  where
    by_last : (o : Option ℕ) (a b : Bool) → is_some o ≡ not a → is_some (option_or o (if b then Some n else None)) ≡ not (a && not b)
    by_last None true true e = refl
    by_last None true false e = refl
    by_last None false b e = absurd cc
    by_last (Some k) true b e = absurd cc
    by_last (Some k) false b e = refl

pub slotted_found : (area : SpareArea) (c : List ℕ) (p : Place) (o : Option ℕ) → o ≡ find_below (is_slot_of area c p) 16 → is_some o ≡ is_slotted area c p
unfolding is_slotted
slotted_found area c p o is = ap (λ (x : Option ℕ). is_some x) is ∙ found_some (is_slot_of area c p) 16

-- what was found of a place says whether it is lost
pub lost_place : (area : SpareArea) (c : List ℕ) (p : Place) (stored untouched : Bool) → stored ≡ (is_marked area c p.number || is_slotted area c p)
    → untouched ≡ is_untouched area c p.number p → not stored && not untouched ≡ is_lost area c p.number (Some p)
unfolding is_lost
lost_place area c p stored untouched one two = by_tests stored (is_marked area c p.number) (is_slotted area c p) untouched (is_untouched area c p.number p) one two
  where
    by_tests : (s m t u v : Bool) → s ≡ (m || t) → u ≡ v → not s && not u ≡ (not m && (not t && not v))
    by_tests s true t u v e f = ap (λ (x : Bool). not x && not u) e
    by_tests s false true u v e f = ap (λ (x : Bool). not x && not u) e
    by_tests s false false u v e f = ap (λ (x : Bool). not x && not u) e ∙ ap (λ (x : Bool). not x) f

pub stored_not_lost : (area : SpareArea) (c : List ℕ) (p : Place) (stored : Bool) → stored ≡ (is_marked area c p.number || is_slotted area c p)
    → stored ≡ true → false ≡ is_lost area c p.number (Some p)
unfolding is_lost
stored_not_lost area c p stored is so = by_tests (is_marked area c p.number) (is_slotted area c p) (is_untouched area c p.number p) (sym is ∙ so)
  where
    by_tests : (m t v : Bool) → (m || t) ≡ true → false ≡ (not m && (not t && not v))
    by_tests true t v e = refl
    by_tests false true v e = refl
    by_tests false false v e = absurd cc

-- ---- answers

pub if_ok_each : {A E : Type 0} (r : Result A E) (P Q : A → Type 0) → ((a : A) → P a → Q a) → IfOk r P → IfOk r Q
if_ok_each (Ok a) P Q step is = step a is
if_ok_each (Err e) P Q step is = tt

pub same_some : (p q : Place) → Some p ≡ Some q → p ≡ q
same_some p q e = cc

-- ---- places that are marked in a map

pub marked_here : (t : Bool) (n : ℕ) → (n == n || t) ≡ true
marked_here t n = ap (λ (b : Bool). b || t) (eq-eqb n n refl)

pub marked_else : (t : Bool) (k n : ℕ) → (k ≡ n → ⊥) → (k == n || t) ≡ t
marked_else t k n other = ap (λ (b : Bool). b || t) (not_same (k == n) refl)
  where
    not_same : (b : Bool) → (k == n) ≡ b → (k == n) ≡ false
    not_same true e = absurd (other (eqb-true k n e))
    not_same false e = e

-- A map has the place numbered n marked where it is stored, and all else is as before.
pub record MarksOne (old new : Marks) (n : ℕ) (stored : Bool) : Type 0 where
  pub most : new.most ≡ old.most
  pub places : new.places ≡ old.places
  pub here : marked old n ≡ false → marked new n ≡ stored
  pub others : (k : ℕ) → (k ≡ n → ⊥) → marked new k ≡ marked old k

pub marks_it : (old new : Marks) (n : ℕ) (stored : Bool) → stored ≡ true → new.most ≡ old.most → new.places ≡ old.places
    → ((k : ℕ) → marked new k ≡ (k == n || marked old k)) → MarksOne old new n stored
marks_it old new n stored so most places each = record {
  most = most;
  places = places;
  here = λ none. each n ∙ (marked_here (marked old n) n ∙ sym so);
  others = λ k other. each k ∙ marked_else (marked old k) k n other;
}

pub marks_none : (old : Marks) (n : ℕ) (stored : Bool) → stored ≡ false → MarksOne old old n stored
marks_none old n stored so = record { most = refl; places = refl; here = λ none. none ∙ sym so; others = λ k other. refl }
