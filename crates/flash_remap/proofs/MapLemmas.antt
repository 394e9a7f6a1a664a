-- Lists of entries, and what one more changes.
use Rattle.std.proofs.Common.{◌≡◌, ◌⊎◌, inl, inr, ⊎_elim, ℕ, ◌+◌, ◌<◌, ◌≤◌, Bool, true, ◌&&◌, ◌==◌, cond, nat_lt, nat_le, List, [], ◌∷◌, ◌++◌, Some, refl, sym, ◌∙◌, ap, subst, arith}
use Rattle.std.proofs.lemmas.Bool.{and_from, and_parts, cases_Bool, cond-true, cond-false, cond_both, cases_eq, eqb-true, eq-eqb, lt-ltb, ltb-true, le-leb, leb-true}
use Rattle.std.proofs.lemmas.Bool.Decides.{nat_tests}
use Rattle.std.proofs.lemmas.List.Folds.{list_all-append}
use Rattle.std.proofs.Math.Bool.{and-true}
use Rattle.flash_remap.specs.Layout.{Geometry, spare_block}
use Rattle.flash_remap.specs.Map.{IsNextOf, above_last, are_below, is_counting, last_for, place_among, with_next}
use Rattle.flash_remap.specs.declared.entry.Entry.{Entry}

pub last_for-more : (g : Geometry) (b none : ℕ) (es : List Entry) (e : Entry)
    → last_for g b none (es ++ e ∷ []) ≡ cond (e.block == b) (spare_block g e.spare) (last_for g b none es)
last_for-more g b none [] e = refl
last_for-more g b none (f ∷ es) e = last_for-more g b (cond (f.block == b) (spare_block g f.spare) none) es e

pub above_last-more : (none : ℕ) (es : List Entry) (e : Entry) → above_last none (es ++ e ∷ []) ≡ e.spare + 1
above_last-more none [] e = refl
above_last-more none (f ∷ es) e = above_last-more (f.spare + 1) es e

pub are_below-more : (es : List Entry) (e : Entry) (n : ℕ) → are_below (es ++ e ∷ []) n ≡ (are_below es n && nat_lt e.spare n)
are_below-more es e n = list_all-append (λ f. nat_lt f.spare n) es (e ∷ []) ∙ ap (λ (b : Bool). are_below es n && b) (and-true (nat_lt e.spare n))

both_below : (next spare n : ℕ) → next ≤ spare → (nat_le next n && nat_lt spare n) ≡ nat_le (spare + 1) n
both_below next spare n le = grind (arith, nat_tests)

pub next_none : IsNextOf [] 0
next_none = record { last = refl; above = λ n. sym (le-leb 0 n (omega arith)) }

pub next_more : (es : List Entry) (e : Entry) (next : ℕ) → IsNextOf es next → next ≤ e.spare → IsNextOf (es ++ e ∷ []) (e.spare + 1)
next_more es e next is le = record {
  last = sym (above_last-more 0 es e);
  above = λ n. are_below-more es e n ∙ (ap (λ (b : Bool). b && nat_lt e.spare n) (is.above n) ∙ both_below next e.spare n le);
}

-- an entry counts behind these exactly by the next spare
pub counting_by : (g : Geometry) (es : List Entry) (e : Entry) (next : ℕ) → IsNextOf es next
    → is_counting g es e ≡ (nat_lt e.block g.logical && (nat_lt e.spare g.spares && nat_le next e.spare))
counting_by g es e next is = ap (λ (b : Bool). nat_lt e.block g.logical && (nat_lt e.spare g.spares && b)) (is.above e.spare)

pub counts : (g : Geometry) (es : List Entry) (e : Entry) (next : ℕ) → IsNextOf es next → e.block < g.logical → e.spare < g.spares → next ≤ e.spare
    → with_next g es (Some e) ≡ es ++ e ∷ []
counts g es e next is block spare above =
    cond-true (is_counting g es e) _ _ (counting_by g es e next is ∙ and_from _ _ (lt-ltb _ _ block) (and_from _ _ (lt-ltb _ _ spare) (le-leb _ _ above)))

-- what follows from an entry that counts
pub counts_then : (g : Geometry) (es : List Entry) (e : Entry) (next : ℕ) → IsNextOf es next → is_counting g es e ≡ true
    → (e.block < g.logical) × ((e.spare < g.spares) × (next ≤ e.spare))
counts_then g es e next is counting =
    let parts = and_parts _ _ (sym (counting_by g es e next is) ∙ counting) in
    let more = and_parts _ _ parts.1 in
    (ltb-true _ _ parts.0, (ltb-true _ _ more.0, leb-true _ _ more.1))

-- spares below a number stand below its block
pub last_for-below : (g : Geometry) (b none n : ℕ) (es : List Entry) → are_below es n ≡ true → none < spare_block g n → last_for g b none es < spare_block g n
last_for-below g b none n [] below lt = lt
last_for-below g b none n (e ∷ es) below lt =
    let parts = and_parts (nat_lt e.spare n) (are_below es n) below in
    let here : e.spare < n = ltb-true _ _ parts.0 in
    last_for-below g b (cond (e.block == b) (spare_block g e.spare) none) n es parts.1
    (cond_both (e.block == b) (spare_block g e.spare) none (λ (p : ℕ). p < spare_block g n) (λ yes. omega (arith, here)) (λ no. lt))

-- Entries in the order of their spares: a block stands for one logical block at most, and below the next spare.
pub record AreApart (g : Geometry) (es : List Entry) (next : ℕ) : Type 0 where
  pub below : (b : ℕ) → b < g.logical → place_among g es b < spare_block g next
  pub one : (b c : ℕ) → b < g.logical → c < g.logical → place_among g es b ≡ place_among g es c → b ≡ c

pub apart_none : (g : Geometry) → AreApart g [] 0
apart_none g = record { below = λ b lt. omega (arith, lt); one = λ b c blt clt is. is }

pub apart_more : (g : Geometry) (es : List Entry) (e : Entry) (next : ℕ) → AreApart g es next → next ≤ e.spare → AreApart g (es ++ e ∷ []) (e.spare + 1)
apart_more g es e next apart le = record {
  below = λ b lt. subst (λ (p : ℕ). p < spare_block g (e.spare + 1)) (sym (last_for-more g b b es e))
      (cond_both (e.block == b) (spare_block g e.spare) (place_among g es b) (λ (p : ℕ). p < spare_block g (e.spare + 1)) (λ yes. omega arith) (λ no. omega (arith, apart.below b lt)));
  one = λ b c blt clt same. in_one b c blt clt (sym (last_for-more g b b es e) ∙ (same ∙ last_for-more g c c es e)) (cases_eq e.block b) (cases_eq e.block c);
}
  where
    at_one : (b : ℕ) → e.block ≡ b → cond (e.block == b) (spare_block g e.spare) (place_among g es b) ≡ spare_block g e.spare
    at_one b is = cond-true (e.block == b) _ _ (eq-eqb _ _ is)

    at_other : (b : ℕ) → (e.block ≡ b → ⊥) → cond (e.block == b) (spare_block g e.spare) (place_among g es b) ≡ place_among g es b
    at_other b not = ⊎_elim (λ yes. absurd (not (eqb-true _ _ yes))) (λ no. cond-false (e.block == b) _ _ no) (cases_Bool (e.block == b))

    in_one : (b c : ℕ) → b < g.logical → c < g.logical
        → cond (e.block == b) (spare_block g e.spare) (place_among g es b) ≡ cond (e.block == c) (spare_block g e.spare) (place_among g es c)
        → (e.block ≡ b) ⊎ (e.block ≡ b → ⊥) → (e.block ≡ c) ⊎ (e.block ≡ c → ⊥) → b ≡ c
    in_one b c blt clt same (inl first) (inl second) = sym first ∙ second
    in_one b c blt clt same (inl first) (inr not) =
        let is : spare_block g e.spare ≡ place_among g es c = sym (at_one b first) ∙ (same ∙ at_other c not) in
        absurd (omega (arith, is, apart.below c clt, le))
    in_one b c blt clt same (inr not) (inl second) =
        let is : place_among g es b ≡ spare_block g e.spare = sym (at_other b not) ∙ (same ∙ at_one c second) in
        absurd (omega (arith, is, apart.below b blt, le))
    in_one b c blt clt same (inr first) (inr second) = apart.one b c blt clt (sym (at_other b first) ∙ (same ∙ at_other c second))
