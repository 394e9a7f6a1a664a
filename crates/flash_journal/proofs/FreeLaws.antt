-- Free slots, one after another.
use Rattle.std.specs.Prelude.{◌↔◌, IsTrue, ◌==◌}
use Rattle.std.proofs.Common.{◌≡◌, ℕ, zero, suc, ◌+◌, ◌≤◌, Bool, true, false, List, get_or, refl, sym, ap, ◌∙◌, arith}
use Rattle.std.proofs.lemmas.Bool.{eq-eqb, eqb-true}
use Rattle.flash_dev.specs.Changes.{IsBlank}
use Rattle.flash_kept.specs.Counts.{count_below, one_if}
use Rattle.flash_kept.specs.Slots.{free_slots, is_blank, is_free}
use Rattle.flash_kept.specs.SpareArea.{SpareArea, slot_place}
use Rattle.flash_kept.proofs.CountLaws.{all_each, all_of}
use Rattle.flash_kept.proofs.Cases.{same_tests}

blank_true : (c : List ℕ) (at n : ℕ) → IsBlank c at n → is_blank c at n ≡ true
unfolding is_blank
blank_true c at n blank = all_of (λ k. get_or c (at + k) 0 == 255) n (λ k lt. eq-eqb (get_or c (at + k) 0) 255 (blank k lt))

true_blank : (c : List ℕ) (at n : ℕ) → is_blank c at n ≡ true → IsBlank c at n
unfolding is_blank
true_blank c at n is k lt = eqb-true (get_or c (at + k) 0) 255 (all_each (λ k. get_or c (at + k) 0 == 255) n is k lt)

-- what was found of a range is whether the slot is free
pub free_found : (area : SpareArea) (c : List ℕ) (s : ℕ) (found : Bool) → IsTrue found ↔ IsBlank c (slot_place area s) 4352 → found ≡ is_free area c s
unfolding is_free
free_found area c s found is = same_tests found (is_blank c (slot_place area s) 4352) (λ t. blank_true c (slot_place area s) 4352 (is.0 t)) (λ t. is.1 (true_blank c (slot_place area s) 4352 t))

-- how many of the first so many slots are free
unfoldable pub free_below : SpareArea → List ℕ → ℕ → ℕ
free_below area c s = count_below (is_free area c) s

pub free_none : (area : SpareArea) (c : List ℕ) → free_below area c 0 ≡ 0
unfolding free_below count_below
free_none area c = refl

pub free_next : (area : SpareArea) (c : List ℕ) (s : ℕ) (found : Bool) → found ≡ is_free area c s → free_below area c (s + 1) ≡ free_below area c s + one_if found
unfolding free_below count_below
free_next area c s found is =
    let next : s + 1 ≡ suc s = omega arith in
    ap (count_below (is_free area c)) next ∙ ap (λ (t : Bool). count_below (is_free area c) s + one_if t) (sym is)

pub free_most : (area : SpareArea) (c : List ℕ) (s : ℕ) → free_below area c s ≤ s
unfolding free_below count_below
free_most area c zero = omega arith
free_most area c (suc s) = let before = free_most area c s in let one = at_most (is_free area c s) in omega (arith, before, one)
  where
    at_most : (t : Bool) → one_if t ≤ 1
    at_most true = omega arith
    at_most false = omega arith

pub free_all : (area : SpareArea) (c : List ℕ) → free_below area c 16 ≡ free_slots area c
unfolding free_below free_slots
free_all area c = refl
