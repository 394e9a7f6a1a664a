-- What was read of a journal, in words of its area.
use Rattle.std.specs.Prelude.{◌↔◌, IfSome, IsSome, IsTrue, ◌==◌, ◌&&◌, if◌then◌else◌, Option, Some, None}
use Rattle.std.specs.Option.{option_or}
use Rattle.std.proofs.Common.{◌≡◌, ◌⊎◌, inl, inr, ℕ, zero, suc, ◌+◌, ◌-◌, ◌*◌, ◌<◌, ◌≤◌, Bool, true, false, List, get_or, refl, sym, ap, ◌∙◌, arith}
use Rattle.std.proofs.lemmas.Bool.{eq-eqb, eqb-true, false≢true}
use Rattle.bank_kept.specs.Bank.{area_of_bank}
use Rattle.flash_bank.specs.Bank.{current_of, geometry_of}
use Rattle.flash_bank.specs.declared.bank.Bank.{Bank}
use Rattle.flash_dev.specs.Changes.{IsBlank}
use Rattle.flash_journal.specs.Reading.{is_range}
use Rattle.flash_journal.specs.declared.slot.SlotRange.{SlotRange}
use Rattle.flash_kept.specs.Counts.{find_below}
use Rattle.flash_kept.specs.Slots.{is_blank, is_marked, is_slot_of, is_valid_slot, slot_in}
use Rattle.flash_kept.specs.SpareArea.{SpareArea, mark_place, spare_area}
use Rattle.flash_kept.proofs.Cases.{same_tests}
use Rattle.flash_kept.proofs.CountLaws.{all_each, all_of, last_or}
use Rattle.flash_layout.specs.Layout.{journal_len, mark_count}
use Rattle.flash_layout.specs.Slots.{slot_at, slot_len}
use Rattle.flash_layout.proofs.Places.{marks_before_slots, slots_before_end}
use Rattle.ssu_group.specs.declared.places.Place.{Place}

-- the area of the same bank
pub area_same : (a b : Bank) → geometry_of b ≡ geometry_of a → current_of b ≡ current_of a → area_of_bank b ≡ area_of_bank a
area_same a b geometry current = (λ i. spare_area (geometry i) (1 - (current i).bank) (current i).number)

-- ---- bytes that are erased

blank_true : (c : List ℕ) (at n : ℕ) → IsBlank c at n → is_blank c at n ≡ true
unfolding is_blank
blank_true c at n blank = all_of (λ k. get_or c (at + k) 0 == 255) n (λ k lt. eq-eqb (get_or c (at + k) 0) 255 (blank k lt))

true_blank : (c : List ℕ) (at n : ℕ) → is_blank c at n ≡ true → IsBlank c at n
unfolding is_blank
true_blank c at n is k lt = eqb-true (get_or c (at + k) 0) 255 (all_each (λ k. get_or c (at + k) 0 == 255) n is k lt)

pub blank_tested : (c : List ℕ) (at n : ℕ) (found : Bool) → IsTrue found ↔ IsBlank c at n → found ≡ is_blank c at n
blank_tested c at n found is = same_tests found (is_blank c at n) (λ t. blank_true c at n (is.0 t)) (λ t. is.1 (true_blank c at n t))

-- ---- marks

pub mark_room : (bank : Bank) (n : ℕ) → n < mark_count (geometry_of bank) → 8448 + 2 * n + 2 ≤ journal_len (geometry_of bank)
mark_room bank n lt =
    let marks = marks_before_slots (geometry_of bank) bank.limits in
    let ends = slots_before_end (geometry_of bank) bank.limits in
    omega (arith, marks, ends, lt)

pub mark_read : (area : SpareArea) (c v : List ℕ) (n : ℕ) → get_or c (mark_place area n + 0) 0 ≡ get_or v 0 0 → get_or c (mark_place area n + 1) 0 ≡ get_or v 1 0
    → is_marked area c n ≡ (get_or v 0 0 == 0 && get_or v 1 0 == 255)
unfolding is_marked
mark_read area c v n first second = (λ i. first i == 0 && second i == 255)

-- ---- slots

pub range_tested : (area : SpareArea) (c : List ℕ) (p : Place) (s : ℕ) (range : Option SlotRange) → IsSome range ↔ (is_valid_slot area c s ≡ true)
    → IfSome range (λ r. (r.at ≡ slot_at (slot_in area c s)) × (r.len ≡ slot_len (slot_in area c s))) → is_range range p ≡ is_slot_of area c p s
range_tested area c p s None valid value = by_test (is_valid_slot area c s) refl
  where
    by_test : (t : Bool) → is_valid_slot area c s ≡ t → false ≡ (is_valid_slot area c s && (slot_at (slot_in area c s) == p.at && slot_len (slot_in area c s) == p.len))
    by_test true e = absurd (false≢true (valid.1 e))
    by_test false e = ap (λ (t : Bool). t && (slot_at (slot_in area c s) == p.at && slot_len (slot_in area c s) == p.len)) (sym e)
range_tested area c p s (Some range) valid value =
    let yes : is_valid_slot area c s ≡ true = valid.0 refl in
    (λ i. value.0 i == p.at && value.1 i == p.len) ∙ ap (λ (t : Bool). t && (slot_at (slot_in area c s) == p.at && slot_len (slot_in area c s) == p.len)) (sym yes)

-- ---- the first number that has it

pub find_none : (f : ℕ → Bool) (n : ℕ) → ((k : ℕ) → k < n → f k ≡ false) → find_below f n ≡ None
unfolding find_below
find_none f zero none = refl
find_none f (suc n) none =
    ap (λ (o : Option ℕ). option_or o (if f n then Some n else None)) (find_none f n (λ k lt. none k (omega (arith, lt))))
    ∙ ap (λ (t : Bool). if t then Some n else None) (none n (omega arith))

pub find_first : (f : ℕ → Bool) (n k : ℕ) → k < n → f k ≡ true → ((j : ℕ) → j < k → f j ≡ false) → find_below f n ≡ Some k
unfolding find_below
find_first f zero k lt is first = absurd (omega (arith, lt))
find_first f (suc n) k lt is first = by_last (λ below. find_first f n k below is first) (last_or k n lt)
  where
    by_last : (k < n → find_below f n ≡ Some k) → (k < n) ⊎ (k ≡ n) → option_or (find_below f n) (if f n then Some n else None) ≡ Some k
    by_last rest (inl below) = ap (λ (o : Option ℕ). option_or o (if f n then Some n else None)) (rest below)
    by_last rest (inr same) =
        ap (λ (o : Option ℕ). option_or o (if f n then Some n else None)) (find_none f n (λ j below. first j (omega (arith, below, same))))
        ∙ (ap (λ (t : Bool). if t then Some n else None) (ap f (sym same) ∙ is) ∙ ap (λ (m : ℕ). Some m) (sym same))

or_none : (o p : Option ℕ) → option_or o p ≡ None → (o ≡ None) × (p ≡ None)
or_none None p is = (refl, is)
or_none (Some m) p is = absurd cc

or_some : (o p : Option ℕ) (k : ℕ) → option_or o p ≡ Some k → (o ≡ Some k) ⊎ ((o ≡ None) × (p ≡ Some k))
or_some None p k is = inr (refl, is)
or_some (Some m) p k is = inl is

if_none : (t : Bool) (n : ℕ) → (if t then Some n else None) ≡ None → t ≡ false
if_none true n is = absurd cc
if_none false n is = refl

if_some : (t : Bool) (n k : ℕ) → (if t then Some n else None) ≡ Some k → (t ≡ true) × (n ≡ k)
if_some true n k is = (refl, cc)
if_some false n k is = absurd cc

-- where there is none, it holds for none
pub none_found : (f : ℕ → Bool) (n : ℕ) → find_below f n ≡ None → (j : ℕ) → j < n → f j ≡ false
unfolding find_below
none_found f zero none j lt = absurd (omega (arith, lt))
none_found f (suc n) none j lt =
    let both = or_none (find_below f n) (if f n then Some n else None) none in
    by_last (λ below. none_found f n both.0 j below) (if_none (f n) n both.1) (last_or j n lt)
  where
    by_last : (j < n → f j ≡ false) → f n ≡ false → (j < n) ⊎ (j ≡ n) → f j ≡ false
    by_last rest last (inl below) = rest below
    by_last rest last (inr same) = ap f same ∙ last

-- where there is one, it is the first for which it holds
pub record IsFirst (f : ℕ → Bool) (n k : ℕ) : Type 0 where
  pub below : k < n
  pub is : f k ≡ true
  pub first : (j : ℕ) → j < k → f j ≡ false

pub first_found : (f : ℕ → Bool) (n k : ℕ) → find_below f n ≡ Some k → IsFirst f n k
unfolding find_below
first_found f zero k is = absurd cc
first_found f (suc n) k is = by_side (λ there. first_found f n k there) (or_some (find_below f n) (if f n then Some n else None) k is)
  where
    by_side : (find_below f n ≡ Some k → IsFirst f n k) → (find_below f n ≡ Some k) ⊎ ((find_below f n ≡ None) × ((if f n then Some n else None) ≡ Some k)) → IsFirst f (suc n) k
    by_side rest (inl there) = let r = rest there in let lt = r.below in record { below = omega (arith, lt); is = r.is; first = r.first }
    by_side rest (inr last) =
        let one = if_some (f n) n k last.1 in
        let same = one.1 in
        record { below = omega (arith, same); is = ap f (sym same) ∙ one.0; first = λ j lt. none_found f n last.0 j (omega (arith, lt, same)) }
