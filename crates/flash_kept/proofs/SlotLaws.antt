-- Slots, place by place of the contents.
use Rattle.std.specs.Prelude.{◌==◌, nat_le}
use Rattle.std.proofs.Common.{◌≡◌, ℕ, zero, suc, ◌+◌, ◌*◌, ◌^◌, ◌<◌, ◌≤◌, Bool, true, false, ◌&&◌, not, List, [], ◌∷◌, length, get_or, take, drop, refl, sym, ap, ◌∙◌, arith}
use Rattle.std.proofs.lemmas.Bool.{eq-eqb, eqb-true}
use Rattle.std.proofs.lemmas.Bool.Decides.{nat_tests}
use Rattle.flash_layout.specs.Pairs.{AreWhole, half_at, pair_sum, part}
use Rattle.flash_layout.specs.Slots.{are_pairs_whole, slot_at, slot_len, slot_spelled, slot_written}
use Rattle.flash_layout.proofs.PairsLemmas.{byte_of, whole-paired}
use Rattle.flash_layout.proofs.PartLemmas.{get_or-part, length-part, part_same, take_less}
use Rattle.ssu_group.specs.declared.places.Place.{Place}
use Rattle.flash_kept.specs.Leaving.{SameIn}
use Rattle.flash_kept.specs.Slots.{is_blank, is_free, is_slot_of, is_slotted, is_valid_slot, slot_in}
use Rattle.flash_kept.specs.SpareArea.{IsInOrder, SpareArea, slot_place}
use Rattle.flash_kept.proofs.CountLaws.{all_each, all_same, and_both, and_left, and_right}
use Rattle.flash_kept.proofs.PairLaws.{sum_of}

pub and_same : {a b c d : Bool} → a ≡ b → c ≡ d → (a && c) ≡ (b && d)
and_same e f = cc

-- ---- whole pairs

is_255 : (s : ℕ) → (s == 255) ≡ true → s ≡ 255
is_255 s is = eqb-true s 255 is

behind_one : (a b : ℕ) (rest : List ℕ) (i : ℕ) → pair_sum (a ∷ b ∷ rest) (suc i) ≡ pair_sum rest i
behind_one a b rest i =
    let one : 2 * suc i ≡ suc (suc (2 * i)) = omega arith in
    let two : 2 * suc i + 1 ≡ suc (suc (2 * i + 1)) = omega arith in
    let first : get_or (a ∷ b ∷ rest) (2 * suc i) 0 ≡ get_or rest (2 * i) 0 = ap (λ (k : ℕ). get_or (a ∷ b ∷ rest) k 0) one in
    let second : get_or (a ∷ b ∷ rest) (2 * suc i + 1) 0 ≡ get_or rest (2 * i + 1) 0 = ap (λ (k : ℕ). get_or (a ∷ b ∷ rest) k 0) two in
    omega (arith, first, second)

whole_each : (l : List ℕ) (n : ℕ) → length l ≡ 2 * n → are_pairs_whole l ≡ true → (i : ℕ) → i < n → pair_sum l i ≡ 255
unfolding are_pairs_whole
whole_each [] zero size is i lt = absurd (omega arith)
whole_each [] (suc n) size is i lt = absurd (omega arith)
whole_each (a ∷ []) n size is i lt = absurd (cc is)
whole_each (a ∷ b ∷ rest) zero size is i lt = absurd (omega arith)
whole_each (a ∷ b ∷ rest) (suc n) size is zero lt = is_255 (a + b) (and_left (a + b == 255) (are_pairs_whole rest) is)
whole_each (a ∷ b ∷ rest) (suc n) size is (suc i) lt =
    behind_one a b rest i ∙ whole_each rest n (omega arith) (and_right (a + b == 255) (are_pairs_whole rest) is) i (omega arith)

whole_of : (l : List ℕ) (n : ℕ) → length l ≡ 2 * n → ((i : ℕ) → i < n → pair_sum l i ≡ 255) → are_pairs_whole l ≡ true
unfolding are_pairs_whole
whole_of [] n size each = refl
whole_of (a ∷ []) n size each = absurd (omega arith)
whole_of (a ∷ b ∷ rest) zero size each = absurd (omega arith)
whole_of (a ∷ b ∷ rest) (suc n) size each =
    and_both (a + b == 255) (are_pairs_whole rest) (eq-eqb (a + b) 255 (each 0 (omega arith)))
    (whole_of rest n (omega arith) (λ i lt. sym (behind_one a b rest i) ∙ each (suc i) (omega arith)))

-- ---- the test of a slot, by its parts

abbrev says : Bool → ℕ → ℕ → ℕ → ℕ → Bool
says whole sign at len n = whole && (sign == 0x5350) && nat_le 1 len && nat_le len 4066 && nat_le (at + len) n

whole_from : (whole : Bool) (sign at len n : ℕ) → says whole sign at len n ≡ true → whole ≡ true
whole_from false sign at len n is = absurd (cc is)
whole_from true sign at len n is = refl

says_to : (sign at len n : ℕ) → sign ≡ 0x5350 → 1 ≤ len → len ≤ 4066 → at + len ≤ n → says true sign at len n ≡ true
says_to sign at len n a b c d = grind (arith, nat_tests)

-- the head that is written has whole pairs
pub written_whole : (at len : ℕ) → at < 2 ^ 32 → len < 65536 → AreWhole (slot_written at len) 8
written_whole at len fits few = whole-paired (slot_spelled at len) (λ i lt. byte_of (slot_spelled at len) (omega arith, (omega arith, (omega arith, (omega arith, (omega arith, (omega arith, (omega arith, (omega arith, tt)))))))) i)

-- a byte of a slot, and the numbers in its head
slot_byte : (area : SpareArea) (c : List ℕ) (s k : ℕ) → k < 16 → get_or (slot_in area c s) k 0 ≡ get_or c (slot_place area s + k) 0
slot_byte area c s k lt = get_or-part c (slot_place area s) 4352 k (omega arith)

byte_same : (area : SpareArea) (s : ℕ) (x y : List ℕ) → SameIn (slot_place area s) 16 x y → (k : ℕ) → k < 16 → get_or (slot_in area y s) k 0 ≡ get_or (slot_in area x s) k 0
byte_same area s x y same k lt = slot_byte area y s k lt ∙ (same k lt ∙ sym (slot_byte area x s k lt))

at_same : (area : SpareArea) (s : ℕ) (x y : List ℕ) → SameIn (slot_place area s) 16 x y → slot_at (slot_in area y s) ≡ slot_at (slot_in area x s)
at_same area s x y same =
    let b = byte_same area s x y same in
    let b4 = b 4 (omega arith) in let b6 = b 6 (omega arith) in let b8 = b 8 (omega arith) in let b10 = b 10 (omega arith) in omega (arith, b4, b6, b8, b10)

len_same : (area : SpareArea) (s : ℕ) (x y : List ℕ) → SameIn (slot_place area s) 16 x y → slot_len (slot_in area y s) ≡ slot_len (slot_in area x s)
len_same area s x y same =
    let b = byte_same area s x y same in
    let b12 = b 12 (omega arith) in let b14 = b 14 (omega arith) in omega (arith, b12, b14)

front_of : (area : SpareArea) (c : List ℕ) (s : ℕ) → take 16 (slot_in area c s) ≡ part c (slot_place area s) 16
front_of area c s = take_less (drop (slot_place area s) c) 16 4352 (omega arith)

-- the test of a slot reads its head alone
pub slot_same : (area : SpareArea) (s : ℕ) (x y : List ℕ) → length y ≡ length x → SameIn (slot_place area s) 16 x y → is_valid_slot area y s ≡ is_valid_slot area x s
unfolding is_valid_slot
slot_same area s x y size same =
    let b = byte_same area s x y same in
    let b0 = b 0 (omega arith) in let b2 = b 2 (omega arith) in
    let front : take 16 (slot_in area y s) ≡ take 16 (slot_in area x s) = front_of area y s ∙ (part_same x y (slot_place area s) 16 size same ∙ sym (front_of area x s)) in
    let sign : half_at (slot_in area y s) 0 ≡ half_at (slot_in area x s) 0 = omega (arith, b0, b2) in
    let at = at_same area s x y same in
    let len = len_same area s x y same in
    (λ i. says (are_pairs_whole (front i)) (sign i) (at i) (len i) area.bank_len)

pub slot_of_same : (area : SpareArea) (p : Place) (s : ℕ) (x y : List ℕ) → length y ≡ length x → SameIn (slot_place area s) 16 x y → is_slot_of area y p s ≡ is_slot_of area x p s
slot_of_same area p s x y size same =
    and_same (slot_same area s x y size same) (
    and_same (ap (λ (b : ℕ). b == p.at) (at_same area s x y same)) (ap (λ (b : ℕ). b == p.len) (len_same area s x y same)))

pub slotted_same : (area : SpareArea) (p : Place) (x y : List ℕ) → ((s : ℕ) → s < 16 → is_slot_of area y p s ≡ is_slot_of area x p s) → is_slotted area y p ≡ is_slotted area x p
unfolding is_slotted
slotted_same area p x y same = ap not (all_same _ _ 16 (λ s lt. ap not (same s lt)))

-- ---- a valid slot

-- the head of a slot of this place, which begins there, in contents
pub record HasHead (c : List ℕ) (p : Place) (begins : ℕ) : Type 0 where
  pub each : (k : ℕ) → k < 16 → get_or c (begins + k) 0 ≡ get_or (slot_written p.at p.len) k 0

module _ (area : SpareArea) (c : List ℕ) (order : IsInOrder area) (fits : area.journal + area.journal_len ≤ length c) (s : ℕ) (ls : s < 16) where
  front_len : length (take 16 (slot_in area c s)) ≡ 2 * 8
  front_len =
      let ends = order.ends in
      let size : length (part c (slot_place area s) 16) ≡ 16 = length-part c (slot_place area s) 16 (omega (arith, ends, fits, ls)) in
      ap length (front_of area c s) ∙ size

  front_byte : (k : ℕ) → k < 16 → get_or (take 16 (slot_in area c s)) k 0 ≡ get_or c (slot_place area s + k) 0
  front_byte k lt = ap (λ (l : List ℕ). get_or l k 0) (front_of area c s) ∙ get_or-part c (slot_place area s) 16 k lt

  front_sum : (i : ℕ) → i < 8 → pair_sum (take 16 (slot_in area c s)) i ≡ sum_of c (slot_place area s) i
  front_sum i lt = let first = front_byte (2 * i) (omega (arith, lt)) in let second = front_byte (2 * i + 1) (omega (arith, lt)) in omega (arith, first, second)

  pub slot_whole : is_valid_slot area c s ≡ true → (i : ℕ) → i < 8 → sum_of c (slot_place area s) i ≡ 255
  unfolding is_valid_slot
  slot_whole valid i lt =
      let front = whole_from (are_pairs_whole (take 16 (slot_in area c s))) (half_at (slot_in area c s) 0) (slot_at (slot_in area c s)) (slot_len (slot_in area c s)) area.bank_len valid in
      sym (front_sum i lt) ∙ whole_each (take 16 (slot_in area c s)) 8 front_len front i lt

  -- a slot that is free is not valid
  pub free_no_slot : is_free area c s ≡ true → is_valid_slot area c s ≡ true → ⊥
  unfolding is_free is_blank
  free_no_slot blank valid =
      let f : ℕ → Bool = λ k. get_or c (slot_place area s + k) 0 == 255 in
      let first = eqb-true (get_or c (slot_place area s + 0) 0) 255 (all_each f 4352 blank 0 (omega arith)) in
      let second = eqb-true (get_or c (slot_place area s + 1) 0) 255 (all_each f 4352 blank 1 (omega arith)) in
      let sum = slot_whole valid 0 (omega arith) in
      omega (arith, first, second, sum)

  -- where the head of a place stands, the slot has its offset and length
  pub head_at : (p : Place) → HasHead c p (slot_place area s) → (slot_at (slot_in area c s) ≡ p.at) × (slot_len (slot_in area c s) ≡ p.len)
  head_at p head =
      let b : (k : ℕ) → k < 16 → get_or (slot_in area c s) k 0 ≡ get_or (slot_written p.at p.len) k 0 = λ k lt. slot_byte area c s k lt ∙ head.each k lt in
      let b4 = b 4 (omega arith) in let b6 = b 6 (omega arith) in let b8 = b 8 (omega arith) in
      let b10 = b 10 (omega arith) in let b12 = b 12 (omega arith) in let b14 = b 14 (omega arith) in
      (omega (arith, b4, b6, b8, b10), omega (arith, b12, b14))

  -- and is valid, where the place lies in the bank
  pub head_valid : (p : Place) → p.at < 2 ^ 32 → 0 < p.len → p.len ≤ 4066 → p.at + p.len ≤ area.bank_len → HasHead c p (slot_place area s) → is_slot_of area c p s ≡ true
  unfolding is_valid_slot
  head_valid p fits_at some few inside head =
      let both = head_at p head in
      let at = both.0 in let len = both.1 in
      let b0 = slot_byte area c s 0 (omega arith) ∙ head.each 0 (omega arith) in
      let b2 = slot_byte area c s 2 (omega arith) ∙ head.each 2 (omega arith) in
      let sign : half_at (slot_in area c s) 0 ≡ 0x5350 = omega (arith, b0, b2) in
      let whole : are_pairs_whole (take 16 (slot_in area c s)) ≡ true = whole_of (take 16 (slot_in area c s)) 8 front_len (λ i lt. front_whole p fits_at few head i lt) in
      and_both _ _
      (ap (λ (t : Bool). says t (half_at (slot_in area c s) 0) (slot_at (slot_in area c s)) (slot_len (slot_in area c s)) area.bank_len) whole
      ∙ says_to (half_at (slot_in area c s) 0) (slot_at (slot_in area c s)) (slot_len (slot_in area c s)) area.bank_len sign (omega (arith, len, some)) (omega (arith, len, few)) (omega (arith, at, len, inside)))
      (and_both _ _ (eq-eqb (slot_at (slot_in area c s)) p.at at) (eq-eqb (slot_len (slot_in area c s)) p.len len))
    where
      front_whole : (p : Place) → p.at < 2 ^ 32 → p.len ≤ 4066 → HasHead c p (slot_place area s) → (i : ℕ) → i < 8 → pair_sum (take 16 (slot_in area c s)) i ≡ 255
      front_whole p fits_at few head i lt =
          let sum = front_sum i lt in
          let w = (written_whole p.at p.len fits_at (omega arith)).each i lt in
          let first = head.each (2 * i) (omega (arith, lt)) in let second = head.each (2 * i + 1) (omega (arith, lt)) in
          omega (arith, sum, w, first, second)
