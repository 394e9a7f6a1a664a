-- The head of a slot, in its 16 bytes.
use Rattle.std.specs.Prelude.{Bool, true, false, ◌&&◌, ◌==◌, nat_le}
use Rattle.std.proofs.Common.{◌≡◌, ℕ, zero, suc, ◌+◌, ◌*◌, ◌<◌, ◌≤◌, List, [], ◌∷◌, length, get_or, take, drop, refl, sym, ◌∙◌, ap, arith}
use Rattle.std.proofs.lemmas.Bool.Decides.{nat_tests}
use Rattle.flash_bank.specs.Laid.{IsSlotHead}
use Rattle.flash_kept.specs.Slots.{is_valid_slot}
use Rattle.flash_kept.specs.SpareArea.{SpareArea, slot_place}
use Rattle.flash_layout.specs.Pairs.{AreWhole, half_at, pair_sum, part}
use Rattle.flash_layout.specs.Slots.{are_pairs_whole, is_slot, slot_at, slot_len}
use Rattle.flash_layout.proofs.PartLemmas.{get_or-part, length-part, take_less}

is_255 : (s : ℕ) → (s == 255) ≡ true → s ≡ 255
is_255 s is = grind (arith, nat_tests)

both_true : (t u : Bool) → (t && u) ≡ true → (t ≡ true) × (u ≡ true)
both_true true true is = (refl, refl)
both_true true false is = absurd (cc is)
both_true false u is = absurd (cc is)

-- one pair more
whole_more : (a b : ℕ) (rest : List ℕ) (n : ℕ) → a + b ≡ 255 → AreWhole rest n → AreWhole (a ∷ b ∷ rest) (suc n)
whole_more a b rest n front behind = record { each = each }
  where
    each : (i : ℕ) → i < suc n → pair_sum (a ∷ b ∷ rest) i ≡ 255
    each zero lt = front
    each (suc i) lt =
        let one : 2 * suc i ≡ suc (suc (2 * i)) = omega arith in
        let two : 2 * suc i + 1 ≡ suc (suc (2 * i + 1)) = omega arith in
        let first : get_or (a ∷ b ∷ rest) (2 * suc i) 0 ≡ get_or rest (2 * i) 0 = ap (λ (k : ℕ). get_or (a ∷ b ∷ rest) k 0) one in
        let second : get_or (a ∷ b ∷ rest) (2 * suc i + 1) 0 ≡ get_or rest (2 * i + 1) 0 = ap (λ (k : ℕ). get_or (a ∷ b ∷ rest) k 0) two in
        omega (arith, first, second, behind.each i (omega arith))

-- pairs are whole where the test says so
whole_from : (l : List ℕ) (n : ℕ) → length l ≡ 2 * n → are_pairs_whole l ≡ true → AreWhole l n
unfolding are_pairs_whole
whole_from [] zero size is = record { each = λ i lt. absurd (omega arith) }
whole_from [] (suc n) size is = absurd (omega arith)
whole_from (a ∷ []) n size is = absurd (cc is)
whole_from (a ∷ b ∷ rest) zero size is = absurd (omega arith)
whole_from (a ∷ b ∷ rest) (suc n) size is =
    let both = both_true (a + b == 255) (are_pairs_whole rest) is in
    whole_more a b rest n (is_255 (a + b) both.0) (whole_from rest n (omega arith) both.1)

whole_to : (l : List ℕ) (n : ℕ) → length l ≡ 2 * n → AreWhole l n → are_pairs_whole l ≡ true
unfolding are_pairs_whole
whole_to [] n size whole = refl
whole_to (a ∷ []) n size whole = absurd (omega arith)
whole_to (a ∷ b ∷ rest) zero size whole = absurd (omega arith)
whole_to (a ∷ b ∷ rest) (suc n) size whole =
    let front : a + b ≡ 255 = whole.each 0 (omega arith) in
    let behind : are_pairs_whole rest ≡ true = whole_to rest n (omega arith) (record { each = each }) in
    (λ i. (front i == 255) && behind i)
  where
    each : (i : ℕ) → i < n → pair_sum rest i ≡ 255
    each i lt =
        let one : 2 * suc i ≡ suc (suc (2 * i)) = omega arith in
        let two : 2 * suc i + 1 ≡ suc (suc (2 * i + 1)) = omega arith in
        let first : get_or (a ∷ b ∷ rest) (2 * suc i) 0 ≡ get_or rest (2 * i) 0 = ap (λ (k : ℕ). get_or (a ∷ b ∷ rest) k 0) one in
        let second : get_or (a ∷ b ∷ rest) (2 * suc i + 1) 0 ≡ get_or rest (2 * i + 1) 0 = ap (λ (k : ℕ). get_or (a ∷ b ∷ rest) k 0) two in
        omega (arith, first, second, whole.each (suc i) (omega arith))

-- the test of a slot, by its parts
abbrev says : Bool → ℕ → ℕ → ℕ → ℕ → Bool
says whole sign at len n = whole && (sign == 0x5350) && nat_le 1 len && nat_le len 4066 && nat_le (at + len) n

says_from : (whole : Bool) (sign at len n : ℕ) → says whole sign at len n ≡ true → (whole ≡ true) × ((sign ≡ 0x5350) × ((1 ≤ len) × ((len ≤ 4066) × (at + len ≤ n))))
says_from false sign at len n is = absurd (cc is)
says_from true sign at len n is = (refl, (grind (arith, nat_tests), (grind (arith, nat_tests), (grind (arith, nat_tests), grind (arith, nat_tests)))))

says_to : (sign at len n : ℕ) → sign ≡ 0x5350 → 1 ≤ len → len ≤ 4066 → at + len ≤ n → says true sign at len n ≡ true
says_to sign at len n a b c d = grind (arith, nat_tests)

module _ (c : List ℕ) (p n : ℕ) (fits : p + 4352 ≤ length c) where
  abbrev slot : List ℕ
  slot = part c p 4352

  abbrev head : List ℕ
  head = part c p 16

  head_size : length head ≡ 2 * 8
  head_size = length-part c p 16 (omega arith)

  front_same : take 16 slot ≡ head
  front_same = take_less (drop p c) 16 4352 (omega arith)

  byte_same : (k : ℕ) → k < 16 → get_or slot k 0 ≡ get_or head k 0
  byte_same k lt = get_or-part c p 4352 k (omega arith) ∙ sym (get_or-part c p 16 k lt)

  half_same : (i : ℕ) → i < 7 → half_at slot i ≡ half_at head i
  half_same i lt = let a = byte_same (2 * i) (omega arith) in let b = byte_same (2 * (i + 1)) (omega arith) in omega (arith, a, b)

  pub at_same : slot_at slot ≡ slot_at head
  at_same = let a = half_same 2 (omega arith) in let b = half_same 4 (omega arith) in omega (arith, a, b)

  pub len_same : slot_len slot ≡ slot_len head
  len_same = half_same 6 (omega arith)

  -- a slot is valid where its head is
  pub slot_from : is_slot n slot ≡ true → IsSlotHead n head
  slot_from is =
      let parts = says_from (are_pairs_whole (take 16 slot)) (half_at slot 0) (slot_at slot) (slot_len slot) n is in
      let whole : are_pairs_whole head ≡ true = sym (ap are_pairs_whole front_same) ∙ parts.0 in
      record {
        whole = whole_from head 8 head_size whole;
        sign = sym (half_same 0 (omega arith)) ∙ parts.1.0;
        some = omega (arith, parts.1.1.0, len_same);
        few = omega (arith, parts.1.1.1.0, len_same);
        inside = omega (arith, parts.1.1.1.1, len_same, at_same);
      }

  pub slot_to : IsSlotHead n head → is_slot n slot ≡ true
  slot_to valid =
      let whole : are_pairs_whole (take 16 slot) ≡ true = ap are_pairs_whole front_same ∙ whole_to head 8 head_size valid.whole in
      ap (λ (t : Bool). says t (half_at slot 0) (slot_at slot) (slot_len slot) n) whole
      ∙ says_to (half_at slot 0) (slot_at slot) (slot_len slot) n (half_same 0 (omega arith) ∙ valid.sign) (omega (arith, valid.some, len_same)) (omega (arith, valid.few, len_same)) (omega (arith, valid.inside, len_same, at_same))

-- a slot of the spare area is valid where its head is
pub valid_from : (area : SpareArea) (c : List ℕ) (s : ℕ) → slot_place area s + 4352 ≤ length c → is_valid_slot area c s ≡ true → IsSlotHead area.bank_len (part c (slot_place area s) 16)
unfolding is_valid_slot
valid_from area c s fits valid = slot_from c (slot_place area s) area.bank_len fits valid

pub valid_to : (area : SpareArea) (c : List ℕ) (s : ℕ) → slot_place area s + 4352 ≤ length c → IsSlotHead area.bank_len (part c (slot_place area s) 16) → is_valid_slot area c s ≡ true
unfolding is_valid_slot
valid_to area c s fits valid = slot_to c (slot_place area s) area.bank_len fits valid
