-- A bank with slots laid over, read piece by piece.
use Rattle.std.specs.Prelude.{Bool, true, false, ◌&&◌, ◌==◌, nat_le}
use Rattle.std.proofs.Common.{◌≡◌, ◌⊎◌, inl, inr, ⊎_elim, ℕ, zero, suc, ◌+◌, ◌-◌, ◌*◌, ◌<◌, ◌≤◌, if◌then◌else◌, List, [], ◌∷◌, ◌++◌, length, get_or, take, drop, refl, sym, ◌∙◌, ap, subst, arith, get_or-drop, get_or-take, length-append, length-drop, length-take}
use borrow.Rule.Slice.PartMut.{put_mid}
use Rattle.std.proofs.Math.ListN.{get_or-append}
use Rattle.std.proofs.lemmas.List.{get_or-append_right}
use Rattle.std.proofs.lemmas.Bool.{cases_lt}
use Rattle.std.proofs.lemmas.Bool.Decides.{nat_tests}
use Rattle.flash_dev.specs.Changes.{Changes, Holds}
use Rattle.flash_dev.specs.Calls.{changed_in}
use Rattle.flash_dev.proofs.ChangesLemmas.{same_bytes}
use Rattle.flash_layout.specs.Layout.{Geometry, HasJournals, IsInLimits, area_bytes, area_len, area_place, journal_place, short_len, slots_at}
use Rattle.flash_layout.specs.Pairs.{AreWhole, half_at, pair_sum, part}
use Rattle.flash_layout.specs.Slots.{are_pairs_whole, is_slot, laid, laid_one, slot_at, slot_len}
use Rattle.flash_layout.proofs.LaidLemmas.{laid_next, laid_none, laid_some, laid_zero, length-changed_in}
use Rattle.flash_layout.proofs.PartLemmas.{get_or-part, length-part, take_less}
use Rattle.flash_layout.proofs.Places.{area_is, slots_before_end}
use Rattle.flash_bank.specs.Laid.{IsSlotHead, Lays, laid_from}
use Rattle.flash_bank.specs.Sound.{image_of}
use Rattle.flash_bank.specs.declared.laid_image.SlotRange.{SlotRange}
use Rattle.flash_bank.specs.declared.record.Record.{Record}

-- ---- the text

pub laid_from-none : (c : List ℕ) (place n slots : ℕ) → laid_from c place n slots 0 ≡ part c place n
unfolding laid_from
laid_from-none c place n slots = refl

pub laid_from-next : (c : List ℕ) (place n slots s : ℕ) → laid_from c place n slots (suc s) ≡ laid_one n (part c (slots + 4352 * s) 4352) (laid_from c place n slots s)
unfolding laid_from
laid_from-next c place n slots s = refl

length-laid_one : (n : ℕ) (slot bank : List ℕ) → length (laid_one n slot bank) ≡ length bank
length-laid_one n slot bank = by_test (is_slot n slot) refl
  where
    by_test : (t : Bool) → is_slot n slot ≡ t → length (laid_one n slot bank) ≡ length bank
    by_test false is = ap length (laid_none n slot bank is)
    by_test true is =
        ap (λ (t : Bool). length (if t then changed_in (slot_at slot) (slot_len slot) (λ k byte. get_or slot (256 + k) 0) bank else bank)) is
        ∙ length-changed_in (slot_at slot) (slot_len slot) (λ k byte. get_or slot (256 + k) 0) bank

pub length-laid_from : (c : List ℕ) (place n slots s : ℕ) → place + n ≤ length c → length (laid_from c place n slots s) ≡ n
length-laid_from c place n slots zero fits = ap length (laid_from-none c place n slots) ∙ length-part c place n fits
length-laid_from c place n slots (suc s) fits =
    ap length (laid_from-next c place n slots s) ∙ (length-laid_one n (part c (slots + 4352 * s) 4352) (laid_from c place n slots s) ∙ length-laid_from c place n slots s fits)

-- a piece of the bank before any slot is laid over it
pub held_first : (c : List ℕ) (place n slots at : ℕ) (piece : List ℕ) → Holds c (place + at) piece → at + length piece ≤ n → Holds (laid_from c place n slots 0) at piece
held_first c place n slots at piece holds fits k lt =
    let spot : place + (at + k) ≡ place + at + k = omega arith in
    ap (λ (t : List ℕ). get_or t (at + k) 0) (laid_from-none c place n slots) ∙ (get_or-part c place n (at + k) (omega arith) ∙ (ap (λ (p : ℕ). get_or c p 0) spot ∙ holds k lt))

-- and once one slot more is
pub held_next : (c : List ℕ) (place n slots s at : ℕ) (old new : List ℕ) → place + n ≤ length c → Holds (laid_from c place n slots s) at old
    → ((text : List ℕ) → length text ≡ n → Holds text at old → Holds (laid_one n (part c (slots + 4352 * s) 4352) text) at new) → Holds (laid_from c place n slots (s + 1)) at new
held_next c place n slots s at old new fits so_far here =
    let next : suc s ≡ s + 1 = omega arith in
    let text = laid_from c place n slots s in
    subst (λ (t : List ℕ). Holds t at new) (sym (laid_from-next c place n slots s) ∙ ap (laid_from c place n slots) next) (here text (length-laid_from c place n slots s fits) so_far)

-- a part of what lies behind the front of a part
part_of_rest : (c : List ℕ) (at n b k m : ℕ) → b + k + m ≤ n → at + n ≤ length c → part (drop b (part c at n)) k m ≡ part c (at + b + k) m
part_of_rest c at n b k m inside fits =
    let rest = drop b (part c at n) in
    let long : length rest ≡ n - b = length-drop b (part c at n) ∙ ap (λ (l : ℕ). l - b) (length-part c at n fits) in
    let one : length (part rest k m) ≡ m = length-part rest k m (omega (arith, long)) in
    let two : length (part c (at + b + k) m) ≡ m = length-part c (at + b + k) m (omega arith) in
    same_bytes (part rest k m) (part c (at + b + k) m) (one ∙ sym two) (λ i lt.
    let below : i < m = omega (arith, one) in
    let spot : at + (b + (k + i)) ≡ at + b + k + i = omega arith in
    get_or-part rest k m i below ∙ (get_or-drop b (part c at n) (k + i) 0 ∙ (get_or-part c at n (b + (k + i)) (omega arith)
    ∙ (ap (λ (p : ℕ). get_or c p 0) spot ∙ sym (get_or-part c (at + b + k) m i below)))))

module _ (g : Geometry) (limits : IsInLimits g) (room : HasJournals g) (c : List ℕ) (k : ℕ) (fits : area_place g k + area_len g ≤ length c) where
  -- the slots of an area, laid over its bank
  laid_is : (s : ℕ) → s ≤ 16
      → laid (short_len g) (drop (short_len g + slots_at g) (area_bytes g c k)) (take (short_len g) (area_bytes g c k)) s ≡ laid_from c (area_place g k) (short_len g) (journal_place g k + slots_at g) s
  laid_is zero le =
      laid_zero (short_len g) (drop (short_len g + slots_at g) (area_bytes g c k)) (take (short_len g) (area_bytes g c k))
      ∙ (take_less (drop (area_place g k) c) (short_len g) (area_len g) (omega (arith, area_is g limits room)) ∙ sym (laid_from-none c (area_place g k) (short_len g) (journal_place g k + slots_at g)))
  laid_is (suc s) le =
      let slots = drop (short_len g + slots_at g) (area_bytes g c k) in
      let bank = take (short_len g) (area_bytes g c k) in
      let before = laid_is s (omega arith) in
      let spot : area_place g k + (short_len g + slots_at g) + 4352 * s ≡ journal_place g k + slots_at g + 4352 * s = omega arith in
      let slot : part slots (4352 * s) 4352 ≡ part c (journal_place g k + slots_at g + 4352 * s) 4352 =
      part_of_rest c (area_place g k) (area_len g) (short_len g + slots_at g) (4352 * s) 4352 (omega (arith, area_is g limits room, slots_before_end g limits)) fits ∙ ap (λ (p : ℕ). part c p 4352) spot in
      laid_next (short_len g) slots bank s ∙ ((λ i. laid_one (short_len g) (slot i) (before i)) ∙ sym (laid_from-next c (area_place g k) (short_len g) (journal_place g k + slots_at g) s))

-- the image of a record of layout 2
pub image_laid : (g : Geometry) → IsInLimits g → HasJournals g → (c : List ℕ) (head : Record) → area_place g head.bank + area_len g ≤ length c → head.layout ≡ 2
    → image_of g c head ≡ part (laid_from c (area_place g head.bank) (short_len g) (journal_place g head.bank + slots_at g) 16) 0 head.length
image_laid g limits room c head fits two =
    ap (λ (l : ℕ). take head.length (if l == 2 then laid (short_len g) (drop (short_len g + slots_at g) (area_bytes g c head.bank)) (take (short_len g) (area_bytes g c head.bank)) 16 else area_bytes g c head.bank)) two
    ∙ ap (take head.length) (laid_is g limits room c head.bank fits 16 (omega arith))

-- ---- a slot

take_all : (l : List ℕ) (n : ℕ) → length l ≤ n → take n l ≡ l
take_all [] zero le = refl
take_all [] (suc n) le = refl
take_all (a ∷ l) zero le = absurd (omega arith)
take_all (a ∷ l) (suc n) le = ap (λ (xs : List ℕ). a ∷ xs) (take_all l n (omega arith))

is_255 : (s : ℕ) → (s == 255) ≡ true → s ≡ 255
is_255 s is = grind (arith, nat_tests)

both_true : (t u : Bool) → (t && u) ≡ true → (t ≡ true) × (u ≡ true)
both_true true true is = (refl, refl)
both_true true false is = absurd (cc is)
both_true false u is = absurd (cc is)

-- one pair more
whole_more : (a b : ℕ) (rest : List ℕ) (n : ℕ) → a + b ≡ 255 → AreWhole rest n → AreWhole (a ∷ b ∷ rest) (suc n)
whole_more a b rest n front behind = record { each = each }
  where
    each : (i : ℕ) → i < suc n → pair_sum (a ∷ b ∷ rest) i ≡ 255
    each zero lt = front
    each (suc i) lt =
        let one : 2 * suc i ≡ suc (suc (2 * i)) = omega arith in
        let two : 2 * suc i + 1 ≡ suc (suc (2 * i + 1)) = omega arith in
        let first : get_or (a ∷ b ∷ rest) (2 * suc i) 0 ≡ get_or rest (2 * i) 0 = ap (λ (k : ℕ). get_or (a ∷ b ∷ rest) k 0) one in
        let second : get_or (a ∷ b ∷ rest) (2 * suc i + 1) 0 ≡ get_or rest (2 * i + 1) 0 = ap (λ (k : ℕ). get_or (a ∷ b ∷ rest) k 0) two in
        omega (arith, first, second, behind.each i (omega arith))

-- pairs are whole where the test says so
whole_from : (l : List ℕ) (n : ℕ) → length l ≡ 2 * n → are_pairs_whole l ≡ true → AreWhole l n
unfolding are_pairs_whole
whole_from [] zero size is = record { each = λ i lt. absurd (omega arith) }
whole_from [] (suc n) size is = absurd (omega arith)
whole_from (a ∷ []) n size is = absurd (cc is)
whole_from (a ∷ b ∷ rest) zero size is = absurd (omega arith)
whole_from (a ∷ b ∷ rest) (suc n) size is =
    let both = both_true (a + b == 255) (are_pairs_whole rest) is in
    whole_more a b rest n (is_255 (a + b) both.0) (whole_from rest n (omega arith) both.1)

whole_to : (l : List ℕ) (n : ℕ) → length l ≡ 2 * n → AreWhole l n → are_pairs_whole l ≡ true
unfolding are_pairs_whole
whole_to [] n size whole = refl
whole_to (a ∷ []) n size whole = absurd (omega arith)
whole_to (a ∷ b ∷ rest) zero size whole = absurd (omega arith)
whole_to (a ∷ b ∷ rest) (suc n) size whole =
    let front : a + b ≡ 255 = whole.each 0 (omega arith) in
    let behind : are_pairs_whole rest ≡ true = whole_to rest n (omega arith) (record { each = each }) in
    (λ i. (front i == 255) && behind i)
  where
    each : (i : ℕ) → i < n → pair_sum rest i ≡ 255
    each i lt =
        let one : 2 * suc i ≡ suc (suc (2 * i)) = omega arith in
        let two : 2 * suc i + 1 ≡ suc (suc (2 * i + 1)) = omega arith in
        let first : get_or (a ∷ b ∷ rest) (2 * suc i) 0 ≡ get_or rest (2 * i) 0 = ap (λ (k : ℕ). get_or (a ∷ b ∷ rest) k 0) one in
        let second : get_or (a ∷ b ∷ rest) (2 * suc i + 1) 0 ≡ get_or rest (2 * i + 1) 0 = ap (λ (k : ℕ). get_or (a ∷ b ∷ rest) k 0) two in
        omega (arith, first, second, whole.each (suc i) (omega arith))

-- the test of a slot, by its parts
abbrev says : Bool → ℕ → ℕ → ℕ → ℕ → Bool
says whole sign at len n = whole && (sign == 0x5350) && nat_le 1 len && nat_le len 4066 && nat_le (at + len) n

says_from : (whole : Bool) (sign at len n : ℕ) → says whole sign at len n ≡ true → (whole ≡ true) × ((sign ≡ 0x5350) × ((1 ≤ len) × ((len ≤ 4066) × (at + len ≤ n))))
says_from false sign at len n is = absurd (cc is)
says_from true sign at len n is = (refl, (grind (arith, nat_tests), (grind (arith, nat_tests), (grind (arith, nat_tests), grind (arith, nat_tests)))))

says_to : (sign at len n : ℕ) → sign ≡ 0x5350 → 1 ≤ len → len ≤ 4066 → at + len ≤ n → says true sign at len n ≡ true
says_to sign at len n a b c d = grind (arith, nat_tests)

module _ (c : List ℕ) (p n : ℕ) (fits : p + 4352 ≤ length c) where
  abbrev slot : List ℕ
  slot = part c p 4352

  abbrev head : List ℕ
  head = part c p 16

  head_size : length head ≡ 2 * 8
  head_size = length-part c p 16 (omega arith)

  front_same : take 16 slot ≡ head
  front_same = take_less (drop p c) 16 4352 (omega arith)

  byte_same : (k : ℕ) → k < 16 → get_or slot k 0 ≡ get_or head k 0
  byte_same k lt = get_or-part c p 4352 k (omega arith) ∙ sym (get_or-part c p 16 k lt)

  half_same : (i : ℕ) → i < 7 → half_at slot i ≡ half_at head i
  half_same i lt = let a = byte_same (2 * i) (omega arith) in let b = byte_same (2 * (i + 1)) (omega arith) in omega (arith, a, b)

  at_same : slot_at slot ≡ slot_at head
  at_same = let a = half_same 2 (omega arith) in let b = half_same 4 (omega arith) in omega (arith, a, b)

  len_same : slot_len slot ≡ slot_len head
  len_same = half_same 6 (omega arith)

  -- a slot is valid where its head is
  slot_from : is_slot n slot ≡ true → IsSlotHead n head
  slot_from is =
      let parts = says_from (are_pairs_whole (take 16 slot)) (half_at slot 0) (slot_at slot) (slot_len slot) n is in
      let whole : are_pairs_whole head ≡ true = sym (ap are_pairs_whole front_same) ∙ parts.0 in
      record {
        whole = whole_from head 8 head_size whole;
        sign = sym (half_same 0 (omega arith)) ∙ parts.1.0;
        some = omega (arith, parts.1.1.0, len_same);
        few = omega (arith, parts.1.1.1.0, len_same);
        inside = omega (arith, parts.1.1.1.1, len_same, at_same);
      }

  slot_to : IsSlotHead n head → is_slot n slot ≡ true
  slot_to valid =
      let whole : are_pairs_whole (take 16 slot) ≡ true = ap are_pairs_whole front_same ∙ whole_to head 8 head_size valid.whole in
      ap (λ (t : Bool). says t (half_at slot 0) (slot_at slot) (slot_len slot) n) whole
      ∙ says_to (half_at slot 0) (slot_at slot) (slot_len slot) n (half_same 0 (omega arith) ∙ valid.sign) (omega (arith, valid.some, len_same)) (omega (arith, valid.few, len_same)) (omega (arith, valid.inside, len_same, at_same))

  -- a slot that is not valid leaves a text as it is
  pub lays_none : (text : List ℕ) → (IsSlotHead n head → ⊥) → laid_one n slot text ≡ text
  lays_none text never = by_test (is_slot n slot) refl
    where
      by_test : (t : Bool) → is_slot n slot ≡ t → laid_one n slot text ≡ text
      by_test false is = laid_none n slot text is
      by_test true is = absurd (never (slot_from is))

  -- and a valid one lays its bytes
  pub lays_some : (range : SlotRange) (at : ℕ) (old new text : List ℕ) → IsSlotHead n head → range.at ≡ slot_at head → range.len ≡ slot_len head → at + length old ≤ n
      → Lays c (p + 256) range at old new → length text ≡ n → Holds text at old → Holds (laid_one n slot text) at new
  lays_some range at old new text valid at_is len_is inside lays size holds k lt = pick (cases_lt (at + k) range.at) (cases_lt (at + k) (range.at + range.len))
    where
      changes : Changes (slot_at slot) (slot_len slot) (λ k old new. new ≡ get_or slot (256 + k) 0) text (laid_one n slot text)
      changes = laid_some n slot text (slot_to valid) (omega (arith, size, valid.inside, at_same, len_same))

      below : k < length old
      below = omega (arith, lt, lays.size)

      pick : (at + k < range.at) ⊎ (range.at ≤ at + k) → (at + k < range.at + range.len) ⊎ (range.at + range.len ≤ at + k) → get_or (laid_one n slot text) (at + k) 0 ≡ get_or new k 0
      pick (inl front) _ = changes.before (at + k) (omega (arith, at_is, at_same)) ∙ (holds k below ∙ sym (lays.outside k below (inl front)))
      pick (inr from) (inr past) = changes.after (at + k) (omega (arith, at_is, at_same, len_is, len_same)) ∙ (holds k below ∙ sym (lays.outside k below (inr past)))
      pick (inr from) (inl within) =
          let j = at + k - slot_at slot in
          let spot : slot_at slot + j ≡ at + k = omega (arith, at_is, at_same, from) in
          let there : get_or (laid_one n slot text) (at + k) 0 ≡ get_or slot (256 + j) 0 =
          subst (λ (q : ℕ). get_or (laid_one n slot text) q 0 ≡ get_or slot (256 + j) 0) spot (changes.inside j (omega (arith, at_is, at_same, len_is, len_same, from, within))) in
          let byte : get_or slot (256 + j) 0 ≡ get_or c (p + (256 + j)) 0 = get_or-part c p 4352 (256 + j) (omega (arith, valid.few, len_is, len_same, at_is, at_same, within, from)) in
          let place : p + (256 + j) ≡ p + 256 + (at + k - range.at) = omega (arith, at_is, at_same, from) in
          there ∙ (byte ∙ (ap (λ (q : ℕ). get_or c q 0) place ∙ sym (lays.inside k below from within)))

-- ---- a part of a piece

-- what is read into a part of a piece
pub part_read : (c bytes old : List ℕ) (place from to : ℕ) → from ≤ to → to ≤ length old → length bytes ≡ to - from → Holds c place bytes
    → Changes from (to - from) (λ k a b. b ≡ get_or c (place + k) 0) old (put_mid from (to - from) old bytes)
part_read c bytes old place from to order fits size holds = record {
  size = omega (arith, length-append (take from old) (bytes ++ rest), length-append bytes rest, front_size, rest_size, size, order, fits);
  before = λ k lt. get_or-append (take from old) (bytes ++ rest) 0 k (omega (arith, front_size)) ∙ get_or-take from old k 0 lt;
  after = λ k le.
      let spot : from + (to - from + (k - from - (to - from))) ≡ k = omega (arith, order) in
      get_or-append_right (take from old) (bytes ++ rest) from k 0 front_size (omega (arith, order))
      ∙ (get_or-append_right bytes rest (to - from) (k - from) 0 size (omega (arith, order))
      ∙ (get_or-drop (to - from) (drop from old) (k - from - (to - from)) 0 ∙ (get_or-drop from old (to - from + (k - from - (to - from))) 0 ∙ ap (λ (p : ℕ). get_or old p 0) spot)));
  inside = λ k lt.
      let spot : from + k - from ≡ k = omega arith in
      get_or-append_right (take from old) (bytes ++ rest) from (from + k) 0 front_size (omega arith)
      ∙ (ap (λ (p : ℕ). get_or (bytes ++ rest) p 0) spot ∙ (get_or-append bytes rest 0 k (omega (arith, size)) ∙ sym (holds k (omega (arith, size)))));
}
  where
    rest : List ℕ
    rest = drop (to - from) (drop from old)

    front_size : length (take from old) ≡ from
    front_size = omega (arith, length-take from old, order, fits)

    rest_size : length rest ≡ length old - to
    rest_size = omega (arith, length-drop (to - from) (drop from old), length-drop from old, order, fits)

-- a read of what the range of a slot and a piece have in common
pub lays_common : (c : List ℕ) (bytes at from to : ℕ) (slot : SlotRange) (old new : List ℕ) → slot.at ≤ from → at ≤ from → ((from ≡ slot.at) ⊎ (from ≡ at)) → ((to ≡ slot.at + slot.len) ⊎ (to ≡ at + length old))
    → to ≤ slot.at + slot.len → to ≤ at + length old → from ≤ to
    → Changes (from - at) (to - at - (from - at)) (λ k a b. b ≡ get_or c (bytes + (from - slot.at) + k) 0) old new → Lays c bytes slot at old new
lays_common c bytes at from to slot old new lower above begins ends most within order changes = record {
  size = changes.size;
  inside = λ k lt le below.
      let j = at + k - from in
      let first : from ≤ at + k = ⊎_elim (λ is. omega (arith, is, le)) (λ is. omega (arith, is)) begins in
      let last : at + k < to = ⊎_elim (λ is. omega (arith, is, below)) (λ is. omega (arith, is, lt)) ends in
      let spot : from - at + j ≡ k = omega (arith, first, above) in
      let place : bytes + (from - slot.at) + j ≡ bytes + (at + k - slot.at) = omega (arith, first, lower) in
      let there : get_or new k 0 ≡ get_or c (bytes + (from - slot.at) + j) 0 = subst (λ (q : ℕ). get_or new q 0 ≡ get_or c (bytes + (from - slot.at) + j) 0) spot (changes.inside j (omega (arith, first, last, above))) in
      there ∙ ap (λ (q : ℕ). get_or c q 0) place;
  outside = λ k lt. ⊎_elim (λ front. changes.before k (omega (arith, front, lower, above))) (λ past. changes.after k (omega (arith, past, most, order, above)));
}

-- where they have nothing in common
pub lays_nothing : (c : List ℕ) (bytes at : ℕ) (slot : SlotRange) (old : List ℕ) → ((slot.at + slot.len ≤ at) ⊎ (at + length old ≤ slot.at)) ⊎ ((slot.len ≡ 0) ⊎ (length old ≡ 0)) → Lays c bytes slot at old old
lays_nothing c bytes at slot old none = record {
  size = refl;
  inside = λ k lt le below. absurd (never k lt le below none);
  outside = λ k lt out. refl;
}
  where
    never : (k : ℕ) → k < length old → slot.at ≤ at + k → at + k < slot.at + slot.len → ((slot.at + slot.len ≤ at) ⊎ (at + length old ≤ slot.at)) ⊎ ((slot.len ≡ 0) ⊎ (length old ≡ 0)) → ⊥
    never k lt le below (inl (inl a)) = omega (arith, a, below)
    never k lt le below (inl (inr b)) = omega (arith, b, le, lt)
    never k lt le below (inr (inl a)) = omega (arith, a, le, below)
    never k lt le below (inr (inr b)) = omega (arith, b, lt)
