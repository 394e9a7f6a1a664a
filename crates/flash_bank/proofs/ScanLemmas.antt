-- Pairs that are read piece by piece.
use Rattle.std.specs.Prelude.{Bool, true, false, Option, Some, None, Result, Ok, Err, IfOk, IfSome, IsSome, ◌↔◌}
use Rattle.std.proofs.Common.{◌≡◌, ◌⊎◌, inl, inr, ⊎_elim, ℕ, ◌+◌, ◌-◌, ◌*◌, ◌<◌, ◌≤◌, List, length, get_or, refl, sym, ◌∙◌, ap, subst, arith}
use Rattle.std.proofs.lemmas.Bool.{cases_lt}
use Rattle.flash_dev.specs.Changes.{Holds}
use Rattle.flash_layout.specs.Journal.{IsHeader, IsPairPlace, IsSettled, header_number, message_len}
use Rattle.flash_layout.specs.Layout.{Geometry, IsInLimits, journal_bytes, journal_len, journal_place, mark_count, slots_at}
use Rattle.flash_layout.specs.Pairs.{half_at, pair_sum, part, word_at}
use Rattle.flash_bank.specs.Scan.{AreHeads, ArePairs, HasHeader, IsFixedPart, IsPair}
use Rattle.flash_layout.proofs.PartLemmas.{get_or-part}
use Rattle.flash_layout.proofs.Places.{marks_before_slots, rounded_half, slots_before_end}

abbrev pub pair_at : List ℕ → ℕ → ℕ → ℕ
pair_at c at i = get_or c (at + 2 * i) 0 + get_or c (at + 2 * i + 1) 0

-- a piece more
pub pairs_more : (exact : Bool) (c : List ℕ) (at done n : ℕ) → ArePairs exact c at done → ArePairs exact c (at + 2 * done) n → ArePairs exact c at (done + n)
pairs_more exact c at done n first rest = record { each = λ i lt. pick i lt (cases_lt i done) }
  where
    pick : (i : ℕ) → i < done + n → (i < done) ⊎ (done ≤ i) → IsPair exact (pair_at c at i)
    pick i lt (inl below) = first.each i below
    pick i lt (inr le) =
        let spot : at + 2 * done + 2 * (i - done) ≡ at + 2 * i = omega arith in
        subst (λ (p : ℕ). IsPair exact (get_or c p 0 + get_or c (p + 1) 0)) spot (rest.each (i - done) (omega arith))

-- and all are none where a piece is none
pub pairs_part : (exact : Bool) (c : List ℕ) (at done n count : ℕ) → done + n ≤ count → ArePairs exact c at count → ArePairs exact c (at + 2 * done) n
pairs_part exact c at done n count fits all = record {
  each = λ i lt.
      let spot : at + 2 * (done + i) ≡ at + 2 * done + 2 * i = omega arith in
      subst (λ (p : ℕ). IsPair exact (get_or c p 0 + get_or c (p + 1) 0)) spot (all.each (done + i) (omega arith));
}

-- what is read is what stands there
pub pairs_held : (exact : Bool) (c bytes : List ℕ) (at n : ℕ) → length bytes ≡ 2 * n → Holds c at bytes → ArePairs exact bytes 0 n ↔ ArePairs exact c at n
pairs_held exact c bytes at n size holds = (
  λ all. record { each = λ i lt. subst (IsPair exact) (sym (same i lt)) (all.each i lt) },
  λ all. record { each = λ i lt. subst (IsPair exact) (same i lt) (all.each i lt) },
)
  where
    same : (i : ℕ) → i < n → pair_at c at i ≡ pair_at bytes 0 i
    same i lt =
        let p : at + (0 + 2 * i) ≡ at + 2 * i = omega arith in
        let q : at + (0 + 2 * i + 1) ≡ at + 2 * i + 1 = omega arith in
        let one : get_or c (at + 2 * i) 0 ≡ get_or bytes (0 + 2 * i) 0 = ap (λ (k : ℕ). get_or c k 0) (sym p) ∙ holds (0 + 2 * i) (omega arith) in
        let two : get_or c (at + 2 * i + 1) 0 ≡ get_or bytes (0 + 2 * i + 1) 0 = ap (λ (k : ℕ). get_or c k 0) (sym q) ∙ holds (0 + 2 * i + 1) (omega arith) in
        omega (arith, one, two)

pub heads_more : (c : List ℕ) (slots s : ℕ) → AreHeads c slots s → ArePairs false c (slots + 4352 * s) 8 → AreHeads c slots (s + 1)
heads_more c slots s first next = record { each = λ t lt. ⊎_elim (λ below. first.each t below) (λ is. subst (λ (q : ℕ). ArePairs false c (slots + 4352 * q) 8) (sym is) next) (last_or_below t s lt) }
  where
    last_or_below : (t s : ℕ) → t < s + 1 → (t < s) ⊎ (t ≡ s)
    last_or_below t s lt = grind arith

-- A journal is settled where these ranges are.
module _ (g : Geometry) (limits : IsInLimits g) (c : List ℕ) (k : ℕ) where
  abbrev place : ℕ
  place = journal_place g k

  pair_in : (i : ℕ) → 2 * i + 1 < journal_len g → pair_sum (journal_bytes g c k) i ≡ get_or c (place + 2 * i) 0 + get_or c (place + 2 * i + 1) 0
  pair_in i lt =
      let one = get_or-part c place (journal_len g) (2 * i) (omega arith) in
      let two = get_or-part c place (journal_len g) (2 * i + 1) lt in
      let spot : place + (2 * i + 1) ≡ place + 2 * i + 1 = omega arith in
      let two_here : get_or (journal_bytes g c k) (2 * i + 1) 0 ≡ get_or c (place + 2 * i + 1) 0 = two ∙ ap (λ (p : ℕ). get_or c p 0) spot in
      omega (arith, one, two_here)

  pub settled_from : ArePairs false c place 16 → ArePairs false c (place + 256) (4096 + mark_count g) → AreHeads c (place + slots_at g) 16 → IsSettled (mark_count g) (slots_at g) (journal_bytes g c k)
  settled_from fixed rest heads = record { each = pick }
    where
      pick : (i : ℕ) → IsPairPlace (mark_count g) (slots_at g) i → 255 ≤ pair_sum (journal_bytes g c k) i
      pick i (inl lt) = omega (arith, pair_in i (omega (arith, slots_before_end g limits)), (fixed.each i lt).0)
      pick i (inr (inl between)) =
          let spot : place + 256 + 2 * (i - 128) ≡ place + 2 * i = omega (arith, between.0) in
          let there = (rest.each (i - 128) (omega (arith, between.1))).0 in
          let here : 255 ≤ get_or c (place + 2 * i) 0 + get_or c (place + 2 * i + 1) 0 = subst (λ (p : ℕ). 255 ≤ get_or c p 0 + get_or c (p + 1) 0) spot there in
          omega (arith, pair_in i (omega (arith, between.1, marks_before_slots g limits, slots_before_end g limits)), here)
      pick i (inr (inr head)) =
          let s = head.slot in
          let lt = head.is_slot in
          let half = rounded_half g limits in
          let h = half.0 + 2176 * s in
          let even : slots_at g + 4352 * s ≡ 2 * h = omega (arith, half.1) in
          let spot : place + slots_at g + 4352 * s + 2 * (i - h) ≡ place + 2 * i = omega (arith, even, head.from) in
          let there = ((heads.each s lt).each (i - h) (omega (arith, even, head.from, head.to))).0 in
          let here : 255 ≤ get_or c (place + 2 * i) 0 + get_or c (place + 2 * i + 1) 0 = subst (λ (p : ℕ). 255 ≤ get_or c p 0 + get_or c (p + 1) 0) spot there in
          omega (arith, pair_in i (omega (arith, slots_before_end g limits, head.is_slot, head.to)), here)

  settled_pairs : IsSettled (mark_count g) (slots_at g) (journal_bytes g c k) → (at n h : ℕ) → at ≡ 2 * h → ((i : ℕ) → i < n → IsPairPlace (mark_count g) (slots_at g) (h + i)) → at + 2 * n ≤ journal_len g → ArePairs false c (place + at) n
  settled_pairs settled at n h even places fits = record { each = λ i lt. (least i lt, λ never. absurd (cc never)) }
    where
      least : (i : ℕ) → i < n → 255 ≤ get_or c (place + at + 2 * i) 0 + get_or c (place + at + 2 * i + 1) 0
      least i lt =
          let spot : place + 2 * (h + i) ≡ place + at + 2 * i = omega arith in
          let here : 255 ≤ get_or c (place + 2 * (h + i)) 0 + get_or c (place + 2 * (h + i) + 1) 0 = omega (arith, pair_in (h + i) (omega arith), settled.each (h + i) (places i lt)) in
          subst (λ (p : ℕ). 255 ≤ get_or c p 0 + get_or c (p + 1) 0) spot here

  pub settled_fixed : IsSettled (mark_count g) (slots_at g) (journal_bytes g c k) → ArePairs false c place 16
  settled_fixed settled =
      let plain : place + 0 ≡ place = omega arith in
      subst (λ (p : ℕ). ArePairs false c p 16) plain (settled_pairs settled 0 16 0 (omega arith) (λ i lt. inl (omega arith)) (omega (arith, slots_before_end g limits)))

  pub settled_rest : IsSettled (mark_count g) (slots_at g) (journal_bytes g c k) → ArePairs false c (place + 256) (4096 + mark_count g)
  settled_rest settled = settled_pairs settled 256 (4096 + mark_count g) 128 (omega arith) (λ i lt. inr (inl (omega arith, omega arith))) (omega (arith, marks_before_slots g limits, slots_before_end g limits))

  pub settled_heads : IsSettled (mark_count g) (slots_at g) (journal_bytes g c k) → AreHeads c (place + slots_at g) 16
  settled_heads settled = record {
    each = λ s lt.
        let half = rounded_half g limits in
        let spot : place + (slots_at g + 4352 * s) ≡ place + slots_at g + 4352 * s = omega arith in
        subst (λ (p : ℕ). ArePairs false c p 8) spot
        (settled_pairs settled (slots_at g + 4352 * s) 8 (half.0 + 2176 * s) (omega (arith, half.1)) (λ i below. inr (inr (record { slot = s; is_slot = lt; from = omega (arith, half.1); to = omega (arith, half.1) }))) (omega (arith, slots_before_end g limits)));
  }

-- ---- the header of a journal

if_ok_map : {T E : Type 0} (r : Result T E) (P Q : T → Type 0) → ((v : T) → P v → Q v) → IfOk r P → IfOk r Q
if_ok_map (Ok v) P Q f p = f v p
if_ok_map (Err e) P Q f p = tt

-- a fixed part that is none is no header
pub header_none : (c : List ℕ) (place : ℕ) → (IsFixedPart (part c place 32) → ⊥) → HasHeader c place → ⊥
header_none c place never has = never has.fixed

-- and one that is makes a header with the pairs of its message
pub header_some : {E : Type 0} (r : Result (Option ℕ) E) (c : List ℕ) (place len : ℕ) → IsFixedPart (part c place 32) → len ≡ half_at (part c place 32) 8
    → IfOk r (λ o. IsSome o ↔ ArePairs true c (place + 256) len) → IfOk r (λ o. IsSome o ↔ HasHeader c place)
header_some r c place len fixed is = if_ok_map r _ _ (λ o iff. (
  λ some. record { fixed = fixed; message = subst (ArePairs true c (place + 256)) is (iff.0 some) },
  λ has. iff.1 (subst (ArePairs true c (place + 256)) (sym is) has.message),
))

pub number_some : {E : Type 0} (r : Result (Option ℕ) E) (n m : ℕ) → n ≡ m → IfOk r (λ o. IfSome o (λ k. k ≡ n)) → IfOk r (λ o. IfSome o (λ k. k ≡ m))
number_some r n m is = if_ok_map r _ _ (λ o here. subst (λ (q : ℕ). IfSome o (λ k. k ≡ q)) is here)

module _ (g : Geometry) (limits : IsInLimits g) (c : List ℕ) (k : ℕ) where
  abbrev front : List ℕ
  front = part c (journal_place g k) 32

  abbrev all : List ℕ
  all = journal_bytes g c k

  byte_front : (p : ℕ) → p < 32 → get_or all p 0 ≡ get_or front p 0
  byte_front p lt = get_or-part c (journal_place g k) (journal_len g) p (omega (arith, slots_before_end g limits)) ∙ sym (get_or-part c (journal_place g k) 32 p lt)

  half_front : (i : ℕ) → i < 15 → half_at all i ≡ half_at front i
  half_front i lt = let a = byte_front (2 * i) (omega arith) in let b = byte_front (2 * (i + 1)) (omega arith) in omega (arith, a, b)

  word_front : (i : ℕ) → i < 13 → word_at all i ≡ word_at front i
  word_front i lt = let a = half_front i (omega arith) in let b = half_front (i + 2) (omega arith) in omega (arith, a, b)

  pair_front : (i : ℕ) → i < 16 → pair_sum all i ≡ pair_sum front i
  pair_front i lt = let a = byte_front (2 * i) (omega arith) in let b = byte_front (2 * i + 1) (omega arith) in omega (arith, a, b)

  pub number_front : header_number all ≡ word_at front 4
  number_front = word_front 4 (omega arith)

  len_front : message_len all ≡ half_at front 8
  len_front = half_front 8 (omega arith)

  -- pair i of the message
  message_pair : (i : ℕ) → i < 4084 → pair_sum all (128 + i) ≡ get_or c (journal_place g k + 256 + 2 * i) 0 + get_or c (journal_place g k + 256 + 2 * i + 1) 0
  message_pair i lt =
      let here = pair_in g limits c k (128 + i) (omega (arith, marks_before_slots g limits, slots_before_end g limits)) in
      let spot : journal_place g k + 2 * (128 + i) ≡ journal_place g k + 256 + 2 * i = omega arith in
      here ∙ ap (λ (p : ℕ). get_or c p 0 + get_or c (p + 1) 0) spot

  pub header_from : HasHeader c (journal_place g k) → IsHeader all
  header_from has = record {
    whole = record { each = λ i lt. pair_front i lt ∙ has.fixed.whole.each i lt };
    magic = word_front 0 (omega arith) ∙ has.fixed.magic;
    some = omega (arith, has.fixed.some, len_front);
    few = omega (arith, has.fixed.few, len_front);
    zeros = λ i from to. byte_front (2 * i) (omega arith) ∙ has.fixed.zeros i from to;
    message = λ i lt.
        let few = has.fixed.few in
        let pair = has.message.each i (omega (arith, lt, len_front)) in
        let most = pair.1 refl in
        omega (arith, message_pair i (omega (arith, lt, len_front, few)), pair.0, most);
  }

  pub header_to : IsHeader all → HasHeader c (journal_place g k)
  header_to header = record {
    fixed = record {
      whole = record { each = λ i lt. sym (pair_front i lt) ∙ header.whole.each i lt };
      magic = sym (word_front 0 (omega arith)) ∙ header.magic;
      some = omega (arith, header.some, len_front);
      few = omega (arith, header.few, len_front);
      zeros = λ i from to. sym (byte_front (2 * i) (omega arith)) ∙ header.zeros i from to;
    };
    message = record {
      each = λ i lt.
          let few = header.few in
          let sum = header.message i (omega (arith, lt, len_front)) in
          let here = message_pair i (omega (arith, lt, len_front, few)) in
          (omega (arith, sum, here), λ is. omega (arith, sum, here));
    };
  }

  pub number_held : (o : Option ℕ) → IfSome o (λ n. n ≡ word_at front 4) → IfSome o (λ n. n ≡ header_number all)
  number_held None here = tt
  number_held (Some n) here = here ∙ sym number_front
