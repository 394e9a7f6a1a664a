-- What torn erases and programs leave of the pairs of a journal.
use Rattle.std.proofs.Common.{◌≡◌, ◌⊎◌, inl, inr, ℕ, ◌+◌, ◌*◌, ◌<◌, ◌≤◌, ◌-◌, List, get_or, sym, ◌∙◌, subst, arith}
use Rattle.std.proofs.lemmas.Bool.{cases_lt}
use Rattle.flash_dev.specs.Changes.{Changes, IsBlank, IsTornProgram}
use Rattle.flash_layout.specs.Journal.{IsHeader, IsPairPlace, IsSettled, header_number, message_len}
use Rattle.flash_layout.specs.Pairs.{NoneBelow, byte_at, pair_sum, word_at}
use Rattle.flash_layout.proofs.PairsLemmas.{same_pair}

-- no pair of what is nowhere below settled bytes is below 255
pub raised_settled : (m q : ℕ) (v s : List ℕ) → ((k : ℕ) → get_or v k 0 ≤ get_or s k 0) → IsSettled m q v → IsSettled m q s
raised_settled m q v s above settled = record { each = λ i place. omega (arith, settled.each i place, above (2 * i), above (2 * i + 1)) }

-- The fixed part of a valid header that is nowhere below pairs that are not below 255 stands there.
module _ (v s : List ℕ) (least : (i : ℕ) → i < 16 → 255 ≤ pair_sum v i) (above : (k : ℕ) → k < 32 → get_or v k 0 ≤ get_or s k 0) (header : IsHeader s) where
  same_fixed : (i : ℕ) → i < 16 → (get_or s (2 * i) 0 ≡ get_or v (2 * i) 0) × (get_or s (2 * i + 1) 0 ≡ get_or v (2 * i + 1) 0)
  same_fixed i lt = same_pair (get_or v (2 * i) 0) (get_or v (2 * i + 1) 0) (get_or s (2 * i) 0) (get_or s (2 * i + 1) 0)
      (above (2 * i) (omega arith)) (above (2 * i + 1) (omega arith)) (least i lt) (header.whole.each i lt)

  same_byte : (i : ℕ) → i < 16 → byte_at s i ≡ byte_at v i
  same_byte i lt = (same_fixed i lt).0

  pub same_number : header_number s ≡ header_number v
  same_number = let a = same_byte 4 (omega arith) in let b = same_byte 5 (omega arith) in let c = same_byte 6 (omega arith) in let d = same_byte 7 (omega arith) in omega (arith, a, b, c, d)

  same_magic : word_at s 0 ≡ word_at v 0
  same_magic = let a = same_byte 0 (omega arith) in let b = same_byte 1 (omega arith) in let c = same_byte 2 (omega arith) in let d = same_byte 3 (omega arith) in omega (arith, a, b, c, d)

  pub same_message_len : message_len s ≡ message_len v
  same_message_len = let a = same_byte 8 (omega arith) in let b = same_byte 9 (omega arith) in omega (arith, a, b)

  -- and so is the whole header, where its message is not below pairs that are not below 255
  pub header_before : ((i : ℕ) → i < 4084 → 255 ≤ pair_sum v (128 + i)) → ((k : ℕ) → k < 8168 → get_or v (256 + k) 0 ≤ get_or s (256 + k) 0) → IsHeader v
  header_before least_message above_message = record {
    whole = record { each = λ i lt. let both = same_fixed i lt in omega (arith, both.0, both.1, header.whole.each i lt) };
    magic = sym same_magic ∙ header.magic;
    some = omega (arith, same_message_len, header.some);
    few = omega (arith, same_message_len, header.few);
    zeros = λ i from to. sym (same_byte i to) ∙ header.zeros i from to;
    message = λ i lt.
        let below : i < message_len s = omega (arith, same_message_len) in
        let whole = header.message i below in
        let few : i < 4084 = omega (arith, header.few) in
        let least_here = least_message i few in
        let one : get_or v (256 + 2 * i) 0 ≤ get_or s (256 + 2 * i) 0 = above_message (2 * i) (omega arith) in
        let two : get_or v (256 + (2 * i + 1)) 0 ≤ get_or s (256 + (2 * i + 1)) 0 = above_message (2 * i + 1) (omega arith) in
        let p : 256 + 2 * i ≡ 2 * (128 + i) = omega arith in
        let p2 : 256 + (2 * i + 1) ≡ 2 * (128 + i) + 1 = omega arith in
        let one_here : get_or v (2 * (128 + i)) 0 ≤ get_or s (2 * (128 + i)) 0 = subst (λ (k : ℕ). get_or v k 0 ≤ get_or s k 0) p one in
        let two_here : get_or v (2 * (128 + i) + 1) 0 ≤ get_or s (2 * (128 + i) + 1) 0 = subst (λ (k : ℕ). get_or v k 0 ≤ get_or s k 0) p2 two in
        omega (arith, whole, least_here, one_here, two_here);
  }

-- a valid header that is nowhere below settled bytes stands there
pub raised_header : (m q : ℕ) (v s : List ℕ) → IsSettled m q v → ((k : ℕ) → k < 8448 → get_or v k 0 ≤ get_or s k 0) → IsHeader s
    → IsHeader v × (header_number s ≡ header_number v)
raised_header m q v s settled above header = (
  header_before v s least (λ k lt. above k (omega arith)) header (λ i lt. settled.each (128 + i) (inr (inl (omega arith, omega arith)))) (λ k lt. above (256 + k) (omega arith)),
  same_number v s least (λ k lt. above k (omega arith)) header,
)
  where
    least : (i : ℕ) → i < 16 → 255 ≤ pair_sum v i
    least i lt = settled.each i (inl lt)

-- an erased fixed part is no valid header
pub blank_no_header : (j : List ℕ) → IsBlank j 0 32 → IsHeader j → ⊥
blank_no_header j blank header =
    let a : get_or j 0 0 ≡ 255 = blank 0 (omega arith) in
    let b : get_or j 1 0 ≡ 255 = blank 1 (omega arith) in
    let sum : get_or j (2 * 0) 0 + get_or j (2 * 0 + 1) 0 ≡ 255 = header.whole.each 0 (omega arith) in
    omega (arith, a, b, sum)

-- a program of pairs that are not below 255, torn or done, leaves none below
pub program_settled : (m q at h n : ℕ) (v x y : List ℕ) → at ≡ 2 * h → NoneBelow v n → Changes at (2 * n) (IsTornProgram v) x y → IsSettled m q x → IsSettled m q y
program_settled m q at h n v x y even least changes settled = record { each = λ i place. pick i place (cases_lt i h) (cases_lt i (h + n)) }
  where
    pick : (i : ℕ) → IsPairPlace m q i → (i < h) ⊎ (h ≤ i) → (i < h + n) ⊎ (h + n ≤ i) → 255 ≤ pair_sum y i
    pick i place (inl lt) _ = omega (arith, settled.each i place, changes.before (2 * i) (omega arith), changes.before (2 * i + 1) (omega arith))
    pick i place (inr le) (inr past) = omega (arith, settled.each i place, changes.after (2 * i) (omega arith), changes.after (2 * i + 1) (omega arith))
    pick i place (inr le) (inl lt) =
        let first : get_or v (2 * (i - h)) 0 ≤ get_or y (at + 2 * (i - h)) 0 = (changes.inside (2 * (i - h)) (omega arith)).0 in
        let second : get_or v (2 * (i - h) + 1) 0 ≤ get_or y (at + (2 * (i - h) + 1)) 0 = (changes.inside (2 * (i - h) + 1) (omega arith)).0 in
        let p : at + 2 * (i - h) ≡ 2 * i = omega arith in
        let p2 : at + (2 * (i - h) + 1) ≡ 2 * i + 1 = omega arith in
        let first_here : get_or v (2 * (i - h)) 0 ≤ get_or y (2 * i) 0 = subst (λ (k : ℕ). get_or v (2 * (i - h)) 0 ≤ get_or y k 0) p first in
        let second_here : get_or v (2 * (i - h) + 1) 0 ≤ get_or y (2 * i + 1) 0 = subst (λ (k : ℕ). get_or v (2 * (i - h) + 1) 0 ≤ get_or y k 0) p2 second in
        omega (arith, first_here, second_here, least.each (i - h) (omega arith))

-- a change that leaves out all pairs leaves none below
pub data_settled : (m q at n : ℕ) (P : ℕ → ℕ → ℕ → Type 0) (x y : List ℕ)
    → ((i : ℕ) → IsPairPlace m q i → (2 * i + 2 ≤ at) ⊎ (at + n ≤ 2 * i)) → Changes at n P x y → IsSettled m q x → IsSettled m q y
data_settled m q at n P x y out changes settled = record { each = λ i place. pick i place (out i place) }
  where
    pick : (i : ℕ) → IsPairPlace m q i → (2 * i + 2 ≤ at) ⊎ (at + n ≤ 2 * i) → 255 ≤ pair_sum y i
    pick i place (inl front) = omega (arith, settled.each i place, changes.before (2 * i) (omega arith), changes.before (2 * i + 1) (omega arith))
    pick i place (inr past) = omega (arith, settled.each i place, changes.after (2 * i) (omega arith), changes.after (2 * i + 1) (omega arith))

-- the bytes of slot s are no pairs
pub slot_out : (m q s n : ℕ) → s < 16 → n ≤ 4096 → 8448 + 2 * m ≤ q → (i : ℕ) → IsPairPlace m q i → (2 * i + 2 ≤ q + 4352 * s + 256) ⊎ (q + 4352 * s + 256 + n ≤ 2 * i)
slot_out m q s n lt few behind i (inl fixed) = inl (omega arith)
slot_out m q s n lt few behind i (inr (inl between)) = inl (omega (arith, between.1))
slot_out m q s n lt few behind i (inr (inr head)) = pick (cases_lt s head.slot)
  where
    pick : (s < head.slot) ⊎ (head.slot ≤ s) → (2 * i + 2 ≤ q + 4352 * s + 256) ⊎ (q + 4352 * s + 256 + n ≤ 2 * i)
    pick (inl later) = inr (omega (arith, head.from, later))
    pick (inr early) = inl (omega (arith, head.to, early))
