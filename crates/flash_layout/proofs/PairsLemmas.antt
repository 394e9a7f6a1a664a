-- Pairs of bytes.
use Rattle.std.proofs.Common.{◌≡◌, ◌⊎◌, inl, inr, ℕ, zero, suc, ◌+◌, ◌-◌, ◌*◌, ◌/◌, ◌%◌, ◌<◌, ◌≤◌, List, [], ◌∷◌, length, get_or, refl, sym, ◌∙◌, ap, arith}
use Rattle.std.proofs.lemmas.Bool.{cases_lt}
use Rattle.std.proofs.lemmas.List.{get_or_past}
use Rattle.flash_dev.proofs.ChangesLemmas.{same_bytes}
use Rattle.flash_layout.specs.Pairs.{paired, AreWhole}

pub length-paired : (xs : List ℕ) → length (paired xs) ≡ 2 * length xs
length-paired [] = refl
length-paired (x ∷ xs) = omega (arith, length-paired xs)

pub first-paired : (xs : List ℕ) (i : ℕ) → i < length xs → get_or (paired xs) (2 * i) 0 ≡ get_or xs i 0
first-paired [] i lt = absurd (omega arith)
first-paired (x ∷ xs) zero lt = refl
first-paired (x ∷ xs) (suc i) lt =
    let next : 2 * suc i ≡ suc (suc (2 * i)) = omega arith in
    ap (λ (k : ℕ). get_or (paired (x ∷ xs)) k 0) next ∙ first-paired xs i (omega arith)

pub second-paired : (xs : List ℕ) (i : ℕ) → i < length xs → get_or (paired xs) (2 * i + 1) 0 ≡ 255 - get_or xs i 0
second-paired [] i lt = absurd (omega arith)
second-paired (x ∷ xs) zero lt = refl
second-paired (x ∷ xs) (suc i) lt =
    let next : 2 * suc i + 1 ≡ suc (suc (2 * i + 1)) = omega arith in
    ap (λ (k : ℕ). get_or (paired (x ∷ xs)) k 0) next ∙ second-paired xs i (omega arith)

-- Of pairs that are not below 255, what is nowhere below them and sums to 255 again is the same pair.
pub same_pair : (a b c d : ℕ) → a ≤ c → b ≤ d → 255 ≤ a + b → c + d ≡ 255 → (c ≡ a) × (d ≡ b)
same_pair a b c d ac bd least whole = (omega arith, omega arith)

pub half_cases : (k : ℕ) → (k ≡ 2 * (k / 2)) ⊎ (k ≡ 2 * (k / 2) + 1)
half_cases k = cases (k % 2) (k / 2) (omega arith) (omega arith)
  where
    cases : (m h : ℕ) → m < 2 → k ≡ 2 * h + m → (k ≡ 2 * h) ⊎ (k ≡ 2 * h + 1)
    cases zero h lt is = inl (omega arith)
    cases (suc zero) h lt is = inr is
    cases (suc (suc m)) h lt is = absurd (omega arith)

-- bytes that stand in pairs, place by place
pub paired_from : (bytes plain : List ℕ) → length bytes ≡ 2 * length plain
    → ((k : ℕ) → k < length plain → (get_or bytes (2 * k) 0 ≡ get_or plain k 0) × (get_or bytes (2 * k + 1) 0 ≡ 255 - get_or plain k 0)) → bytes ≡ paired plain
paired_from bytes plain size pairs =
    same_bytes bytes (paired plain) (size ∙ sym (length-paired plain)) (λ k lt. at_place k (k / 2) (omega arith) (half_cases k))
  where
    at_place : (k i : ℕ) → i < length plain → (k ≡ 2 * i) ⊎ (k ≡ 2 * i + 1) → get_or bytes k 0 ≡ get_or (paired plain) k 0
    at_place k i lt (inl even) = ap (λ (p : ℕ). get_or bytes p 0) even ∙ ((pairs i lt).0 ∙ (sym (first-paired plain i lt) ∙ ap (λ (p : ℕ). get_or (paired plain) p 0) (sym even)))
    at_place k i lt (inr odd) = ap (λ (p : ℕ). get_or bytes p 0) odd ∙ ((pairs i lt).1 ∙ (sym (second-paired plain i lt) ∙ ap (λ (p : ℕ). get_or (paired plain) p 0) (sym odd)))

-- pairs of bytes are whole
pub whole-paired : (xs : List ℕ) → ((i : ℕ) → i < length xs → get_or xs i 0 ≤ 255) → AreWhole (paired xs) (length xs)
whole-paired xs fit = record { each = λ i lt. omega (arith, first-paired xs i lt, second-paired xs i lt, fit i lt) }

-- each of these numbers is a byte
abbrev pub AllBytes : List ℕ → Type 0
AllBytes [] = Unit {0}
AllBytes (x ∷ xs) = (x ≤ 255) × AllBytes xs

pub byte_of : (xs : List ℕ) → AllBytes xs → (i : ℕ) → get_or xs i 0 ≤ 255
byte_of [] fit i = omega arith
byte_of (x ∷ xs) fit zero = fit.0
byte_of (x ∷ xs) fit (suc i) = byte_of xs fit.1 i

-- the bytes of whole pairs are bytes
pub whole_byte : (v : List ℕ) (n : ℕ) → length v ≡ 2 * n → AreWhole v n → (k : ℕ) → get_or v k 0 ≤ 255
whole_byte v n size whole k = at_place (k / 2) (half_cases k) (cases_lt (k / 2) n)
  where
    at_place : (i : ℕ) → (k ≡ 2 * i) ⊎ (k ≡ 2 * i + 1) → (i < n) ⊎ (n ≤ i) → get_or v k 0 ≤ 255
    at_place i (inl even) (inl lt) = omega (arith, whole.each i lt, ap (λ (p : ℕ). get_or v p 0) even)
    at_place i (inr odd) (inl lt) = omega (arith, whole.each i lt, ap (λ (p : ℕ). get_or v p 0) odd)
    at_place i half (inr past) = omega (arith, get_or_past v k 0 (outside half))
      where
        outside : (k ≡ 2 * i) ⊎ (k ≡ 2 * i + 1) → length v ≤ k
        outside (inl even) = omega arith
        outside (inr odd) = omega arith
