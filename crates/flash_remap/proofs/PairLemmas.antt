-- Bytes that stand in pairs.
use Rattle.std.proofs.Common.{◌≡◌, ◌⊎◌, inl, inr, ℕ, zero, suc, ◌+◌, ◌-◌, ◌*◌, ◌/◌, ◌%◌, ◌<◌, ◌≤◌, List, [], ◌∷◌, length, get_or, refl, sym, ◌∙◌, ap, arith}
use Rattle.flash_dev.proofs.ChangesLemmas.{same_bytes}
use Rattle.flash_remap.specs.Entry.{pair_sum, paired}

pub length-paired : (xs : List ℕ) → length (paired xs) ≡ 2 * length xs
length-paired [] = refl
length-paired (x ∷ xs) = omega (arith, length-paired xs)

pub first-paired : (xs : List ℕ) (i : ℕ) → i < length xs → get_or (paired xs) (2 * i) 0 ≡ get_or xs i 0
first-paired [] i lt = absurd (omega arith)
first-paired (x ∷ xs) zero lt = refl
first-paired (x ∷ xs) (suc i) lt =
    let next : 2 * suc i ≡ suc (suc (2 * i)) = omega arith in
    ap (λ (k : ℕ). get_or (paired (x ∷ xs)) k 0) next ∙ first-paired xs i (omega arith)

pub second-paired : (xs : List ℕ) (i : ℕ) → i < length xs → get_or (paired xs) (2 * i + 1) 0 ≡ 255 - get_or xs i 0
second-paired [] i lt = absurd (omega arith)
second-paired (x ∷ xs) zero lt = refl
second-paired (x ∷ xs) (suc i) lt =
    let next : 2 * suc i + 1 ≡ suc (suc (2 * i + 1)) = omega arith in
    ap (λ (k : ℕ). get_or (paired (x ∷ xs)) k 0) next ∙ second-paired xs i (omega arith)

half_cases : (k : ℕ) → (k ≡ 2 * (k / 2)) ⊎ (k ≡ 2 * (k / 2) + 1)
half_cases k = cases (k % 2) (k / 2) (omega arith) (omega arith)
  where
    cases : (m h : ℕ) → m < 2 → k ≡ 2 * h + m → (k ≡ 2 * h) ⊎ (k ≡ 2 * h + 1)
    cases zero h lt is = inl (omega arith)
    cases (suc zero) h lt is = inr is
    cases (suc (suc m)) h lt is = absurd (omega arith)

-- bytes that stand in pairs, place by place
pub paired_from : (bytes plain : List ℕ) → length bytes ≡ 2 * length plain
    → ((k : ℕ) → k < length plain → (get_or bytes (2 * k) 0 ≡ get_or plain k 0) × (get_or bytes (2 * k + 1) 0 ≡ 255 - get_or plain k 0)) → bytes ≡ paired plain
paired_from bytes plain size pairs =
    same_bytes bytes (paired plain) (size ∙ sym (length-paired plain)) (λ k lt. at_place k (k / 2) (omega arith) (half_cases k))
  where
    at_place : (k i : ℕ) → i < length plain → (k ≡ 2 * i) ⊎ (k ≡ 2 * i + 1) → get_or bytes k 0 ≡ get_or (paired plain) k 0
    at_place k i lt (inl even) = ap (λ (p : ℕ). get_or bytes p 0) even ∙ ((pairs i lt).0 ∙ (sym (first-paired plain i lt) ∙ ap (λ (p : ℕ). get_or (paired plain) p 0) (sym even)))
    at_place k i lt (inr odd) = ap (λ (p : ℕ). get_or bytes p 0) odd ∙ ((pairs i lt).1 ∙ (sym (second-paired plain i lt) ∙ ap (λ (p : ℕ). get_or (paired plain) p 0) (sym odd)))

-- Where no byte is below that of whole pairs, and the pairs are whole, they are those pairs.
pub whole_pairs : (plain bytes : List ℕ) → ((i : ℕ) → i < length plain → get_or plain i 0 ≤ 255) → length bytes ≡ 2 * length plain
    → ((k : ℕ) → k < 2 * length plain → get_or (paired plain) k 0 ≤ get_or bytes k 0) → ((i : ℕ) → i < length plain → pair_sum bytes i ≡ 255) → bytes ≡ paired plain
whole_pairs plain bytes fit size above whole = paired_from bytes plain size (λ i lt.
    let first = above (2 * i) (omega arith) in
    let second = above (2 * i + 1) (omega arith) in
    (omega (arith, first, second, first-paired plain i lt, second-paired plain i lt, fit i lt, whole i lt), omega (arith, first, second, first-paired plain i lt, second-paired plain i lt, fit i lt, whole i lt)))
