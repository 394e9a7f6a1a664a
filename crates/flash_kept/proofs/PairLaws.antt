-- Bytes and pairs of contents, place by place.
use Rattle.std.proofs.Common.{◌≡◌, ◌⊎◌, inl, inr, ℕ, ◌+◌, ◌-◌, ◌*◌, ◌/◌, ◌<◌, ◌≤◌, List, get_or, sym, ap, subst, arith}
use Rattle.flash_layout.specs.Pairs.{pair_sum}
use Rattle.flash_layout.proofs.PairsLemmas.{half_cases}
use Rattle.flash_kept.specs.Leaving.{SameIn}

-- of the pairs that stand from `at` on: the first byte of pair i, its sum, and the numbers of two and four bytes from it on
abbrev pub byte_of : List ℕ → ℕ → ℕ → ℕ
byte_of c at i = get_or c (at + 2 * i) 0

abbrev pub sum_of : List ℕ → ℕ → ℕ → ℕ
sum_of c at i = get_or c (at + 2 * i) 0 + get_or c (at + (2 * i + 1)) 0

abbrev pub half_of : List ℕ → ℕ → ℕ → ℕ
half_of c at i = 256 * byte_of c at i + byte_of c at (i + 1)

abbrev pub word_of : List ℕ → ℕ → ℕ → ℕ
word_of c at i = 65536 * half_of c at i + half_of c at (i + 2)

-- a part of a range
pub same_within : (at n from m : ℕ) (x y : List ℕ) → at ≤ from → from + m ≤ at + n → SameIn at n x y → SameIn from m x y
same_within at n from m x y after before same k lt =
    let here : at + (from + k - at) ≡ from + k = omega arith in
    subst (λ (p : ℕ). get_or y p 0 ≡ get_or x p 0) here (same (from + k - at) (omega arith))

pub half_same : (at i n : ℕ) (x y : List ℕ) → 2 * i + 3 ≤ n → SameIn at n x y → half_of y at i ≡ half_of x at i
half_same at i n x y le same =
    let first = same (2 * i) (omega arith) in let second = same (2 * (i + 1)) (omega arith) in omega (arith, first, second)

pub word_same : (at i n : ℕ) (x y : List ℕ) → 2 * i + 7 ≤ n → SameIn at n x y → word_of y at i ≡ word_of x at i
word_same at i n x y le same =
    let first = half_same at i n x y (omega arith) same in let second = half_same at (i + 2) n x y (omega arith) same in omega (arith, first, second)

-- ---- pairs that go back: a pair of y that is whole is that of x

abbrev pub PairBack : ℕ → List ℕ → List ℕ → Type 0
PairBack at x y = get_or y at 0 + get_or y (at + 1) 0 ≡ 255 → (get_or y at 0 ≡ get_or x at 0) × (get_or y (at + 1) 0 ≡ get_or x (at + 1) 0)

-- each of the first n pairs
abbrev pub PairsBack : ℕ → ℕ → List ℕ → List ℕ → Type 0
PairsBack at n x y = (i : ℕ) → i < n → PairBack (at + 2 * i) x y

-- what is the same goes back
pub back_same : (at n : ℕ) (x y : List ℕ) → SameIn at (2 * n) x y → PairsBack at n x y
back_same at n x y same i lt whole =
    let here : at + (2 * i + 1) ≡ at + 2 * i + 1 = omega arith in
    (same (2 * i) (omega arith), subst (λ (p : ℕ). get_or y p 0 ≡ get_or x p 0) here (same (2 * i + 1) (omega arith)))

-- whole pairs that go back are the same
pub same_back : (at n : ℕ) (x y : List ℕ) → PairsBack at n x y → ((i : ℕ) → i < n → sum_of y at i ≡ 255) → SameIn at (2 * n) x y
same_back at n x y back whole k lt = by_half (half_cases k)
  where
    by_half : (k ≡ 2 * (k / 2)) ⊎ (k ≡ 2 * (k / 2) + 1) → get_or y (at + k) 0 ≡ get_or x (at + k) 0
    by_half half =
        let i = k / 2 in
        let below : i < n = omega arith in
        let next : at + (2 * i + 1) ≡ at + 2 * i + 1 = omega arith in
        let ys = ap (λ (p : ℕ). get_or y p 0) next in
        let sum : get_or y (at + 2 * i) 0 + get_or y (at + 2 * i + 1) 0 ≡ 255 = omega (arith, whole i below, ys) in
        let both = back i below sum in
        pick i both half
      where
        pick : (i : ℕ) → (get_or y (at + 2 * i) 0 ≡ get_or x (at + 2 * i) 0) × (get_or y (at + 2 * i + 1) 0 ≡ get_or x (at + 2 * i + 1) 0) → (k ≡ 2 * i) ⊎ (k ≡ 2 * i + 1) → get_or y (at + k) 0 ≡ get_or x (at + k) 0
        pick i both (inl even) = let here : at + 2 * i ≡ at + k = omega (arith, even) in subst (λ (p : ℕ). get_or y p 0 ≡ get_or x p 0) here both.0
        pick i both (inr odd) = let here : at + 2 * i + 1 ≡ at + k = omega (arith, odd) in subst (λ (p : ℕ). get_or y p 0 ≡ get_or x p 0) here both.1

-- whole pairs that are not below whole ones are these
pub above_is : (v y : List ℕ) (at n : ℕ) → ((i : ℕ) → i < n → pair_sum v i ≡ 255) → ((k : ℕ) → k < 2 * n → get_or v k 0 ≤ get_or y (at + k) 0) → ((i : ℕ) → i < n → sum_of y at i ≡ 255)
    → (k : ℕ) → k < 2 * n → get_or y (at + k) 0 ≡ get_or v k 0
above_is v y at n whole above sums k lt = pick (k / 2) (omega arith) (half_cases k)
  where
    pick : (i : ℕ) → i < n → (k ≡ 2 * i) ⊎ (k ≡ 2 * i + 1) → get_or y (at + k) 0 ≡ get_or v k 0
    pick i below half =
        let w = whole i below in let s = sums i below in
        let first = above (2 * i) (omega arith) in let second = above (2 * i + 1) (omega arith) in
        by_half half (omega (arith, w, s, first, second)) (omega (arith, w, s, first, second))
      where
        by_half : (k ≡ 2 * i) ⊎ (k ≡ 2 * i + 1) → get_or y (at + 2 * i) 0 ≡ get_or v (2 * i) 0 → get_or y (at + (2 * i + 1)) 0 ≡ get_or v (2 * i + 1) 0 → get_or y (at + k) 0 ≡ get_or v k 0
        by_half (inl even) e f = subst (λ (j : ℕ). get_or y (at + j) 0 ≡ get_or v j 0) (sym even) e
        by_half (inr odd) e f = subst (λ (j : ℕ). get_or y (at + j) 0 ≡ get_or v j 0) (sym odd) f
