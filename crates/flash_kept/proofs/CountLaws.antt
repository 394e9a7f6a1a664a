-- Tests over the numbers below n.
use Rattle.std.proofs.Common.{◌≡◌, ◌≢◌, ◌⊎◌, inl, inr, ℕ, zero, suc, ◌+◌, ◌<◌, ◌≤◌, Bool, true, false, ◌&&◌, not, ◌∷◌, refl, sym, ap, ◌∙◌, arith}
use Rattle.flash_kept.specs.Counts.{all_below, count_below, listed, one_if, some_below}

pub last_or : (k n : ℕ) → k < suc n → (k < n) ⊎ (k ≡ n)
last_or k n lt = grind arith

pub all_same : (f g : ℕ → Bool) (n : ℕ) → ((k : ℕ) → k < n → g k ≡ f k) → all_below g n ≡ all_below f n
unfolding all_below
all_same f g zero same = refl
all_same f g (suc n) same =
    ap (λ (b : Bool). b && g n) (all_same f g n (λ k lt. same k (omega arith))) ∙ ap (λ (b : Bool). all_below f n && b) (same n (omega arith))

pub and_left : (a b : Bool) → (a && b) ≡ true → a ≡ true
and_left true b e = refl
and_left false b e = absurd cc

pub and_right : (a b : Bool) → (a && b) ≡ true → b ≡ true
and_right true b e = e
and_right false b e = absurd cc

pub and_both : (a b : Bool) → a ≡ true → b ≡ true → (a && b) ≡ true
and_both true b e f = f
and_both false b e f = absurd cc

pub all_each : (f : ℕ → Bool) (n : ℕ) → all_below f n ≡ true → (k : ℕ) → k < n → f k ≡ true
unfolding all_below
all_each f zero all k lt = absurd (omega arith)
all_each f (suc n) all k lt = by_last (all_each f n (and_left (all_below f n) (f n) all)) (last_or k n lt)
  where
    by_last : ((k : ℕ) → k < n → f k ≡ true) → (k < n) ⊎ (k ≡ n) → f k ≡ true
    by_last rest (inl below) = rest k below
    by_last rest (inr is) = ap f is ∙ and_right (all_below f n) (f n) all

pub all_of : (f : ℕ → Bool) (n : ℕ) → ((k : ℕ) → k < n → f k ≡ true) → all_below f n ≡ true
unfolding all_below
all_of f zero each = refl
all_of f (suc n) each = and_both (all_below f n) (f n) (all_of f n (λ k lt. each k (omega arith))) (each n (omega arith))

pub not_true : (b : Bool) → not b ≡ true → b ≡ false
not_true true e = absurd cc
not_true false e = refl

pub some_of : (f : ℕ → Bool) (n k : ℕ) → k < n → f k ≡ true → some_below f n ≡ true
some_of f n k lt is = by_test (all_below (λ k. not (f k)) n) refl
  where
    by_test : (b : Bool) → all_below (λ k. not (f k)) n ≡ b → not b ≡ true
    by_test false e = refl
    by_test true e = let none = all_each (λ k. not (f k)) n e k lt in let off = not_true (f k) none in absurd cc

pub not_false : (b : Bool) → not b ≡ false → b ≡ true
not_false true e = refl
not_false false e = absurd cc

pub none_of : (f : ℕ → Bool) (n : ℕ) → some_below f n ≡ false → (k : ℕ) → k < n → f k ≡ false
none_of f n none k lt = not_true (f k) (all_each (λ k. not (f k)) n (not_false (all_below (λ k. not (f k)) n) none) k lt)

pub count_same : (f g : ℕ → Bool) (n : ℕ) → ((k : ℕ) → k < n → g k ≡ f k) → count_below g n ≡ count_below f n
unfolding count_below
count_same f g zero same = refl
count_same f g (suc n) same =
    let rest = count_same f g n (λ k lt. same k (omega arith)) in
    let last = ap one_if (same n (omega arith)) in
    omega (arith, rest, last)

-- tests that differ at one number at most
pub count_one : (f g : ℕ → Bool) (n a : ℕ) → a < n → ((k : ℕ) → k < n → k ≢ a → g k ≡ f k)
    → count_below g n + one_if (f a) ≡ count_below f n + one_if (g a)
unfolding count_below
count_one f g zero a lt same = absurd (omega arith)
count_one f g (suc n) a lt same = by_last (λ below. count_one f g n a below (λ k lt other. same k (omega arith) other)) (last_or a n lt)
  where
    by_last : (a < n → count_below g n + one_if (f a) ≡ count_below f n + one_if (g a)) → (a < n) ⊎ (a ≡ n)
        → count_below g n + one_if (g n) + one_if (f a) ≡ count_below f n + one_if (f n) + one_if (g a)
    by_last before (inl below) =
        let rest = before below in
        let other : n ≢ a = (λ is. absurd (omega (arith, is, below))) in
        let last = ap one_if (same n (omega arith) other) in
        omega (arith, rest, last)
    by_last before (inr is) =
        let rest = count_same f g n (λ k lt. same k (omega arith) (λ e. absurd (omega (arith, e, lt, is)))) in
        let one = ap (λ (k : ℕ). one_if (f k)) is in
        let two = ap (λ (k : ℕ). one_if (g k)) is in
        omega (arith, rest, one, two)

pub count_most : (f : ℕ → Bool) (n : ℕ) → count_below f n ≤ n
unfolding count_below
count_most f zero = omega arith
count_most f (suc n) = let rest = count_most f n in let one = at_most (f n) in omega (arith, rest, one)
  where
    at_most : (b : Bool) → one_if b ≤ 1
    at_most true = omega arith
    at_most false = omega arith

pub count_all : (f : ℕ → Bool) (n : ℕ) → ((k : ℕ) → k < n → f k ≡ true) → count_below f n ≡ n
unfolding count_below
count_all f zero all = refl
count_all f (suc n) all = let rest = count_all f n (λ k lt. all k (omega arith)) in let last = ap one_if (all n (omega arith)) in omega (arith, rest, last)

pub count_none : (f : ℕ → Bool) (n : ℕ) → ((k : ℕ) → k < n → f k ≡ false) → count_below f n ≡ 0
unfolding count_below
count_none f zero all = refl
count_none f (suc n) all = let rest = count_none f n (λ k lt. all k (omega arith)) in let last = ap one_if (all n (omega arith)) in omega (arith, rest, last)

pub listed_same : (f g : ℕ → ℕ) (n : ℕ) → ((k : ℕ) → k < n → g k ≡ f k) → listed g n ≡ listed f n
unfolding listed
listed_same f g zero same = refl
listed_same f g (suc n) same =
    let first : g 0 ≡ f 0 = same 0 (omega arith) in
    let rest = listed_same (λ k. f (suc k)) (λ k. g (suc k)) n (λ k lt. same (suc k) (omega arith)) in
    (λ i. first i ∷ rest i)

pub count_some : (f : ℕ → Bool) (n : ℕ) → 1 ≤ count_below f n → (k : ℕ) × (k < n) × (f k ≡ true)
unfolding count_below
count_some f zero some = absurd (omega arith)
count_some f (suc n) some = by_last (f n) refl (count_some f n)
  where
    by_last : (b : Bool) → f n ≡ b → (1 ≤ count_below f n → (k : ℕ) × (k < n) × (f k ≡ true)) → (k : ℕ) × (k < suc n) × (f k ≡ true)
    by_last true e before = (n, omega arith, e)
    by_last false e before =
        let none = ap one_if e in
        let last = before (omega (arith, some, none)) in
        (last.0, (let lt = last.1 in omega (arith, lt)), last.2)

pub count_has : (f : ℕ → Bool) (n k : ℕ) → k < n → f k ≡ true → 1 ≤ count_below f n
unfolding count_below
count_has f zero k lt is = absurd (omega arith)
count_has f (suc n) k lt is = by_last (λ below. count_has f n k below is) (last_or k n lt)
  where
    by_last : (k < n → 1 ≤ count_below f n) → (k < n) ⊎ (k ≡ n) → 1 ≤ count_below f n + one_if (f n)
    by_last before (inl below) = let b = before below in omega (arith, b)
    by_last before (inr same) = let one = ap one_if (sym (ap f same) ∙ is) in omega (arith, one)
