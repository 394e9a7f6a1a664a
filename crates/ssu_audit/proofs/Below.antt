-- The first number that passes a test.
use Rattle.std.proofs.Common.{◌≡◌, ℕ, zero, suc, ◌+◌, ◌<◌, Bool, true, false, cond, Option, Some, None, ◌⊎◌, inl, inr, refl, sym, ap, ◌∙◌, arith}
use Rattle.std.proofs.Common.{ltb}
use Rattle.std.proofs.lemmas.Bool.{ltb-true, ltb-false}
use Rattle.std.specs.Option.{option_map, option_or}
use Rattle.ssu_audit.specs.Ending.{first_below}

abbrev some_number : ℕ → Option ℕ
some_number n = Some n

pub below-step : (test : ℕ → Bool) (n : ℕ) → first_below test (suc n) ≡ option_or (first_below test n) (cond (test n) (Some n) None)
unfolding first_below
below-step test n = refl

below-zero : (test : ℕ → Bool) → first_below test 0 ≡ None
unfolding first_below
below-zero test = refl

-- Where none passes there is none.
pub below-none : (test : ℕ → Bool) (n : ℕ) → ((k : ℕ) → k < n → test k ≡ false) → first_below test n ≡ None
below-none test zero none = below-zero test
below-none test (suc n) none =
    below-step test n
    ∙ ap (λ (o : Option ℕ). option_or o (cond (test n) (Some n) None)) (below-none test n (λ k lt. none k (omega arith)))
    ∙ ap (λ (b : Bool). cond b (Some n) None) (none n (omega arith))

-- The one before which none passes is the first.
pub below-found : (test : ℕ → Bool) (n k : ℕ) → k < n → ((j : ℕ) → j < k → test j ≡ false) → test k ≡ true → first_below test n ≡ Some k
below-found test zero k lt none passes = absurd (omega arith)
below-found test (suc n) k lt none passes = by_place (λ before. below-found test n k before none passes) (cases k n lt)
  where
    cases : (a b : ℕ) → a < suc b → (a < b) ⊎ (a ≡ b)
    cases a b le = by_test (ltb a b) refl
      where
        by_test : (is : Bool) → ltb a b ≡ is → (a < b) ⊎ (a ≡ b)
        by_test true e = inl (ltb-true a b e)
        by_test false e = let past = ltb-false a b e in inr (omega arith)

    by_place : (k < n → first_below test n ≡ Some k) → (k < n) ⊎ (k ≡ n) → first_below test (suc n) ≡ Some k
    by_place earlier (inl before) = below-step test n ∙ ap (λ (o : Option ℕ). option_or o (cond (test n) (Some n) None)) (earlier before)
    by_place earlier (inr last) =
        below-step test n
        ∙ ap (λ (o : Option ℕ). option_or o (cond (test n) (Some n) None)) (below-none test n (λ j lt. none j (omega arith)))
        ∙ ap (λ (b : Bool). cond b (Some n) None) (ap test (sym last) ∙ passes)
        ∙ ap some_number (sym last)

-- What is found is below n, and passes.
pub below-is : (test : ℕ → Bool) (n k : ℕ) → first_below test n ≡ Some k → k < n
below-is test zero k e = let none = below-zero test in cc
below-is test (suc n) k e = by_first (first_below test n) refl (below-is test n k) (test n) (sym (below-step test n) ∙ e)
  where
    by_first : (o : Option ℕ) → first_below test n ≡ o → (first_below test n ≡ Some k → k < n) → (is : Bool) → option_or (first_below test n) (cond is (Some n) None) ≡ Some k → k < suc n
    by_first (Some j) f earlier is e =
        let found : first_below test n ≡ Some k = f ∙ (ap (λ (o : Option ℕ). option_or o (cond is (Some n) None)) (sym f) ∙ e) in
        let lt = earlier found in omega arith
    by_first None f earlier is e = by_test is (ap (λ (o : Option ℕ). option_or o (cond is (Some n) None)) (sym f) ∙ e)
      where
        by_test : (is : Bool) → cond is (Some n) None ≡ Some k → k < suc n
        by_test true e = let same : n ≡ k = cc in omega arith
        by_test false e = cc

-- Tests that agree find the same.
pub below-same : (f g : ℕ → Bool) (n : ℕ) → ((k : ℕ) → k < n → f k ≡ g k) → first_below f n ≡ first_below g n
below-same f g zero same = below-zero f ∙ sym (below-zero g)
below-same f g (suc n) same =
    below-step f n
    ∙ ap (λ (o : Option ℕ). option_or o (cond (f n) (Some n) None)) (below-same f g n (λ k lt. same k (omega arith)))
    ∙ ap (λ (b : Bool). option_or (first_below g n) (cond b (Some n) None)) (same n (omega arith))
    ∙ sym (below-step g n)

-- ---- the numbers from some number on

or_some : (a b c : Option ℕ) → option_or (option_or a b) c ≡ option_or a (option_or b c)
or_some None b c = refl
or_some (Some x) b c = refl

-- The first below a + b is the first below a, or the first of the b numbers from a on.
pub below-split : (test : ℕ → Bool) (a b : ℕ)
    → first_below test (a + b) ≡ option_or (first_below test a) (option_map (λ (k : ℕ). a + k) (first_below (λ k. test (a + k)) b))
below-split test a zero =
    ap (first_below test) (let none : a + 0 ≡ a = omega arith in none)
    ∙ sym (or_nothing (first_below test a))
    ∙ ap (λ (o : Option ℕ). option_or (first_below test a) (option_map (λ (k : ℕ). a + k) o)) (sym (below-zero (λ k. test (a + k))))
  where
    or_nothing : (o : Option ℕ) → option_or o None ≡ o
    or_nothing None = refl
    or_nothing (Some x) = refl
below-split test a (suc b) =
    ap (first_below test) (let next : a + suc b ≡ suc (a + b) = omega arith in next)
    ∙ below-step test (a + b)
    ∙ ap (λ (o : Option ℕ). option_or o (cond (test (a + b)) (Some (a + b)) None)) (below-split test a b)
    ∙ or_some (first_below test a) (option_map (λ (k : ℕ). a + k) (first_below (λ k. test (a + k)) b)) (cond (test (a + b)) (Some (a + b)) None)
    ∙ ap (option_or (first_below test a)) (last (first_below (λ k. test (a + k)) b) (test (a + b)))
    ∙ ap (λ (o : Option ℕ). option_or (first_below test a) (option_map (λ (k : ℕ). a + k) o)) (sym (below-step (λ k. test (a + k)) b))
  where
    last : (o : Option ℕ) (is : Bool)
        → option_or (option_map (λ (k : ℕ). a + k) o) (cond is (Some (a + b)) None)
        ≡ option_map (λ (k : ℕ). a + k) (option_or o (cond is (Some b) None))
    last (Some x) is = refl
    last None true = refl
    last None false = refl
