-- The front of a record block that is read and erased.
use Rattle.std.proofs.Common.{◌≡◌, ℕ, ◌+◌, ◌<◌, ◌≤◌, List, length, get_or, sym, ◌∙◌, ap, subst, arith}
use Rattle.flash_dev.specs.Changes.{Changes, Holds, IsBlank, IsErased}
use Rattle.flash_bank.specs.Journal.{ClearsBlock}
use Rattle.flash_bank.specs.Runs.{IsRaised}
use Rattle.flash_bank.proofs.RunsLemmas.{changes_same}

-- the front that was read is erased exactly where the contents are so
module _ (x front : List ℕ) (place at : ℕ) (here : place ≡ at) (size : length front ≡ 256) (holds : Holds x place front) where
  pub front_blank : ((k : ℕ) → k < length front → get_or front k 0 ≡ 255) → IsBlank x at 256
  front_blank blank k lt = ap (λ (p : ℕ). get_or x (p + k) 0) (sym here) ∙ (holds k (omega arith) ∙ blank k (omega arith))

  pub blank_front : IsBlank x at 256 → (k : ℕ) → k < length front → get_or front k 0 ≡ 255
  blank_front blank k lt = sym (holds k lt) ∙ (ap (λ (p : ℕ). get_or x (p + k) 0) here ∙ blank k (omega arith))

-- nothing changes
pub clears_same : (at n : ℕ) (x y : List ℕ) → y ≡ x → IsBlank x at 256 → ClearsBlock at n x y
clears_same at n x y same blank = record {
  same = λ was. same;
  erased = λ torn. absurd (torn blank);
  blank = λ k lt. ap (λ (c : List ℕ). get_or c (at + k) 0) same ∙ blank k lt;
}

-- or the block is erased
pub clears_erased : (at n : ℕ) (x y : List ℕ) → 256 ≤ n → (IsBlank x at 256 → ⊥) → Changes at n IsErased x y → ClearsBlock at n x y
clears_erased at n x y fits torn changes = record {
  same = λ was. absurd (torn was);
  erased = λ was. changes;
  blank = λ k lt. changes.inside k (omega arith);
}

-- nothing is raised where nothing changes
pub raised_same : (at n : ℕ) (x y : List ℕ) → y ≡ x → Changes at n IsRaised x y
raised_same at n x y same = subst (λ (c : List ℕ). Changes at n IsRaised x c) (sym same) (changes_same at n IsRaised x (λ k a. omega arith))
