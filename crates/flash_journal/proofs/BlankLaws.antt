-- Ranges that are erased, piece by piece.
use Rattle.std.specs.Prelude.{◌↔◌}
use Rattle.std.proofs.Common.{◌≡◌, ◌⊎◌, inl, inr, ℕ, ◌+◌, ◌-◌, ◌<◌, ◌≤◌, List, length, get_or, sym, subst, ◌∙◌, arith}
use Rattle.std.proofs.lemmas.Bool.{cases_lt}
use Rattle.flash_dev.specs.Changes.{Holds, IsBlank}

-- a piece more
pub blank_more : (c : List ℕ) (at done n : ℕ) → IsBlank c at done → IsBlank c (at + done) n → IsBlank c at (done + n)
blank_more c at done n first rest k lt = pick (cases_lt k done)
  where
    pick : (k < done) ⊎ (done ≤ k) → get_or c (at + k) 0 ≡ 255
    pick (inl below) = first k below
    pick (inr past) =
        let here : at + done + (k - done) ≡ at + k = omega (arith, past) in
        subst (λ (p : ℕ). get_or c p 0 ≡ 255) here (rest (k - done) (omega (arith, lt, past)))

-- and a piece of what is erased
pub blank_part : (c : List ℕ) (at done n len : ℕ) → done + n ≤ len → IsBlank c at len → IsBlank c (at + done) n
blank_part c at done n len fits all k lt =
    let here : at + (done + k) ≡ at + done + k = omega arith in
    subst (λ (p : ℕ). get_or c p 0 ≡ 255) here (all (done + k) (omega (arith, fits, lt)))

-- what was read is erased where it stands
pub blank_read : (c bytes : List ℕ) (at n : ℕ) → length bytes ≡ n → Holds c at bytes → IsBlank bytes 0 (length bytes) ↔ IsBlank c at n
blank_read c bytes at n size holds = (
  λ all k lt. let here : 0 + k ≡ k = omega arith in holds k (omega (arith, lt, size)) ∙ subst (λ (p : ℕ). get_or bytes p 0 ≡ 255) here (all k (omega (arith, lt, size))),
  λ all k lt. let here : k ≡ 0 + k = omega arith in subst (λ (p : ℕ). get_or bytes p 0 ≡ 255) here (back k lt (all k (omega (arith, lt, size)))),
)
  where
    back : (k : ℕ) → k < length bytes → get_or c (at + k) 0 ≡ 255 → get_or bytes k 0 ≡ 255
    back k lt is = let same = holds k lt in omega (arith, same, is)

-- what was read is what stands there
pub held_read : (c bytes wanted : List ℕ) (at : ℕ) → length bytes ≡ length wanted → Holds c at bytes → Holds bytes 0 wanted ↔ Holds c at wanted
held_read c bytes wanted at size holds = (
  λ all k lt. let here : 0 + k ≡ k = omega arith in holds k (omega (arith, lt, size)) ∙ subst (λ (p : ℕ). get_or bytes p 0 ≡ get_or wanted k 0) here (all k lt),
  λ all k lt. let here : k ≡ 0 + k = omega arith in subst (λ (p : ℕ). get_or bytes p 0 ≡ get_or wanted k 0) here (sym (holds k (omega (arith, lt, size))) ∙ all k lt),
)
