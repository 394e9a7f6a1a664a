-- Pairs of a message, piece by piece.
use Rattle.std.proofs.Common.{◌≡◌, ◌⊎◌, inl, inr, ℕ, ◌+◌, ◌-◌, ◌*◌, ◌/◌, ◌<◌, ◌≤◌, List, length, get_or, sym, ap, subst, ◌∙◌, arith}
use Rattle.std.proofs.lemmas.Bool.{cases_lt}
use Rattle.flash_dev.specs.Changes.{Holds}
use Rattle.flash_layout.specs.Pairs.{paired, part}
use Rattle.flash_layout.proofs.PairsLemmas.{first-paired, half_cases, length-paired, second-paired}
use Rattle.flash_layout.proofs.PartLemmas.{get_or-part, length-part}

-- the pairs of a piece are a piece of the pairs
pub paired_part : (message : List ℕ) (done n k : ℕ) → done + n ≤ length message → k < 2 * n → get_or (paired (part message done n)) k 0 ≡ get_or (paired message) (2 * done + k) 0
paired_part message done n k fits lt = pick (k / 2) (omega (arith, lt)) (half_cases k)
  where
    pick : (i : ℕ) → i < n → (k ≡ 2 * i) ⊎ (k ≡ 2 * i + 1) → get_or (paired (part message done n)) k 0 ≡ get_or (paired message) (2 * done + k) 0
    pick i below half =
        by_half half
      where
        size : length (part message done n) ≡ n
        size = length-part message done n fits

        same : get_or (part message done n) i 0 ≡ get_or message (done + i) 0
        same = get_or-part message done n i below

        by_half : (k ≡ 2 * i) ⊎ (k ≡ 2 * i + 1) → get_or (paired (part message done n)) k 0 ≡ get_or (paired message) (2 * done + k) 0
        by_half (inl even) =
            let here : 2 * (done + i) ≡ 2 * done + k = omega (arith, even) in
            ap (λ (p : ℕ). get_or (paired (part message done n)) p 0) even ∙ (first-paired (part message done n) i (omega (arith, size, below)) ∙ (same
            ∙ (sym (first-paired message (done + i) (omega (arith, fits, below))) ∙ ap (λ (p : ℕ). get_or (paired message) p 0) here)))
        by_half (inr odd) =
            let here : 2 * (done + i) + 1 ≡ 2 * done + k = omega (arith, odd) in
            ap (λ (p : ℕ). get_or (paired (part message done n)) p 0) odd ∙ (second-paired (part message done n) i (omega (arith, size, below)) ∙ (ap (λ (b : ℕ). 255 - b) same
            ∙ (sym (second-paired message (done + i) (omega (arith, fits, below))) ∙ ap (λ (p : ℕ). get_or (paired message) p 0) here)))

-- the first so many pairs of the message stand
pub record FrontStands (c : List ℕ) (at : ℕ) (message : List ℕ) (done : ℕ) : Type 0 where
  pub each : (k : ℕ) → k < 2 * done → get_or c (at + k) 0 ≡ get_or (paired message) k 0

pub front_none : (c : List ℕ) (at : ℕ) (message : List ℕ) → FrontStands c at message 0
front_none c at message = record { each = λ k lt. absurd (omega (arith, lt)) }

pub front_more : (c : List ℕ) (at : ℕ) (message : List ℕ) (done n : ℕ) → done + n ≤ length message → FrontStands c at message done → Holds c (at + 2 * done) (paired (part message done n))
    → FrontStands c at message (done + n)
front_more c at message done n fits front holds = record { each = λ k lt. pick k lt (cases_lt k (2 * done)) }
  where
    size : length (paired (part message done n)) ≡ 2 * n
    size = length-paired (part message done n) ∙ ap (λ (m : ℕ). 2 * m) (length-part message done n fits)

    pick : (k : ℕ) → k < 2 * (done + n) → (k < 2 * done) ⊎ (2 * done ≤ k) → get_or c (at + k) 0 ≡ get_or (paired message) k 0
    pick k lt (inl below) = front.each k below
    pick k lt (inr past) =
        let j = k - 2 * done in
        let here : at + 2 * done + j ≡ at + k = omega (arith, past) in
        let there : 2 * done + j ≡ k = omega (arith, past) in
        subst (λ (p : ℕ). get_or c p 0 ≡ get_or (paired message) k 0) here
        (holds j (omega (arith, lt, past, size)) ∙ (paired_part message done n j fits (omega (arith, lt, past)) ∙ ap (λ (p : ℕ). get_or (paired message) p 0) there))

pub front_piece : (c : List ℕ) (at : ℕ) (message : List ℕ) (done n : ℕ) → done + n ≤ length message → Holds c at (paired message) → Holds c (at + 2 * done) (paired (part message done n))
front_piece c at message done n fits all k lt =
    let size : length (paired (part message done n)) ≡ 2 * n = length-paired (part message done n) ∙ ap (λ (m : ℕ). 2 * m) (length-part message done n fits) in
    let below : k < 2 * n = omega (arith, lt, size) in
    let here : at + (2 * done + k) ≡ at + 2 * done + k = omega arith in
    subst (λ (p : ℕ). get_or c p 0 ≡ get_or (paired (part message done n)) k 0) here
    (all (2 * done + k) (omega (arith, below, fits, length-paired message)) ∙ sym (paired_part message done n k fits below))

pub front_all : (c : List ℕ) (at : ℕ) (message : List ℕ) (done : ℕ) → length message ≤ done → FrontStands c at message done → Holds c at (paired message)
front_all c at message done past front k lt = front.each k (omega (arith, lt, past, length-paired message))
