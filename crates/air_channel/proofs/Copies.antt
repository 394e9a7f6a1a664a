-- Copies of a packet, put one after the other.
use Rattle.std.proofs.Common.{zero, suc, ◌≡◌, ℕ, ◌+◌, ◌-◌, ◌<◌, List, [], ◌∷◌, ◌++◌, replicate, Option, refl, sym, ap, ◌∙◌, arith, subst, append_assoc, append-nil}
use Rattle.std.specs.List.{concat}
use Rattle.ssu_io.specs.Bytes.{GainsPrefix}
use Rattle.ssu_io.specs.SinkBuffer.{MovesOn}
use Rattle.ssu_io.proofs.BufferLemmas.{MovesOn_join, MovesOn_failed, GainsPrefix_longer}

copies_more : (k m : ℕ) (p : List ℕ) → concat (replicate (k + m) p) ≡ concat (replicate k p) ++ concat (replicate m p)
copies_more zero m p =
    let same : 0 + m ≡ m = omega arith in ap (λ (n : ℕ). concat (replicate n p)) same
copies_more (suc k) m p =
    let same : suc k + m ≡ suc (k + m) = omega arith in
    ap (λ (n : ℕ). concat (replicate n p)) same
    ∙ ap (λ (rest : List ℕ). p ++ rest) (copies_more k m p)
    ∙ sym (append_assoc p (concat (replicate k p)) (concat (replicate m p)))

one_copy : (p : List ℕ) → concat (replicate 1 p) ≡ p
one_copy p = append-nil p

-- one more copy is put
pub copies_step : (first now after : Option (List ℕ)) (waited waiting left p : List ℕ) (k : ℕ)
    → MovesOn first now waited (concat (replicate k p)) waiting → MovesOn now after waiting p left
    → MovesOn first after waited (concat (replicate (k + 1) p)) left
copies_step first now after waited waiting left p k sofar moves =
    let more : concat (replicate k p) ++ p ≡ concat (replicate (k + 1) p) =
    sym (copies_more k 1 p ∙ ap (λ (rest : List ℕ). concat (replicate k p) ++ rest) (one_copy p)) in
    let P : List ℕ → Type 0 = λ piece. MovesOn first after waited piece left in
    subst P more (MovesOn_join first now after waited (concat (replicate k p)) waiting p left sofar moves)

-- the write of a copy failed
pub copies_failed : (first now after : Option (List ℕ)) (waited waiting p : List ℕ) (k n : ℕ)
    → MovesOn first now waited (concat (replicate k p)) waiting → k < n → GainsPrefix now after (waiting ++ p)
    → GainsPrefix first after (waited ++ concat (replicate n p))
copies_failed first now after waited waiting p k n sofar less failed =
    let front = concat (replicate k p) ++ p in
    let others = concat (replicate (n - (k + 1)) p) in
    let number : (k + 1) + (n - (k + 1)) ≡ n = omega (arith, less) in
    let all : (waited ++ front) ++ others ≡ waited ++ concat (replicate n p) =
    append_assoc waited front others
    ∙ ap (λ (pieces : List ℕ). waited ++ pieces)
    (ap (λ (piece : List ℕ). piece ++ others) (ap (λ (last : List ℕ). concat (replicate k p) ++ last) (sym (one_copy p)) ∙ sym (copies_more k 1 p))
    ∙ sym (copies_more (k + 1) (n - (k + 1)) p)
    ∙ ap (λ (m : ℕ). concat (replicate m p)) number) in
    let P : List ℕ → Type 0 = λ piece. GainsPrefix first after piece in
    subst P all (GainsPrefix_longer first after (waited ++ front) others
    (MovesOn_failed first now after waited (concat (replicate k p)) waiting p sofar failed))
