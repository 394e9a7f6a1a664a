-- The pieces of a text, put one after the other.
use Rattle.std.proofs.Common.{zero, suc, ◌≡◌, ℕ, ◌+◌, List, [], ◌∷◌, ◌++◌, take, drop, Option, Some, arith, sym, ap, subst, refl, ◌∙◌, append_assoc, append-nil}
use Rattle.std.specs.List.{concat, slice_get}
use Rattle.std.proofs.lemmas.List.{take-append-drop}
use Rattle.ssu_io.specs.Bytes.{GainsPrefix}
use Rattle.ssu_io.specs.SinkBuffer.{MovesOn}
use Rattle.ssu_io.proofs.BufferLemmas.{MovesOn_join, MovesOn_failed, GainsPrefix_longer}

pub concat_append : (xss yss : List (List ℕ)) → concat (xss ++ yss) ≡ concat xss ++ concat yss
concat_append [] yss = refl
concat_append (xs ∷ xss) yss = ap (λ (rest : List ℕ). xs ++ rest) (concat_append xss yss) ∙ sym (append_assoc xs (concat xss) (concat yss))

-- one more of a list of pieces
pub concat_taken : (xss : List (List ℕ)) (k : ℕ) (x : List ℕ) → slice_get xss k ≡ Some x → concat (take (k + 1) xss) ≡ concat (take k xss) ++ x
concat_taken [] k x at = cc
concat_taken (y ∷ ys) zero x at =
    let same : y ≡ x = cc in
    append-nil y ∙ same
concat_taken (y ∷ ys) (suc k) x at =
    let more : suc k + 1 ≡ suc (k + 1) = omega arith in
    ap (λ (n : ℕ). concat (take n (y ∷ ys))) more
    ∙ ap (λ (rest : List ℕ). y ++ rest) (concat_taken ys k x at)
    ∙ sym (append_assoc y (concat (take k ys)) x)

-- the pieces in front, and the others
pub concat_split : (xss : List (List ℕ)) (n : ℕ) → concat xss ≡ concat (take n xss) ++ concat (drop n xss)
concat_split xss n = ap concat (sym (take-append-drop n xss)) ∙ concat_append (take n xss) (drop n xss)

-- one more piece is put
pub pieces_step : (first now after : Option (List ℕ)) (waited waiting left section : List ℕ) (each : List (List ℕ)) (k : ℕ)
    → MovesOn first now waited (concat (take k each)) waiting → slice_get each k ≡ Some section → MovesOn now after waiting section left
    → MovesOn first after waited (concat (take (k + 1) each)) left
pieces_step first now after waited waiting left section each k sofar at moves =
    let P : List ℕ → Type 0 = λ piece. MovesOn first after waited piece left in
    subst P (sym (concat_taken each k section at)) (MovesOn_join first now after waited (concat (take k each)) waiting section left sofar moves)

-- the write of a piece failed
pub pieces_failed : (first now after : Option (List ℕ)) (waited waiting section : List ℕ) (each : List (List ℕ)) (k : ℕ)
    → MovesOn first now waited (concat (take k each)) waiting → slice_get each k ≡ Some section → GainsPrefix now after (waiting ++ section)
    → GainsPrefix first after (waited ++ concat each)
pieces_failed first now after waited waiting section each k sofar at failed =
    let front = concat (take k each) ++ section in
    let others = concat (drop (k + 1) each) in
    let all : (waited ++ front) ++ others ≡ waited ++ concat each =
    append_assoc waited front others
    ∙ ap (λ (pieces : List ℕ). waited ++ pieces)
    (ap (λ (piece : List ℕ). piece ++ others) (sym (concat_taken each k section at)) ∙ sym (concat_split each (k + 1))) in
    let P : List ℕ → Type 0 = λ piece. GainsPrefix first after piece in
    subst P all (GainsPrefix_longer first after (waited ++ front) others
    (MovesOn_failed first now after waited (concat (take k each)) waiting section sofar failed))
