-- The files of groups, one after the other.
use Rattle.std.proofs.Common.{◌≡◌, ℕ, zero, suc, ◌+◌, ◌-◌, ◌<◌, ◌≤◌, List, [], ◌∷◌, ◌++◌, length, get_or, drop, refl, ap, ◌∙◌, arith}
use Rattle.std.specs.Prelude.{slice_get}
use Rattle.std.proofs.lemmas.List.{drop_more}
use Rattle.head_plan.specs.Plans.{GroupData, mentions}

-- the files of the groups from a place on
pub mentions-drop : (gs : List GroupData) (k : ℕ) (g : GroupData) → k < length gs → g ≡ get_or gs k g → mentions (drop k gs) ≡ g.modules ++ mentions (drop (k + 1) gs)
mentions-drop gs k g low same = rw (drop_more gs k g low, ← same)

pub slice_get-front : (xs ys : List (List ℕ)) (k : ℕ) → k < length xs → slice_get (xs ++ ys) k ≡ slice_get xs k
slice_get-front [] ys k low = absurd (omega arith)
slice_get-front (x ∷ xs) ys zero low = refl
slice_get-front (x ∷ xs) ys (suc k) low = slice_get-front xs ys k (omega arith)

pub slice_get-back : (xs ys : List (List ℕ)) (k : ℕ) → length xs ≤ k → slice_get (xs ++ ys) k ≡ slice_get ys (k - length xs)
slice_get-back [] ys k high = let same : k ≡ k - 0 = omega arith in ap (slice_get ys) same
slice_get-back (x ∷ xs) ys zero high = absurd (omega arith)
slice_get-back (x ∷ xs) ys (suc k) high =
    let same : k - length xs ≡ suc k - suc (length xs) = omega arith in
    slice_get-back xs ys k (omega arith) ∙ ap (slice_get ys) same
