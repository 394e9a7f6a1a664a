-- The groups of a plan with their files, one after the other.
use Rattle.std.proofs.Common.{◌≡◌, ℕ, suc, ◌+◌, ◌<◌, ◌≤◌, List, [], ◌∷◌, ◌++◌, length, get_or, take, drop, refl, sym, ap, ◌∙◌, append_assoc, arith}
use Rattle.std.specs.Prelude.{map}
use Rattle.std.proofs.lemmas.List.{drop_more, drop_all, take-map}
use Rattle.head_plan.specs.Plans.{GroupData}
use Rattle.head_carousel.specs.GroupFiles.{GroupFiles, group_id, groups_from}
use Rattle.head_carousel.proofs.ListLaws.{drop-map, no_more}

abbrev with_files : ℕ → GroupData → List (List ℕ) → GroupFiles
with_files i g files = record { id = group_id i; group = g; files = files }

first_from : (i n : ℕ) (g : GroupData) (tail : List GroupData) (images : List (List ℕ)) → n ≡ length g.modules
    → groups_from i (g ∷ tail) images ≡ with_files i g (take n images) ∷ groups_from (i + 1) tail (drop n images)
unfolding groups_from
first_from i n g tail images is =
    let one : suc i ≡ i + 1 = omega arith in
    rw (is, ← one) refl

pub groups_step : {A : Type 0} (v : A → List ℕ) (done : List GroupFiles) (gs : List GroupData) (i n : ℕ) (g : GroupData) (rest front back : List A) (all : List GroupFiles)
    → i < length gs → g ≡ get_or gs i g → n ≡ length g.modules → front ≡ take n rest → back ≡ drop n rest
    → done ++ groups_from i (drop i gs) (map v rest) ≡ all
    → (done ++ with_files i g (map v front) ∷ []) ++ groups_from (i + 1) (drop (i + 1) gs) (map v back) ≡ all
groups_step {A} v done gs i n g rest front back all low same is f b before =
    let tail = drop (i + 1) gs in
    let split : drop i gs ≡ g ∷ tail = drop_more gs i g low ∙ ap (λ (x : GroupData). x ∷ tail) (sym same) in
    let first = first_from i n g tail (map v rest) is in
    let fs : take n (map v rest) ≡ map v front = take-map v n rest ∙ ap (map v) (sym f) in
    let bs : drop n (map v rest) ≡ map v back = drop-map v n rest ∙ ap (map v) (sym b) in
    let joined : groups_from i (drop i gs) (map v rest) ≡ with_files i g (map v front) ∷ groups_from (i + 1) tail (map v back) =
    ap (λ (u : List GroupData). groups_from i u (map v rest)) split ∙ first ∙ ap (λ (u : List (List ℕ)). with_files i g u ∷ groups_from (i + 1) tail (drop n (map v rest))) fs
    ∙ ap (λ (u : List (List ℕ)). with_files i g (map v front) ∷ groups_from (i + 1) tail u) bs in
    append_assoc done (with_files i g (map v front) ∷ []) (groups_from (i + 1) tail (map v back)) ∙ ap (λ (u : List GroupFiles). done ++ u) (sym joined) ∙ before

pub groups_end : (done : List GroupFiles) (gs : List GroupData) (i : ℕ) (images : List (List ℕ)) (all : List GroupFiles) → length gs ≤ i
    → done ++ groups_from i (drop i gs) images ≡ all → done ≡ all
unfolding groups_from
groups_end done gs i images all high before =
    let none : drop i gs ≡ [] = drop_all i gs high in
    let e : groups_from i (drop i gs) images ≡ [] = rw none refl in
    sym (no_more done) ∙ ap (λ (u : List GroupFiles). done ++ u) (sym e) ∙ before

pub groups_length : (i : ℕ) (gs : List GroupData) (images : List (List ℕ)) → length (groups_from i gs images) ≡ length gs
unfolding groups_from
groups_length i [] images = refl
groups_length i (g ∷ gs) images = ap (λ (n : ℕ). suc n) (groups_length (suc i) gs (drop (length g.modules) images))
