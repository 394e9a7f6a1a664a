-- Lists of services and of streams that are the same.
use Rattle.std.proofs.Common.{◌≡◌, ◌≢◌, Bool, true, false, ◌&&◌, List, [], ◌∷◌, length, refl, ap, ◌∙◌, arith}
use Rattle.route_tables.specs.Values.{same_list}

false_and : (b : Bool) → false ≡ (b && false)
false_and true = refl
false_and false = refl

-- lists of other lengths are not the same
pub unlike : {A : Type 0} (same : A → A → Bool) (xs ys : List A) → length xs ≢ length ys → false ≡ same_list same xs ys
unfolding same_list
unlike same [] [] n = absurd (n refl)
unlike same [] (y ∷ ys) n = refl
unlike same (x ∷ xs) [] n = refl
unlike {A} same (x ∷ xs) (y ∷ ys) n =
    let shorter : length xs ≢ length ys = λ e. n (omega arith) in
    false_and (same x y) ∙ ap (λ b. same x y && b) (unlike same xs ys shorter)

-- a list is the same as itself
pub itself : {A : Type 0} (same : A → A → Bool) → ((x : A) → same x x ≡ true) → (xs : List A) → same_list same xs xs ≡ true
unfolding same_list
itself same is [] = refl
itself same is (x ∷ xs) = rw (is x, itself same is xs) refl
