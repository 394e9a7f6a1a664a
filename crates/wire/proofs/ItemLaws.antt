-- The items that an iterator gives are those that are spelled, and items that are written one after the other are read.
use Rattle.std.proofs.Common.{◌≡◌, ℕ, zero, suc, ◌+◌, ◌<◌, ◌≤◌, List, [], ◌∷◌, ◌++◌, length, Option, Some, None}
use Rattle.std.proofs.Common.{refl, sym, ap, ◌∙◌, append_assoc, append-nil, arith}
use Rattle.std.proofs.lemmas.List.{length-append}
use Rattle.wire.specs.Format.{Front, SpellsEach}
use Rattle.std.specs.Prelude.{map}
use Rattle.std.specs.List.{flat_map, AllByRecursion}
use Rattle.wire.specs.Exact.{IsFront}
use Rattle.wire.specs.Items.{and_others, leading, items_of}

-- what was read is shorter than what there was
pub shorter : {A : Type 0} (f : Front A) → IsFront f → (bs : List ℕ) (x : A × List ℕ) → f.at bs ≡ Some x → length x.1 < length bs
shorter f h bs x e =
    let t = h.takes bs x e in
    let l = h.filled x.0 t.text t.spelled in
    let len : length bs ≡ length t.text + length x.1 = ap (λ (u : List ℕ). length u) t.parts ∙ length-append t.text x.1 in
    omega arith

-- no bytes give no item
no_item : {A : Type 0} (f : Front A) → IsFront f → (bs : List ℕ) (o : Option (A × List ℕ)) (others : List ℕ → List A) → length bs ≤ 0 → f.at bs ≡ o → and_others o others ≡ []
no_item f h bs None others le e = refl
no_item f h bs (Some x) others le e = let l = shorter f h bs x e in absurd (omega arith)

-- at enough turns the two lists agree behind the first item, and so with it
one_more : {A : Type 0} (f : Front A) → IsFront f → (m n : ℕ) (bs : List ℕ) (o : Option (A × List ℕ)) → f.at bs ≡ o
    → ((u : List ℕ) → length u ≤ m → length u ≤ n → leading f.at m u ≡ leading f.at n u)
    → length bs ≤ suc m → length bs ≤ suc n → and_others o (λ u. leading f.at m u) ≡ and_others o (λ u. leading f.at n u)
one_more f h m n bs None e agree a b = refl
one_more {A} f h m n bs (Some x) e agree a b = let l = shorter f h bs x e in ap (λ (xs : List A). x.0 ∷ xs) (agree x.1 (omega arith) (omega arith))

-- more turns than bytes give nothing more
enough : {A : Type 0} (f : Front A) → IsFront f → (m n : ℕ) (bs : List ℕ) → length bs ≤ m → length bs ≤ n → leading f.at m bs ≡ leading f.at n bs
enough f h zero zero bs a b = refl
enough f h zero (suc n) bs a b = sym (no_item f h bs (f.at bs) (λ u. leading f.at n u) a refl)
enough f h (suc m) zero bs a b = no_item f h bs (f.at bs) (λ u. leading f.at m u) b refl
enough f h (suc m) (suc n) bs a b = one_more f h m n bs (f.at bs) refl (enough f h m n) a b

-- where no item stands at the front
pub items_none : {A : Type 0} (f : Front A) (bs : List ℕ) → f.at bs ≡ None → items_of f bs ≡ []
unfolding items_of
items_none f bs e = none_within f (length bs) bs e
  where
    none_within : {A : Type 0} (f : Front A) (n : ℕ) (bs : List ℕ) → f.at bs ≡ None → leading f.at n bs ≡ []
    none_within f zero bs e = refl
    none_within f (suc n) bs e = rw e refl

-- an item, and the items behind it
pub items_next : {A : Type 0} (f : Front A) → IsFront f → (bs : List ℕ) (x : A) (behind : List ℕ) → f.at bs ≡ Some (x, behind) → items_of f bs ≡ x ∷ items_of f behind
unfolding items_of
items_next {A} f h bs x behind e =
    let l : length behind < length bs = shorter f h bs (x, behind) e in
    let one : (n : ℕ) → length bs ≤ suc n → leading f.at (suc n) bs ≡ x ∷ leading f.at (length behind) behind = λ n le. rw e (ap (λ (xs : List A). x ∷ xs) (enough f h n (length behind) behind (omega arith) (omega arith))) in
    enough f h (length bs) (suc (length bs)) bs (omega arith) (omega arith) ∙ one (length bs) (omega arith)

-- The items of what is a spelling of items are these.
pub items_spelled : {A : Type 0} (f : Front A) → IsFront f → (xs : List A) (p : List ℕ) → SpellsEach f.Spells xs p → items_of f p ≡ xs
unfolding items_of
items_spelled f h [] p s = rw s refl
items_spelled {A} f h (x ∷ xs) p s =
    let first : f.at p ≡ Some (x, s.back) = rw s.parts (h.again x s.front s.back s.first) in
    items_next f h p x s.back first ∙ ap (λ (ys : List A). x ∷ ys) (items_spelled f h xs s.back s.second)

-- ---- what was written

-- one item more at the end
pub each_push : {A : Type 0} (S : A → List ℕ → Type 0) (xs : List A) (p : List ℕ) (x : A) (q : List ℕ) → SpellsEach S xs p → S x q → SpellsEach S (xs ++ x ∷ []) (p ++ q)
each_push S [] p x q s t = record { front = q; back = []; parts = rw s (sym (append-nil q)); first = t; second = refl }
each_push S (y ∷ ys) p x q s t =
    record { front = s.front; back = s.back ++ q; parts = rw s.parts (append_assoc s.front s.back q); first = s.first; second = each_push S ys s.back x q s.second t }

-- Items that are each written so are a spelling, one after the other.
pub each_put : {A B : Type 0} (S : B → List ℕ → Type 0) (view : A → B) (write : A → List ℕ) (xs : List A) → AllByRecursion (λ x. S (view x) (write x)) xs → SpellsEach S (map view xs) (flat_map write xs)
each_put S view write [] all = refl
each_put S view write (x ∷ xs) all = record { front = write x; back = flat_map write xs; parts = refl; first = all.0; second = each_put S view write xs all.1 }
