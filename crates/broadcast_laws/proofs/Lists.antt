-- Where an item of a list stands.
use Rattle.std.proofs.Common.{◌≡◌, ℕ, zero, suc, ◌<◌, ◌⊎◌, inl, inr, Bool, true, false, cond, List, [], ◌∷◌, length, get_or, take, Option, Some, None, refl, ap, subst, ◌∙◌, arith}
use Rattle.std.specs.Prelude.{Contains, map, reverse}
use Rattle.std.specs.List.{cons_option, filter, filter_map, flat_map}
use Rattle.std.proofs.lemmas.List.Elements.{All-contains, All-contains_itself, All-take, Contains-append_cases, Contains-push_cases}
use Rattle.std.proofs.lemmas.List.{reverse-append}

pub none_in : {X : Type 0} {x : X} → Contains [] x → ⊥
none_in c = let low = c.1 in absurd (omega arith)

pub here : {X : Type 0} (x : X) (xs : List X) → Contains (x ∷ xs) x
here x xs = (zero, omega arith, refl)

pub there : {X : Type 0} (y : X) (xs : List X) (x : X) → Contains xs x → Contains (y ∷ xs) x
there y xs x c = let low = c.1 in (suc c.0, omega arith, c.2)

at_place : {X : Type 0} (y : X) (xs : List X) (x : X) (k : ℕ) → k < length (y ∷ xs) → get_or (y ∷ xs) k x ≡ x → (y ≡ x) ⊎ Contains xs x
at_place y xs x zero low is = inl is
at_place y xs x (suc k) low is = inr (k, omega arith, is)

pub first_or_later : {X : Type 0} (y : X) (xs : List X) (x : X) → Contains (y ∷ xs) x → (y ≡ x) ⊎ Contains xs x
first_or_later y xs x c = at_place y xs x c.0 c.1 c.2

-- ---- an item of a list that was made of another

pub record IsImage {X Y : Type 0} (f : X → Y) (xs : List X) (y : Y) : Type 0 where
  pub of : X
  pub own : Contains xs of
  pub is : f of ≡ y

pub of_map : {X Y : Type 0} (f : X → Y) (xs : List X) (y : Y) → Contains (map f xs) y → IsImage f xs y
of_map f [] y c = absurd (none_in c)
of_map f (x ∷ xs) y c = elim (first_or_later (f x) (map f xs) y c) [
  | inl e ↦ record { of = x; own = here x xs; is = e }
  | inr later ↦ let i = of_map f xs y later in record { of = i.of; own = there x xs i.of i.own; is = i.is }
]

pub to_map : {X Y : Type 0} (f : X → Y) (xs : List X) (x : X) → Contains xs x → Contains (map f xs) (f x)
to_map f [] x c = absurd (none_in c)
to_map {X} {Y} f (y ∷ xs) x c = elim (first_or_later y xs x c) [
  | inl e ↦ subst (λ (z : X). Contains (map f (y ∷ xs)) (f z)) e (here (f y) (map f xs))
  | inr later ↦ there (f y) (map f xs) (f x) (to_map f xs x later)
]

pub record IsPiece {X Y : Type 0} (f : X → List Y) (xs : List X) (y : Y) : Type 0 where
  pub of : X
  pub own : Contains xs of
  pub inside : Contains (f of) y

pub of_flat_map : {X Y : Type 0} (f : X → List Y) (xs : List X) (y : Y) → Contains (flat_map f xs) y → IsPiece f xs y
of_flat_map f [] y c = absurd (none_in c)
of_flat_map f (x ∷ xs) y c = elim (Contains-append_cases (f x) (flat_map f xs) y c) [
  | inl front ↦ record { of = x; own = here x xs; inside = front }
  | inr later ↦ let i = of_flat_map f xs y later in record { of = i.of; own = there x xs i.of i.own; inside = i.inside }
]

pub record IsKept {X : Type 0} (test : X → Bool) (xs : List X) (x : X) : Type 0 where
  pub own : Contains xs x
  pub passes : test x ≡ true

filter_step : {X : Type 0} (test : X → Bool) (y : X) (xs : List X) (x : X) (b : Bool) → test y ≡ b → (Contains (filter test xs) x → IsKept test xs x)
    → Contains (cond b (y ∷ filter test xs) (filter test xs)) x → IsKept test (y ∷ xs) x
filter_step {X} test y xs x true e before c = elim (first_or_later y (filter test xs) x c) [
  | inl same ↦ subst (λ (z : X). IsKept test (y ∷ xs) z) same (record { own = here y xs; passes = e })
  | inr later ↦ let i = before later in record { own = there y xs x i.own; passes = i.passes }
]
filter_step test y xs x false e before c = let i = before c in record { own = there y xs x i.own; passes = i.passes }

pub of_filter : {X : Type 0} (test : X → Bool) (xs : List X) (x : X) → Contains (filter test xs) x → IsKept test xs x
of_filter test [] x c = absurd (none_in c)
of_filter test (y ∷ xs) x c = filter_step test y xs x (test y) refl (of_filter test xs x) c

pub record IsSaid {X Y : Type 0} (says : X → Option Y) (xs : List X) (y : Y) : Type 0 where
  pub of : X
  pub own : Contains xs of
  pub is : says of ≡ Some y

map_step : {X Y : Type 0} (says : X → Option Y) (x : X) (xs : List X) (y : Y) (o : Option Y) → says x ≡ o → (Contains (filter_map says xs) y → IsSaid says xs y)
    → Contains (cons_option o (filter_map says xs)) y → IsSaid says (x ∷ xs) y
map_step says x xs y None e before c = let i = before c in record { of = i.of; own = there x xs i.of i.own; is = i.is }
map_step {X} {Y} says x xs y (Some z) e before c = elim (first_or_later z (filter_map says xs) y c) [
  | inl same ↦ record { of = x; own = here x xs; is = e ∙ ap (λ (w : Y). Some w) same }
  | inr later ↦ let i = before later in record { of = i.of; own = there x xs i.of i.own; is = i.is }
]

pub of_filter_map : {X Y : Type 0} (says : X → Option Y) (xs : List X) (y : Y) → Contains (filter_map says xs) y → IsSaid says xs y
of_filter_map says [] y c = absurd (none_in c)
of_filter_map says (x ∷ xs) y c = map_step says x xs y (says x) refl (of_filter_map says xs y) c

pub of_take : {X : Type 0} (n : ℕ) (xs : List X) (x : X) → Contains (take n xs) x → Contains xs x
of_take n xs x c = All-contains (Contains xs) (take n xs) x (All-take (Contains xs) n xs (All-contains_itself xs)) c

pub of_reverse : {X : Type 0} (xs : List X) (x : X) → Contains (reverse xs) x → Contains xs x
of_reverse {X} [] x c = absurd (none_in c)
of_reverse {X} (y ∷ xs) x c = elim (Contains-push_cases (reverse xs) y x (subst (λ (zs : List X). Contains zs x) (reverse-append (y ∷ []) xs) c)) [
  | inl before ↦ there y xs x (of_reverse xs x before)
  | inr same ↦ subst (λ (z : X). Contains (y ∷ xs) z) same (here y xs)
]

pub same_list : {X : Type 0} {xs ys : List X} (x : X) → xs ≡ ys → Contains xs x → Contains ys x
same_list {X} x e c = subst (λ (zs : List X). Contains zs x) e c
