-- Where an item of a list stands, and what it was made of.
use Rattle.std.proofs.Common.{◌≡◌, ◌⊎◌, inl, inr, ℕ, zero, suc, ◌<◌, Bool, true, false, cond, List, [], ◌∷◌, length, get_or, take, Option, Some, None, refl, sym, subst, ◌∙◌, arith}
use Rattle.std.specs.Prelude.{Contains, map}
use Rattle.std.specs.List.{filter, find}
use Rattle.std.specs.Option.{option_and_then, option_map, option_or}
use Rattle.std.proofs.lemmas.List.Elements.{All-contains, All-contains_itself, All-take}
use Rattle.route_part.specs.Part.{since}
use Rattle.route_part.specs.Said.{last_said}
use Rattle.route_part.proofs.Steps.{last_said-none, last_said-step, since-changes, since-stays}

pub none_in : {X : Type 0} {x : X} → Contains [] x → ⊥
none_in c = let low = c.1 in absurd (omega arith)

pub here : {X : Type 0} (x : X) (xs : List X) → Contains (x ∷ xs) x
here x xs = (zero, omega arith, refl)

pub there : {X : Type 0} (y : X) (xs : List X) (x : X) → Contains xs x → Contains (y ∷ xs) x
there y xs x c = let low = c.1 in (suc c.0, omega arith, c.2)

at_place : {X : Type 0} (y : X) (xs : List X) (x : X) (k : ℕ) → k < length (y ∷ xs) → get_or (y ∷ xs) k x ≡ x → (y ≡ x) ⊎ Contains xs x
at_place y xs x zero low is = inl is
at_place y xs x (suc k) low is = inr (k, omega arith, is)

pub first_or_later : {X : Type 0} (y : X) (xs : List X) (x : X) → Contains (y ∷ xs) x → (y ≡ x) ⊎ Contains xs x
first_or_later y xs x c = at_place y xs x c.0 c.1 c.2

pub same_list : {X : Type 0} {xs ys : List X} (x : X) → xs ≡ ys → Contains xs x → Contains ys x
same_list {X} x e c = subst (λ (zs : List X). Contains zs x) e c

-- ---- an item of a list that was made of another

pub record IsImage {X Y : Type 0} (f : X → Y) (xs : List X) (y : Y) : Type 0 where
  pub of : X
  pub own : Contains xs of
  pub is : f of ≡ y

pub of_map : {X Y : Type 0} (f : X → Y) (xs : List X) (y : Y) → Contains (map f xs) y → IsImage f xs y
of_map f [] y c = absurd (none_in c)
of_map f (x ∷ xs) y c = elim (first_or_later (f x) (map f xs) y c) [
  | inl e ↦ record { of = x; own = here x xs; is = e }
  | inr later ↦ let i = of_map f xs y later in record { of = i.of; own = there x xs i.of i.own; is = i.is }
]

-- it passes a test
pub record IsPassing {X : Type 0} (test : X → Bool) (xs : List X) (x : X) : Type 0 where
  pub own : Contains xs x
  pub passes : test x ≡ true

filter_step : {X : Type 0} (test : X → Bool) (y : X) (xs : List X) (x : X) (b : Bool) → test y ≡ b → (Contains (filter test xs) x → IsPassing test xs x)
    → Contains (cond b (y ∷ filter test xs) (filter test xs)) x → IsPassing test (y ∷ xs) x
filter_step {X} test y xs x true e before c = elim (first_or_later y (filter test xs) x c) [
  | inl same ↦ subst (λ (z : X). IsPassing test (y ∷ xs) z) same (record { own = here y xs; passes = e })
  | inr later ↦ let i = before later in record { own = there y xs x i.own; passes = i.passes }
]
filter_step test y xs x false e before c = let i = before c in record { own = there y xs x i.own; passes = i.passes }

pub of_filter : {X : Type 0} (test : X → Bool) (xs : List X) (x : X) → Contains (filter test xs) x → IsPassing test xs x
of_filter test [] x c = absurd (none_in c)
of_filter test (y ∷ xs) x c = filter_step test y xs x (test y) refl (of_filter test xs x) c

pub of_take : {X : Type 0} (n : ℕ) (xs : List X) (x : X) → Contains (take n xs) x → Contains xs x
of_take n xs x c = All-contains (Contains xs) (take n xs) x (All-take (Contains xs) n xs (All-contains_itself xs)) c

found_step : {X : Type 0} (test : X → Bool) (y : X) (xs : List X) (x : X) (b : Bool) → test y ≡ b → (find test xs ≡ Some x → IsPassing test xs x)
    → cond b (Some y) (find test xs) ≡ Some x → IsPassing test (y ∷ xs) x
found_step {X} test y xs x true t before e = let same : y ≡ x = cc in subst (λ (z : X). IsPassing test (y ∷ xs) z) same (record { own = here y xs; passes = t })
found_step test y xs x false t before e = let i = before e in record { own = there y xs x i.own; passes = i.passes }

-- the first that passes
pub found : {X : Type 0} (test : X → Bool) (xs : List X) (x : X) → find test xs ≡ Some x → IsPassing test xs x
found test [] x e = absurd cc
found test (y ∷ xs) x e = found_step test y xs x (test y) refl (found test xs x) e

-- ---- an item of a history

since_step : {X V : Type 0} (same : V → V → Bool) (value : List X → V) (item : X) (earlier : List X) (x : X) (b : Bool) → same (value (item ∷ earlier)) (value earlier) ≡ b
    → (Contains (since same value earlier) x → Contains earlier x) → Contains (since same value (item ∷ earlier)) x → Contains (item ∷ earlier) x
since_step {X} {V} same value item earlier x true e before c = elim (first_or_later item (since same value earlier) x (same_list x (since-stays same value item earlier e) c)) [
  | inl first ↦ subst (λ (z : X). Contains (item ∷ earlier) z) first (here item earlier)
  | inr later ↦ there item earlier x (before later)
]
since_step same value item earlier x false e before c = absurd (none_in (same_list x (since-changes same value item earlier e) c))

pub since_part : {X V : Type 0} (same : V → V → Bool) (value : List X → V) (xs : List X) (x : X) → Contains (since same value xs) x → Contains xs x
unfolding since
since_part same value [] x c = c
since_part same value (item ∷ earlier) x c =
    since_step same value item earlier x (same (value (item ∷ earlier)) (value earlier)) refl (since_part same value earlier x) c

pub record IsSaid {X Y : Type 0} (says : X → Option Y) (xs : List X) (y : Y) : Type 0 where
  pub of : X
  pub own : Contains xs of
  pub is : says of ≡ Some y

last_step : {X A : Type 0} (says : X → Option A) (item : X) (earlier : List X) (a : A) (o : Option A) → says item ≡ o → (last_said says earlier ≡ Some a → IsSaid says earlier a)
    → option_or o (last_said says earlier) ≡ Some a → IsSaid says (item ∷ earlier) a
last_step says item earlier a None is before e = let i = before e in record { of = i.of; own = there item earlier i.of i.own; is = i.is }
last_step says item earlier a (Some b) is before e = record { of = item; own = here item earlier; is = is ∙ e }

pub last_said_by : {X A : Type 0} (says : X → Option A) (part : List X) (a : A) → last_said says part ≡ Some a → IsSaid says part a
last_said_by says [] a e = let none = last_said-none says in absurd cc
last_said_by says (item ∷ earlier) a e = last_step says item earlier a (says item) refl (last_said_by says earlier a) (sym (last_said-step says item earlier) ∙ e)

-- ---- what an option was made of

abbrev pub IsMapped : {A B : Type 0} → (A → B) → Option A → B → Type 0
IsMapped {A} f o b = (a : A) × (o ≡ Some a) × (f a ≡ b)

pub mapped : {A B : Type 0} (f : A → B) (o : Option A) (b : B) → option_map f o ≡ Some b → IsMapped f o b
mapped f None b e = absurd cc
mapped {A} {B} f (Some a) b e = let same : f a ≡ b = cc in (a, refl, same)

abbrev pub IsThen : {A B : Type 0} → (A → Option B) → Option A → B → Type 0
IsThen {A} f o b = (a : A) × (o ≡ Some a) × (f a ≡ Some b)

pub then_some : {A B : Type 0} (f : A → Option B) (o : Option A) (b : B) → option_and_then f o ≡ Some b → IsThen f o b
then_some f None b e = absurd cc
then_some f (Some a) b e = (a, refl, e)
