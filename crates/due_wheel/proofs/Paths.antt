-- Paths of linked nodes: what stays of them where two nodes are made neighbours, and which items a walk meets.
use Rattle.std.proofs.Common.{zero, suc, ◌≡◌, ℕ, ◌<◌, ◌≤◌, inl, inr, List, [], ◌∷◌, ◌++◌, length, get_or, set, Some, refl, sym, ap, ◌∙◌, arith, lt-ltb, le-ltb, get_or-set_other}
use Rattle.std.proofs.lemmas.Bool.{cases_lt}
use Rattle.std.proofs.lemmas.Bool.Decides.{eqb_tells}
use Rattle.std.specs.List.{last_or}
use Rattle.due_wheel.specs.Rings.{walk, IsPath, times}
use Rattle.due_wheel.proofs.Times.{times_here, times_past, apart_from, times-append}

-- the last of a node and those behind it
abbrev pub last_from : ℕ → List ℕ → ℕ
last_from x [] = x
last_from x (y ∷ ys) = last_from y ys

-- the first of these items, or else that node; and the nodes behind it
abbrev pub first_from : List ℕ → ℕ → ℕ
first_from [] z = z
first_from (y ∷ ys) z = y

abbrev pub rest_from : List ℕ → ℕ → List ℕ
rest_from [] z = []
rest_from (y ∷ ys) z = ys ++ z ∷ []

pub first_and_rest : (ys : List ℕ) (z : ℕ) → ys ++ z ∷ [] ≡ first_from ys z ∷ rest_from ys z
first_and_rest [] z = refl
first_and_rest (y ∷ ys) z = refl

-- a path is cut at a node, and glued
pub path_cut : (next previous : List ℕ) (x : ℕ) (xs : List ℕ) (y : ℕ) (ys : List ℕ) → IsPath next previous x (xs ++ y ∷ ys)
    → IsPath next previous x xs × (get_or next (last_from x xs) 0 ≡ y) × (get_or previous y 0 ≡ last_from x xs) × IsPath next previous y ys
path_cut next previous x [] y ys p = (tt, p.0, p.1, p.2)
path_cut next previous x (w ∷ xs) y ys p =
    let rest = path_cut next previous w xs y ys p.2 in
    ((p.0, p.1, rest.0), rest.1, rest.2, rest.3)

pub path_glued : (next previous : List ℕ) (x : ℕ) (xs : List ℕ) (y : ℕ) (ys : List ℕ) → IsPath next previous x xs
    → get_or next (last_from x xs) 0 ≡ y → get_or previous y 0 ≡ last_from x xs → IsPath next previous y ys → IsPath next previous x (xs ++ y ∷ ys)
path_glued next previous x [] y ys p e f q = (e, f, q)
path_glued next previous x (w ∷ xs) y ys p e f q = (p.0, p.1, path_glued next previous w xs y ys p.2 e f q)

-- no node of a path but its last is a, and none but its first is b
abbrev pub IsClear : ℕ → ℕ → ℕ → List ℕ → Type 0
IsClear a b x [] = Unit {0}
IsClear a b x (y ∷ ys) = (x ≡ a → ⊥) × (y ≡ b → ⊥) × IsClear a b y ys

-- b becomes the neighbour behind a
pub path_kept : (next previous : List ℕ) (a b x : ℕ) (xs : List ℕ) → IsClear a b x xs → IsPath next previous x xs
    → IsPath (set next a b) (set previous b a) x xs
path_kept next previous a b x [] c p = tt
path_kept next previous a b x (y ∷ ys) c p =
    (get_or-set_other next a x b 0 c.0 ∙ p.0, get_or-set_other previous b y a 0 c.1 ∙ p.1, path_kept next previous a b y ys c.2 p.2)

pub last_stands : (x : ℕ) (xs : List ℕ) → 1 ≤ times (last_from x xs) (x ∷ xs)
last_stands x [] = let here = times_here x x [] refl in omega arith
last_stands x (y ∷ ys) =
    let rest = last_stands y ys in
    let more = times-append (last_from y ys) (x ∷ []) (y ∷ ys) in
    omega arith

times_fewer : (k x : ℕ) (xs : List ℕ) → times k xs ≤ times k (x ∷ xs)
times_fewer k x xs =
    elim (eqb_tells x k) [
      | inl p ↦ let here = times_here k x xs p.1 in omega arith
      | inr p ↦ let past = times_past k x xs p.1 in omega arith
    ]

-- a path that ends at a, on which no node stands twice
pub clear_to : (b x : ℕ) (xs : List ℕ) → ((k : ℕ) → times k (x ∷ xs) ≤ 1) → times b xs ≡ 0 → IsClear (last_from x xs) b x xs
clear_to b x [] once none = tt
clear_to b x (y ∷ ys) once none =
    let apart = apart_from b y ys none in
    let a = last_from y ys in (
      (λ e. let here = times_here a x (y ∷ ys) e in let more = last_stands y ys in let most = once a in absurd (omega arith)),
      apart.0,
      clear_to b y ys (λ k. let most = once k in let fewer = times_fewer k x (y ∷ ys) in omega arith) apart.1,
    )

-- a path on which a and b do not stand, but at its end a
pub clear_past : (a b x : ℕ) (xs : List ℕ) → times a (x ∷ xs) ≡ 0 → times b xs ≡ 0 → IsClear a b x xs
clear_past a b x [] none none_b = tt
clear_past a b x (y ∷ ys) none none_b =
    let here = apart_from a x (y ∷ ys) none in
    let apart = apart_from b y ys none_b in
    (here.0, apart.0, clear_past a b y ys here.1 apart.1)

pub clear_up_to : (a b x : ℕ) (xs : List ℕ) (z : ℕ) → times a (x ∷ xs) ≡ 0 → times b xs ≡ 0 → (z ≡ b → ⊥) → IsClear a b x (xs ++ z ∷ [])
clear_up_to a b x [] z none none_b far = ((apart_from a x [] none).0, far, tt)
clear_up_to a b x (y ∷ ys) z none none_b far =
    let here = apart_from a x (y ∷ ys) none in
    let apart = apart_from b y ys none_b in
    (here.0, apart.0, clear_up_to a b y ys z here.1 apart.1 far)

not_empty : (y : ℕ) (ys : List ℕ) → y ∷ ys ≡ [] → ⊥
not_empty y ys e = let size = ap (λ (xs : List ℕ). length xs) e in absurd (omega arith)

-- a path from the first of these items to the node at the end
pub clear_rest : (a b : ℕ) (ys : List ℕ) (z : ℕ) → times a ys ≡ 0 → times b ys ≤ 1 → (1 ≤ times b ys → b ≡ first_from ys z) → (z ≡ b → ys ≡ [])
    → IsClear a b (first_from ys z) (rest_from ys z)
clear_rest a b [] z none most first far = tt
clear_rest a b (y ∷ ys) z none most first far =
    clear_up_to a b y ys z none
    (elim (eqb_tells y b) [
      | inl p ↦ let here = times_here b y ys p.1 in omega arith
      | inr p ↦ let past = times_past b y ys p.1 in
          elim (cases_lt 0 (times b (y ∷ ys))) [
            | inl h ↦ absurd (p.1 (sym (first h)))
            | inr h ↦ omega arith
          ]
    ])
    (λ e. not_empty y ys (far e))

-- a walk along a path meets its items
pub walk_is : (next previous : List ℕ) (items most x : ℕ) (xs : List ℕ) (z : ℕ) → IsPath next previous x (xs ++ z ∷ [])
    → ((k : ℕ) → 1 ≤ times k xs → k < items) → items ≤ z → length xs ≤ most → walk next items most x ≡ xs
walk_is next previous items zero x [] z p below far short = refl
walk_is next previous items zero x (y ∷ ys) z p below far short = absurd (omega arith)
walk_is next previous items (suc most) x [] z p below far short =
    let beyond : items ≤ get_or next x 0 = omega (arith, p.0) in
    let test = le-ltb (get_or next x 0) items beyond in
    rw test refl
walk_is next previous items (suc most) x (y ∷ ys) z p below far short =
    let here = times_here y y ys refl in
    let inside : y < items = below y (let h : 1 ≤ times y (y ∷ ys) = omega arith in h) in
    let test = lt-ltb y items inside in
    let rest = walk_is next previous items most y ys z p.2
    (λ k h. below k (let fewer = times_fewer k y ys in let g : 1 ≤ times k (y ∷ ys) = omega arith in g)) far (let s : length ys ≤ most = omega arith in s) in
    rw (p.0, test) (ap (λ (ns : List ℕ). y ∷ ns) rest)

-- the ends in the words of the lists
pub last_is : (x : ℕ) (xs : List ℕ) → last_or (Some x) xs ≡ Some (last_from x xs)
last_is x [] = refl
last_is x (y ∷ ys) = last_is y ys
