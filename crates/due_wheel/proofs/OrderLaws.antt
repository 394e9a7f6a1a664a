-- Lists in ascending order of due number and item.
use Rattle.std.proofs.Common.{◌≡◌, ℕ, ◌+◌, ◌*◌, ◌^◌, ◌<◌, ◌≤◌, inl, inr, ◌==◌, ◌&&◌, nat_lt, not, true, false, List, [], ◌∷◌, ◌++◌, filter, Option, refl, sym, ap, ◌∙◌, arith, ltb-true, ltb-false, eqb-true, true≢false}
use Rattle.std.proofs.lemmas.Bool.{cases_lt, or_cases, or_parts, and_parts, and_cases}
use Rattle.std.proofs.lemmas.Bool.Decides.{eqb_tells}
use Rattle.due_wheel.specs.Due.{is_less}
use Rattle.due_wheel.specs.Rings.{times, Stands}
use Rattle.due_wheel.specs.Ordered.{pair_of, Ascends}
use Rattle.due_wheel.proofs.Times.{times_here, times_past, times-append, times_within, times_other, filter_other, filter_gone}
use Rattle.due_wheel.proofs.Paths.{last_from}

-- pairs as numbers
pub less_true : (d i e j : ℕ) → i < 2 ^ 32 → j < 2 ^ 32 → is_less d i e j ≡ true → d * 2 ^ 32 + i < e * 2 ^ 32 + j
less_true d i e j h k t =
    elim (or_cases (nat_lt d e) (d == e && nat_lt i j) t) [
      | inl p ↦ let less = ltb-true d e p in omega arith
      | inr p ↦ let both = and_parts (d == e) (nat_lt i j) p in
          let same = eqb-true d e both.0 in
          let less = ltb-true i j both.1 in
          omega arith
    ]

pub less_false : (d i e j : ℕ) → i < 2 ^ 32 → j < 2 ^ 32 → is_less d i e j ≡ false → e * 2 ^ 32 + j ≤ d * 2 ^ 32 + i
less_false d i e j h k t =
    let parts = or_parts (nat_lt d e) (d == e && nat_lt i j) t in
    let most = ltb-false d e parts.0 in
    elim (eqb_tells d e) [
      | inl p ↦ let same = p.1 in
          elim (and_cases (d == e) (nat_lt i j) parts.1) [
            | inl q ↦ absurd (true≢false (sym p.0 ∙ q))
            | inr q ↦ let less = ltb-false i j q in omega arith
          ]
      | inr p ↦ let apart = p.1 in omega arith
    ]

pub stands_first : (x : ℕ) (xs : List ℕ) → Stands x (x ∷ xs)
stands_first x xs = let here = times_here x x xs refl in omega arith

pub stands_later : (k x : ℕ) (xs : List ℕ) → Stands k xs → Stands k (x ∷ xs)
stands_later k x xs h = let more = times-append k (x ∷ []) xs in omega arith

-- only the pairs of the items count
pub ascends_same : (dues later : List (Option ℕ)) (xs : List ℕ) → ((k : ℕ) → Stands k xs → pair_of later k ≡ pair_of dues k) → Ascends dues xs → Ascends later xs
ascends_same dues later [] same a = tt
ascends_same dues later (x ∷ xs) same a = (
  (λ other h. let before = a.0 other h in let e = same x (stands_first x xs) in let f = same other (stands_later other x xs h) in omega arith),
  ascends_same dues later xs (λ k h. same k (stands_later k x xs h)) a.1,
)

pub ascends_left : (dues : List (Option ℕ)) (xs ys : List ℕ) → Ascends dues (xs ++ ys) → Ascends dues xs
ascends_left dues [] ys a = tt
ascends_left dues (x ∷ xs) ys a =
    ((λ other h. a.0 other (let sum = times-append other xs ys in let p : 1 ≤ times other (xs ++ ys) = omega arith in p)), ascends_left dues xs ys a.1)

pub ascends_with : (dues : List (Option ℕ)) (before : List ℕ) (item : ℕ) (behind : List ℕ) → Ascends dues (before ++ behind)
    → ((k : ℕ) → Stands k before → pair_of dues k < pair_of dues item) → ((k : ℕ) → Stands k behind → pair_of dues item < pair_of dues k)
    → Ascends dues (before ++ item ∷ behind)
ascends_with dues [] item behind a f g = (g, a)
ascends_with dues (x ∷ before) item behind a f g = (
  (λ other h. elim (eqb_tells item other) [
    | inl p ↦ let less = f x (stands_first x before) in let same = ap (pair_of dues) p.1 in omega arith
    | inr p ↦ let sum = times_within other item before behind in
        let none = times_other other item p.1 in
        a.0 other (let q : 1 ≤ times other (before ++ behind) = omega arith in q)
  ]),
  ascends_with dues before item behind a.1 (λ k h. f k (stands_later k x before h)) g,
)

pub last_greatest : (dues : List (Option ℕ)) (x : ℕ) (xs : List ℕ) → Ascends dues (x ∷ xs) → (k : ℕ) → Stands k (x ∷ xs) → pair_of dues k ≤ pair_of dues (last_from x xs)
last_greatest dues x [] a k h =
    elim (eqb_tells x k) [
      | inl p ↦ let same = ap (pair_of dues) p.1 in omega arith
      | inr p ↦ let none = times_other k x p.1 in absurd (omega arith)
    ]
last_greatest dues x (y ∷ ys) a k h =
    elim (eqb_tells x k) [
      | inl p ↦ let same = ap (pair_of dues) p.1 in
          let less = a.0 y (stands_first y ys) in
          let most = last_greatest dues y ys a.1 y (stands_first y ys) in
          omega arith
      | inr p ↦ let past = times_past k x (y ∷ ys) p.1 in last_greatest dues y ys a.1 k (let q : 1 ≤ times k (y ∷ ys) = omega arith in q)
    ]

pub ascends_out : (dues : List (Option ℕ)) (item : ℕ) (xs : List ℕ) → Ascends dues xs → Ascends dues (filter (λ other. not (other == item)) xs)
ascends_out dues item [] a = tt
ascends_out dues item (x ∷ xs) a =
    let rest = ascends_out dues item xs a.1 in
    elim (eqb_tells x item) [
      | inl p ↦ rw p.0 rest
      | inr p ↦ rw p.0 (
        (λ other h. a.0 other
            (elim (eqb_tells other item) [
              | inl q ↦ let gone = filter_gone item xs in let same = ap (λ (k : ℕ). times k (filter (λ z. not (z == item)) xs)) q.1 in absurd (omega arith)
              | inr q ↦ let same = filter_other item other xs q.1 in let s : 1 ≤ times other xs = omega arith in s
            ])),
        rest,
      )
    ]

pub ascends_once : (dues : List (Option ℕ)) (xs : List ℕ) → Ascends dues xs → (k : ℕ) → times k xs ≤ 1
ascends_once dues [] a k = omega arith
ascends_once dues (x ∷ xs) a k =
    let rest = ascends_once dues xs a.1 k in
    elim (eqb_tells x k) [
      | inl p ↦ let here = times_here k x xs p.1 in
          elim (cases_lt 0 (times k xs)) [
            | inl h ↦ let less = a.0 k h in let same = ap (pair_of dues) p.1 in absurd (omega arith)
            | inr h ↦ omega arith
          ]
      | inr p ↦ let past = times_past k x xs p.1 in omega arith
    ]

-- the last item of a list, taken off
pub last_cut : (x : ℕ) (xs : List ℕ) → (front : List ℕ) × (x ∷ xs ≡ front ++ last_from x xs ∷ [])
last_cut x [] = ([], refl)
last_cut x (y ∷ ys) = let rest = last_cut y ys in (x ∷ rest.0, ap (λ (zs : List ℕ). x ∷ zs) rest.1)
