-- How often an item stands in a list, and in several.
use Rattle.std.proofs.Common.{zero, suc, ◌≡◌, ℕ, ◌+◌, ◌<◌, ◌≤◌, inl, inr, ◌==◌, cond, not, Bool, List, [], ◌∷◌, ◌++◌, length, get_or, set, filter, sum_by, count_by, Contains, refl, sym, ap, subst, ◌∙◌, arith, eq-eqb, ne_eqb, get_or-set_other}
use Rattle.std.specs.List.{range_with_len}
use Rattle.std.proofs.lemmas.Bool.{cases_lt}
use Rattle.std.proofs.lemmas.Bool.Decides.{eqb_tells}
use Rattle.std.proofs.lemmas.List.{length-set, get_or_past}
use Rattle.std.proofs.lemmas.List.Sums.{sum_by-cons, sum_by-set, sum_by-append, get_or-le-sum_by}
use Rattle.due_wheel.specs.Rings.{times}
use Rattle.due_wheel.specs.Lists.{items_of}

-- one element in front
pub times_here : (k x : ℕ) (xs : List ℕ) → x ≡ k → times k (x ∷ xs) ≡ 1 + times k xs
times_here k x xs e = let t = eq-eqb x k e in rw t refl

pub times_past : (k x : ℕ) (xs : List ℕ) → (x ≡ k → ⊥) → times k (x ∷ xs) ≡ times k xs
times_past k x xs f = let t = ne_eqb x k f in let sum : 0 + times k xs ≡ times k xs = omega arith in rw t sum

-- where it does not stand, no element is it
pub apart_from : (k x : ℕ) (xs : List ℕ) → times k (x ∷ xs) ≡ 0 → (x ≡ k → ⊥) × (times k xs ≡ 0)
apart_from k x xs none =
    elim (eqb_tells x k) [
      | inl p ↦ let here = times_here k x xs p.1 in absurd (omega arith)
      | inr p ↦ (p.1, sym (times_past k x xs p.1) ∙ none)
    ]

pub times-append : (k : ℕ) (xs ys : List ℕ) → times k (xs ++ ys) ≡ times k xs + times k ys
times-append k [] ys = let e : times k ys ≡ 0 + times k ys = omega arith in e
times-append k (x ∷ xs) ys =
    let more = times-append k xs ys in
    elim (eqb_tells x k) [
      | inl p ↦ let a = times_here k x (xs ++ ys) p.1 in let b = times_here k x xs p.1 in omega arith
      | inr p ↦ let a = times_past k x (xs ++ ys) p.1 in let b = times_past k x xs p.1 in omega arith
    ]

-- one element within
pub times_within : (k x : ℕ) (xs ys : List ℕ) → times k (xs ++ x ∷ ys) ≡ times k (x ∷ []) + times k (xs ++ ys)
times_within k x xs ys =
    let a = times-append k xs (x ∷ ys) in
    let b = times-append k xs ys in
    elim (eqb_tells x k) [
      | inl p ↦ let c = times_here k x ys p.1 in let d = times_here k x [] p.1 in omega arith
      | inr p ↦ let c = times_past k x ys p.1 in let d = times_past k x [] p.1 in omega arith
    ]

pub times_self : (k : ℕ) → times k (k ∷ []) ≡ 1
times_self k = times_here k k [] refl

pub times_other : (k x : ℕ) → (x ≡ k → ⊥) → times k (x ∷ []) ≡ 0
times_other k x f = times_past k x [] f

-- where it stands
pub found : (k : ℕ) (xs : List ℕ) → 1 ≤ times k xs → (before : List ℕ) × (behind : List ℕ) × (xs ≡ before ++ k ∷ behind)
found k [] some = absurd (omega arith)
found k (x ∷ xs) some =
    elim (eqb_tells x k) [
      | inl p ↦ ([], xs, ap (λ (y : ℕ). y ∷ xs) p.1)
      | inr p ↦ let past = times_past k x xs p.1 in
          let rest = found k xs (let h : 1 ≤ times k xs = omega arith in h) in
          (x ∷ rest.0, rest.1, ap (λ (ys : List ℕ). x ∷ ys) rest.2)
    ]

times_at : (k : ℕ) (xs : List ℕ) (i : ℕ) → i < length xs → get_or xs i k ≡ k → 1 ≤ times k xs
times_at k [] i h e = absurd (omega arith)
times_at k (x ∷ xs) zero h e = let here = times_here k x xs e in omega arith
times_at k (x ∷ xs) (suc i) h e =
    let p : i < length xs = omega arith in
    let rest = times_at k xs i p e in
    omega arith

pub times_contained : (k : ℕ) (xs : List ℕ) → Contains xs k → 1 ≤ times k xs
times_contained k xs c = times_at k xs c.0 c.1 c.2

-- two of several lists
pub two_lists : (k s t : ℕ) (lists : List (List ℕ)) → s < length lists → t < length lists → (t ≡ s → ⊥)
    → times k (items_of lists s) + times k (items_of lists t) ≤ sum_by (times k) lists
two_lists k s t lists h p apart =
    let sum = sum_by-set (times k) lists s [] [] h in
    let inside : t < length (set lists s []) = subst (λ (n : ℕ). t < n) (sym (length-set lists s [])) p in
    let one = get_or-le-sum_by (times k) (set lists s []) t [] inside in
    let same = ap (times k) (get_or-set_other lists s t [] [] apart) in
    omega arith

pub one_list : (k s : ℕ) (lists : List (List ℕ)) → times k (items_of lists s) ≤ sum_by (times k) lists
one_list k s lists =
    elim (cases_lt s (length lists)) [
      | inl h ↦ get_or-le-sum_by (times k) lists s [] h
      | inr h ↦ let none = ap (times k) (get_or_past lists s [] h) in omega arith
    ]

-- a list in which it stands
pub list_of : (k : ℕ) (lists : List (List ℕ)) → 1 ≤ sum_by (times k) lists
    → (s : ℕ) × (s < length lists) × (1 ≤ times k (items_of lists s))
list_of k [] some = absurd (omega arith)
list_of k (xs ∷ lists) some =
    let sum = sum_by-cons (times k) xs lists in
    elim (cases_lt 0 (times k xs)) [
      | inl h ↦ (0, (let p : 0 < length (xs ∷ lists) = omega arith in p), h)
      | inr h ↦ let more : 1 ≤ sum_by (times k) lists = omega arith in
          let rest = list_of k lists more in
          (suc rest.0, (let p : suc rest.0 < length (xs ∷ lists) = omega (arith, rest.1) in p), rest.2)
    ]

-- one list is replaced
pub times_set : (k s : ℕ) (lists : List (List ℕ)) (items : List ℕ) → s < length lists
    → sum_by (times k) (set lists s items) + times k (items_of lists s) ≡ sum_by (times k) lists + times k items
times_set k s lists items h = sum_by-set (times k) lists s items [] h

-- without an item that does not stand in it
pub filter_none : (k : ℕ) (xs : List ℕ) → times k xs ≡ 0 → filter (λ other. not (other == k)) xs ≡ xs
filter_none k [] none = refl
filter_none k (x ∷ xs) none =
    let apart = apart_from k x xs none in
    let test = ne_eqb x k apart.0 in
    rw test (ap (λ (ys : List ℕ). x ∷ ys) (filter_none k xs apart.1))

-- without one that stands between these
pub filter_one : (k : ℕ) (xs ys : List ℕ) → times k xs ≡ 0 → times k ys ≡ 0
    → filter (λ other. not (other == k)) (xs ++ k ∷ ys) ≡ xs ++ ys
filter_one k [] ys none rest = let test = eq-eqb k k refl in rw test (filter_none k ys rest)
filter_one k (x ∷ xs) ys none rest =
    let apart = apart_from k x xs none in
    let test = ne_eqb x k apart.0 in
    rw test (ap (λ (zs : List ℕ). x ∷ zs) (filter_one k xs ys apart.1 rest))

-- No more elements than numbers that pass, where each element is a number below n that passes and none stands twice.
abbrev pub passing : (ℕ → Bool) → ℕ → ℕ
passing test zero = 0
passing test (suc n) = cond (test n) 1 0 + passing test n

without : ℕ → List ℕ → List ℕ
without k = filter (λ other. not (other == k))

times_without : (k j : ℕ) (xs : List ℕ) → (j ≡ k → ⊥) → times j (without k xs) ≡ times j xs
unfolding without
times_without k j [] apart = refl
times_without k j (x ∷ xs) apart =
    let rest = times_without k j xs apart in
    elim (eqb_tells x k) [
      | inl p ↦ let far : x ≡ j → ⊥ = λ e. apart (sym e ∙ p.1) in
          let past = times_past j x xs far in
          rw p.0 (rest ∙ sym past)
      | inr p ↦ elim (eqb_tells x j) [
        | inl q ↦ let a = times_here j x (without k xs) q.1 in let b = times_here j x xs q.1 in
            rw p.0 (let all : times j (x ∷ filter (λ other. not (other == k)) xs) ≡ times j (x ∷ xs) = omega arith in all)
        | inr q ↦ rw p.0 (times_past j x (without k xs) q.1 ∙ rest ∙ sym (times_past j x xs q.1))
      ]
    ]

times_removed : (k : ℕ) (xs : List ℕ) → times k (without k xs) ≡ 0
unfolding without
times_removed k [] = refl
times_removed k (x ∷ xs) =
    elim (eqb_tells x k) [
      | inl p ↦ rw p.0 (times_removed k xs)
      | inr p ↦ rw p.0 (times_past k x (without k xs) p.1 ∙ times_removed k xs)
    ]

length_without : (k : ℕ) (xs : List ℕ) → length xs ≡ times k xs + length (without k xs)
unfolding without
length_without k [] = refl
length_without k (x ∷ xs) =
    let rest = length_without k xs in
    elim (eqb_tells x k) [
      | inl p ↦ let all : suc (length xs) ≡ (1 + times k xs) + length (without k xs) = omega arith in rw p.0 all
      | inr p ↦ let all : suc (length xs) ≡ (0 + times k xs) + suc (length (without k xs)) = omega arith in rw p.0 all
    ]

none_stands : (xs : List ℕ) → ((k : ℕ) → times k xs ≡ 0) → xs ≡ []
none_stands [] f = refl
none_stands (x ∷ xs) f = let here = times_here x x xs refl in let none = f x in absurd (omega arith)

-- at a number below n the test says whether it may stand, and no number from n on stands
pub fits_in : (n : ℕ) (test : ℕ → Bool) (xs : List ℕ)
    → ((k : ℕ) → k < n → times k xs ≤ cond (test k) 1 0) → ((k : ℕ) → n ≤ k → times k xs ≡ 0) → length xs ≤ passing test n
fits_in zero test xs f g = let none = ap (λ (ys : List ℕ). length ys) (none_stands xs (λ k. g k (omega arith))) in omega arith
fits_in (suc n) test xs f g =
    let here = f n (let p : n < suc n = omega arith in p) in
    let all = length_without n xs in
    let rest = fits_in n test (without n xs)
    (λ k h. let far : k ≡ n → ⊥ = λ e. absurd (omega arith) in
    let same = times_without n k xs far in
    let before = f k (let p : k < suc n = omega arith in p) in
    subst (λ (m : ℕ). m ≤ cond (test k) 1 0) (sym same) before)
    (λ k h. elim (eqb_tells k n) [
      | inl p ↦ subst (λ (m : ℕ). times m (without n xs) ≡ 0) (sym p.1) (times_removed n xs)
      | inr p ↦ times_without n k xs p.1 ∙ g k (let q : suc n ≤ k = omega (arith, p.1) in q)
    ]) in
    omega arith

pub filter_other : (k j : ℕ) (xs : List ℕ) → (j ≡ k → ⊥) → times j (filter (λ other. not (other == k)) xs) ≡ times j xs
unfolding without
filter_other k j xs apart = times_without k j xs apart

pub filter_gone : (k : ℕ) (xs : List ℕ) → times k (filter (λ other. not (other == k)) xs) ≡ 0
unfolding without
filter_gone k xs = times_removed k xs

-- an item that stands in a list is one of its elements
pub contains_from : (k : ℕ) (xs : List ℕ) → 1 ≤ times k xs → Contains xs k
contains_from k [] h = absurd (omega arith)
contains_from k (x ∷ xs) h =
    elim (eqb_tells x k) [
      | inl p ↦ (0, (let q : 0 < length (x ∷ xs) = omega arith in q), p.1)
      | inr p ↦ let past = times_past k x xs p.1 in
          let rest = contains_from k xs (let q : 1 ≤ times k xs = omega arith in q) in
          (suc rest.0, (let i = rest.1 in let q : suc rest.0 < length (x ∷ xs) = omega arith in q), rest.2)
    ]

pub range_more : (a n m : ℕ) → a + n ≡ m → range_with_len a (suc n) ≡ range_with_len a n ++ m ∷ []
range_more a zero m e = let same : a ≡ m = omega arith in ap (λ (x : ℕ). x ∷ []) same
range_more a (suc n) m e = ap (λ (v : List ℕ). a ∷ v) (range_more (a + 1) n m (omega arith))

-- so many numbers pass, as a count over them
pub passing_is : (test : ℕ → Bool) (n : ℕ) → passing test n ≡ count_by test (range_with_len 0 n)
passing_is test zero = refl
passing_is test (suc n) =
    let rest = passing_is test n in
    let more = ap (λ (ns : List ℕ). count_by test ns) (range_more 0 n n (let e : 0 + n ≡ n = omega arith in e)) in
    let sum = sum_by-append (λ k. cond (test k) 1 0) (range_with_len 0 n) (n ∷ []) in
    let one = sum_by-cons (λ k. cond (test k) 1 0) n [] in
    omega arith
