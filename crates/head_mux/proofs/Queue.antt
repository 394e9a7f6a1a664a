-- The wheel that has each due number of a list.
use Rattle.std.proofs.Common.{zero, suc, ◌≡◌, ℕ, ◌+◌, ◌-◌, ◌<◌, ◌≤◌, inl, inr, max, List, [], ◌∷◌, ◌++◌, map, length, get_or, set, replicate, Option, None, Some, is_some, IsSome, unwrap_or, refl, sym, ap, subst, ◌∙◌, arith, set-set, append_assoc, append-nil, length-append}
use Rattle.std.specs.List.{range_with_len}
use Rattle.std.proofs.lemmas.Bool.{cases_lt}
use Rattle.std.proofs.lemmas.List.{length-map, get_or-map, map-set, map-append, get_or-append_right, get_or-replicate, set-append_right, length-replicate}
use Rattle.std.proofs.lemmas.List.FromFn.{length-range_with_len}
use Rattle.ts_section.specs.TimedSection.{TimedSection}
use Rattle.due_wheel.specs.Due.{due_of, IsLeast}
use Rattle.due_wheel.proofs.BucketLaws.{is_below}
use Rattle.head_mux.specs.Sent.{section_at, next_index, dues_before, greatest_period}
use Rattle.head_mux.proofs.Least.{is_next}
use Rattle.head_mux.proofs.Order.{range-more, length_dues, dues_next}

abbrev None_of : Option ℕ
None_of = None

abbrev pub all_in : List ℕ → List (Option ℕ)
all_in dues = map (λ due. Some due) dues

due_at : (dues : List ℕ) (k : ℕ) → k < length dues → due_of (all_in dues) k ≡ Some (get_or dues k 0)
due_at dues k h = get_or-map (λ due. Some due) dues k 0 None h

same_due : (a b : ℕ) (o : Option ℕ) → o ≡ Some a → o ≡ Some b → a ≡ b
same_due a b o e f = ap (λ (p : Option ℕ). unwrap_or p 0) (sym e ∙ f)

pub first_in : (dues : List ℕ) → 1 ≤ length dues → IsSome (due_of (all_in dues) 0)
first_in dues h = ap (λ (o : Option ℕ). is_some o) (due_at dues 0 h)

pub taken_within : (dues : List ℕ) (item due : ℕ) → IsLeast (all_in dues) item due → item < length dues
taken_within dues item due l = let i = is_below (all_in dues) item due l.is_in in let len = length-map dues (λ (d : ℕ). Some d) in omega arith

-- the least pair is that of the section that is sent next
pub taken_next : (dues : List ℕ) (item due : ℕ) → IsLeast (all_in dues) item due → item ≡ next_index dues
taken_next dues item due l =
    let h = taken_within dues item due l in
    let own = same_due due (get_or dues item 0) (due_of (all_in dues) item) l.is_in (due_at dues item h) in
    is_next dues item h
    (λ k p. let least = l.least k (get_or dues k 0) (due_at dues k p) in omega arith)
    (λ k p. let q : k < length dues = omega arith in
    let least = l.least k (get_or dues k 0) (due_at dues k q) in
    elim (cases_lt due (get_or dues k 0)) [
      | inl r ↦ omega arith
      | inr r ↦ let same : get_or dues k 0 ≡ due = omega arith in
          let tie = l.tie k (due_at dues k q ∙ ap (λ (n : ℕ). Some n) same) in
          absurd (omega arith)
    ])

-- it is put back
pub put_back : (dues : List ℕ) (item new : ℕ) → set (set (all_in dues) item None) item (Some new) ≡ all_in (set dues item new)
put_back dues item new = set-set (all_in dues) item None (Some new) ∙ sym (map-set (λ due. Some due) dues item new)

-- what a turn takes
pub first_due : (list : List TimedSection) (t : ℕ) (dues : List (Option ℕ)) → dues ≡ all_in (dues_before list t) → 1 ≤ length list → IsSome (due_of dues 0)
first_due list t dues e h =
    let D : List (Option ℕ) → Type 0 = λ v. IsSome (due_of v 0) in
    subst D (sym e) (first_in (dues_before list t) (let len = length_dues list t in let p : 1 ≤ length (dues_before list t) = omega arith in p))

pub taken_of : (list : List TimedSection) (t : ℕ) (dues : List (Option ℕ)) (item : ℕ) → dues ≡ all_in (dues_before list t) → (due : ℕ) × IsLeast dues item due → item < length list
taken_of list t dues item e l =
    let L : List (Option ℕ) → Type 0 = λ v. IsLeast v item l.0 in
    let inside = taken_within (dues_before list t) item l.0 (subst L e l.1) in
    let len = length_dues list t in
    omega arith

pub next_of_turn : (list : List TimedSection) (t : ℕ) (dues : List (Option ℕ)) (item : ℕ) → dues ≡ all_in (dues_before list t) → (due : ℕ) × IsLeast dues item due
    → item ≡ next_index (dues_before list t)
next_of_turn list t dues item e l =
    let L : List (Option ℕ) → Type 0 = λ v. IsLeast v item l.0 in
    taken_next (dues_before list t) item l.0 (subst L e l.1)

-- a turn that took this index and put it back
pub turn_dues : (list : List TimedSection) (t item period : ℕ) (before taken later : List (Option ℕ)) → before ≡ all_in (dues_before list t)
    → item ≡ next_index (dues_before list t) → taken ≡ set before item None → period ≡ (section_at list (next_index (dues_before list t))).period
    → later ≡ set taken item (Some (t + period)) → later ≡ all_in (dues_before list (t + 1))
turn_dues list t item period before taken later e i f p g =
    g ∙ ap (λ (v : List (Option ℕ)). set v item (Some (t + period))) (f ∙ ap (λ (v : List (Option ℕ)). set v item None) e)
    ∙ put_back (dues_before list t) item (t + period)
    ∙ ap (λ (n : ℕ). all_in (set (dues_before list t) n (t + period))) i
    ∙ ap (λ (n : ℕ). all_in (set (dues_before list t) (next_index (dues_before list t)) (t + n))) p
    ∙ ap all_in (sym (dues_next list t))

-- so many indices are in, and the others are not
abbrev pub partly_in : ℕ → ℕ → List (Option ℕ)
partly_in items n = all_in (range_with_len 0 n) ++ replicate (items - n) None

length_in : (n : ℕ) → length (all_in (range_with_len 0 n)) ≡ n
length_in n = length-map (range_with_len 0 n) (λ (d : ℕ). Some d) ∙ length-range_with_len 0 n

rest_of : (m : ℕ) → 0 < m → replicate m (None_of) ≡ None_of ∷ replicate (m - 1) None_of
rest_of zero h = absurd (omega arith)
rest_of (suc m) h = ap (λ (k : ℕ). None_of ∷ replicate k None_of) (let e : m ≡ suc m - 1 = omega arith in e)

pub partly_none : (items : ℕ) (dues : List (Option ℕ)) → dues ≡ replicate items None → dues ≡ partly_in items 0
partly_none items dues e = e ∙ ap (λ (k : ℕ). replicate k None_of) (let z : items ≡ items - 0 = omega arith in z)

pub partly_len : (items n : ℕ) → n ≤ items → length (partly_in items n) ≡ items
partly_len items n h =
    let a = length-append (all_in (range_with_len 0 n)) (replicate (items - n) None_of) in
    let b = length_in n in
    let c = length-replicate (items - n) None_of in
    omega arith

pub partly_not_in : (items n : ℕ) → n < items → due_of (partly_in items n) n ≡ None
partly_not_in items n h =
    get_or-append_right (all_in (range_with_len 0 n)) (replicate (items - n) None_of) n n None (length_in n) (omega arith)
    ∙ get_or-replicate (items - n) (n - n) None_of None (omega arith)

pub partly_more : (items n : ℕ) → n < items → set (partly_in items n) n (Some n) ≡ partly_in items (n + 1)
partly_more items n h =
    let range : range_with_len 0 (n + 1) ≡ range_with_len 0 n ++ n ∷ [] =
    ap (range_with_len 0) (let e : n + 1 ≡ suc n = omega arith in e) ∙ range-more 0 n n (let e : 0 + n ≡ n = omega arith in e) in
    set-append_right (all_in (range_with_len 0 n)) (replicate (items - n) None_of) n n (Some n) (length_in n) (omega arith)
    ∙ ap (λ (k : ℕ). all_in (range_with_len 0 n) ++ set (replicate (items - n) None_of) k (Some n)) (let e : n - n ≡ 0 = omega arith in e)
    ∙ ap (λ (v : List (Option ℕ)). all_in (range_with_len 0 n) ++ set v 0 (Some n)) (rest_of (items - n) (omega arith))
    ∙ sym (append_assoc (all_in (range_with_len 0 n)) (Some n ∷ []) (replicate (items - n - 1) None_of))
    ∙ ap (λ (v : List (Option ℕ)). v ++ replicate (items - n - 1) None_of) (sym (ap all_in range ∙ map-append (λ (d : ℕ). Some d) (range_with_len 0 n) (n ∷ [])))
    ∙ ap (λ (k : ℕ). all_in (range_with_len 0 (n + 1)) ++ replicate k None_of) (let e : items - n - 1 ≡ items - (n + 1) = omega arith in e)

pub partly_all : (items n : ℕ) (dues : List (Option ℕ)) → dues ≡ partly_in items n → n ≡ items → dues ≡ all_in (range_with_len 0 items)
partly_all items n dues e same =
    e ∙ ap (λ (k : ℕ). partly_in items k) same
    ∙ ap (λ (k : ℕ). all_in (range_with_len 0 items) ++ replicate k None_of) (let z : items - items ≡ 0 = omega arith in z)
    ∙ append-nil (all_in (range_with_len 0 items))

-- the greatest period of one section more
pub greatest_more : (list : List TimedSection) (section : TimedSection) → greatest_period (list ++ section ∷ []) ≡ max section.period (greatest_period list)
greatest_more [] section = refl
greatest_more (first ∷ list) section = let rest = greatest_more list section in omega arith
