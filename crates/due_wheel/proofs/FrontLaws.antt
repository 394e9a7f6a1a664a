-- The first item of a bucket, and the place of a new item.
use Rattle.std.proofs.Common.{◌≡◌, ℕ, ◌+◌, ◌*◌, ◌%◌, ◌^◌, ◌≤◌, inl, inr, ◌&&◌, Bool, true, false, List, [], ◌∷◌, ◌++◌, length, Option, None, Some, is_some, IsSome, IfSome, IfNone, Contains, unwrap_or, refl, sym, ap, subst, ◌∙◌, arith, append-nil, append_assoc, true≢false}
use Rattle.std.specs.List.{last_or}
use Rattle.std.proofs.lemmas.Bool.Decides.{eqb_tells}
use Rattle.due_wheel.specs.Due.{DueMap, due_of, is_less}
use Rattle.due_wheel.specs.Lists.{LinkedLists, items_of, first_of, last_of, end_of, beside_of}
use Rattle.due_wheel.specs.Rings.{times, Stands}
use Rattle.due_wheel.specs.Ordered.{Ascends, AreBuckets, IsPlaceOf}
use Rattle.due_wheel.specs.Fronts.{IsFront, HasNone}
use Rattle.due_wheel.proofs.Times.{times_here, times_past, times-append, contains_from}
use Rattle.due_wheel.proofs.Paths.{last_from, last_is}
use Rattle.due_wheel.proofs.OrderLaws.{stands_first, last_cut}
use Rattle.due_wheel.proofs.BucketLaws.{is_below, not_both, some_same}

abbrev pub seen : LinkedLists → ℕ → ℕ → DueMap
seen links slots floor = record { dues = links.dues; slots = slots; floor = floor }

no_first : (items : List ℕ) → first_of items ≡ None → items ≡ []
no_first [] e = refl
no_first (x ∷ xs) e = absurd (true≢false (ap (λ (o : Option ℕ). is_some o) e))

first_cut : (items : List ℕ) (item : ℕ) → first_of items ≡ Some item → (rest : List ℕ) × (items ≡ item ∷ rest)
first_cut [] item e = absurd (true≢false (sym (ap (λ (o : Option ℕ). is_some o) e)))
first_cut (x ∷ xs) item e = (xs, ap (λ (y : ℕ). y ∷ xs) (some_same x item (Some x) refl e))

module _ (links : LinkedLists) (slots count floor : ℕ) (b : AreBuckets links slots count floor) (slot : ℕ) where
  pub no_front : first_of (items_of links.lists slot) ≡ None → HasNone (seen links slots floor) slot
  no_front e = λ other later is here.
      let stands = b.listed other later is in
      let empty = ap (times other) (ap (λ (s : ℕ). items_of links.lists s) here ∙ no_first (items_of links.lists slot) e) in
      absurd (omega arith)

  front_stands : (item : ℕ) → first_of (items_of links.lists slot) ≡ Some item → Stands item (items_of links.lists slot)
  front_stands item e =
      let cut = first_cut (items_of links.lists slot) item e in
      let same = ap (times item) cut.1 in
      let here = stands_first item cut.0 in
      omega arith

  pub front_due : (item : ℕ) → first_of (items_of links.lists slot) ≡ Some item → due_of links.dues item ≡ None → ⊥
  front_due item e none = let d = b.due_in slot item (front_stands item e) in not_both (due_of links.dues item) d.0 none d.1

  least_pair : (item due : ℕ) → first_of (items_of links.lists slot) ≡ Some item → due_of links.dues item ≡ Some due
      → (other later : ℕ) → due_of links.dues other ≡ Some later → later % slots ≡ slot → due * 2 ^ 32 + item ≤ later * 2 ^ 32 + other
  least_pair item due e is other later at here =
      let cut = first_cut (items_of links.lists slot) item e in
      let A : List ℕ → Type 0 = λ xs. Ascends links.dues xs in
      let ascending = subst A cut.1 (b.ascends slot) in
      let stands : Stands other (items_of links.lists slot) =
      let S : ℕ → Type 0 = λ s. Stands other (items_of links.lists s) in subst S here (b.listed other later at) in
      elim (eqb_tells item other) [
        | inl p ↦ let same = some_same due later (due_of links.dues other) (ap (λ (j : ℕ). due_of links.dues j) (sym p.1) ∙ is) at in
            let q = p.1 in omega arith
        | inr p ↦ let all = ap (times other) cut.1 in
            let past = times_past other item cut.0 p.1 in
            let less = ascending.0 other (let q : 1 ≤ times other cut.0 = omega arith in q) in
            let x = ap (λ (o : Option ℕ). unwrap_or o 0 * 2 ^ 32 + item) is in
            let y = ap (λ (o : Option ℕ). unwrap_or o 0 * 2 ^ 32 + other) at in
            omega arith
      ]

  pub front_is : (item due : ℕ) → first_of (items_of links.lists slot) ≡ Some item → due_of links.dues item ≡ Some due → IsFront (seen links slots floor) slot item due
  front_is item due e is =
      let d = b.due_in slot item (front_stands item e) in
      let here : due % slots ≡ slot = ap (λ (n : ℕ). n % slots) (some_same due d.0 (due_of links.dues item) is d.1) ∙ d.2 in
      record {
        is_in = is;
        here = here;
        least = λ other later at h. let pair = least_pair item due e is other later at h in
            let few = b.few in let i = is_below links.dues other later at in omega arith;
        tie = λ other at. let pair = least_pair item due e is other due at here in omega arith;
      }

-- The items behind this one were passed, so many looks ago.
pub record IsPassing (dues : List (Option ℕ)) (items : List ℕ) (due item : ℕ) (at : Option ℕ) (looks : ℕ) : Type 0 where
  pub before : List ℕ
  pub behind : List ℕ
  pub whole : items ≡ before ++ behind
  pub last : last_of before ≡ at
  pub greater : (other : ℕ) → Stands other behind → is_less (unwrap_or (due_of dues other) 0) other due item ≡ false
  pub cost : looks ≡ 1 + length behind

pub passing_none : (dues : List (Option ℕ)) (items : List ℕ) (due item : ℕ) (at : Option ℕ) (looks : ℕ) → at ≡ end_of true items → looks ≡ 1 → IsPassing dues items due item at looks
passing_none dues items due item at looks e l = record {
  before = items;
  behind = [];
  whole = sym (append-nil items);
  last = sym e;
  greater = λ other h. absurd (omega arith);
  cost = l;
}

last_found : (xs : List ℕ) (y : ℕ) → last_of xs ≡ Some y → (front : List ℕ) × (xs ≡ front ++ y ∷ [])
last_found [] y e = absurd (true≢false (sym (ap (λ (o : Option ℕ). is_some o) e)))
last_found (x ∷ xs) y e =
    let cut = last_cut x xs in
    let same = some_same (last_from x xs) y (last_or (Some x) xs) (last_is x xs) e in
    (cut.0, cut.1 ∙ ap (λ (z : ℕ). cut.0 ++ z ∷ []) same)

-- the item of a place stands in the list
pub passing_stands : (dues : List (Option ℕ)) (items : List ℕ) (due item other looks : ℕ) → IsPassing dues items due item (Some other) looks → Stands other items
passing_stands dues items due item other looks p =
    let cut = last_found p.before other p.last in
    let a = ap (times other) p.whole ∙ times-append other p.before p.behind in
    let c = ap (times other) cut.1 ∙ times-append other cut.0 (other ∷ []) in
    let one = times_here other other [] refl in
    omega arith

not_less : (o : Option ℕ) (t : Bool) → IsSome o → (is_some o && t) ≡ false → t ≡ false
not_less None t s e = absurd (true≢false (sym s))
not_less (Some d) t s e = e

pub passing_more : (dues : List (Option ℕ)) (items : List ℕ) (due item other looks : ℕ) (next : Option ℕ) → IsPassing dues items due item (Some other) looks
    → IsSome (due_of dues other) → (is_some (due_of dues other) && is_less (unwrap_or (due_of dues other) 0) other due item) ≡ false
    → ((before behind : List ℕ) → items ≡ before ++ other ∷ behind → next ≡ beside_of true before behind)
    → IsPassing dues items due item next (looks + 1)
passing_more dues items due item other looks next p some t beside =
    let cut = last_found p.before other p.last in
    let whole : items ≡ cut.0 ++ other ∷ p.behind = p.whole ∙ ap (λ (xs : List ℕ). xs ++ p.behind) cut.1 ∙ append_assoc cut.0 (other ∷ []) p.behind in
    record {
      before = cut.0;
      behind = other ∷ p.behind;
      whole = whole;
      last = sym (beside cut.0 p.behind whole);
      greater = λ k h. elim (eqb_tells other k) [
        | inl e ↦ ap (λ (j : ℕ). is_less (unwrap_or (due_of dues j) 0) j due item) (sym e.1) ∙ not_less (due_of dues other) _ some t
        | inr e ↦ p.greater k (let past = times_past k other p.behind e.1 in let q : 1 ≤ times k p.behind = omega arith in q)
      ];
      cost = let c = p.cost in omega arith;
    }

less_yes : (o : Option ℕ) (t : Bool) → (is_some o && t) ≡ true → t ≡ true
less_yes None t e = absurd (true≢false (sym e))
less_yes (Some d) t e = e

pub passing_done : (dues : List (Option ℕ)) (items : List ℕ) (due item other looks : ℕ) → IsPassing dues items due item (Some other) looks
    → (is_some (due_of dues other) && is_less (unwrap_or (due_of dues other) 0) other due item) ≡ true → IsPlaceOf dues items due item (Some other) looks
passing_done dues items due item other looks p t = record {
  before = p.before;
  behind = p.behind;
  whole = p.whole;
  last = p.last;
  greater = p.greater;
  lesser = λ k e. let same = some_same other k (Some other) refl e in
      ap (λ (j : ℕ). is_less (unwrap_or (due_of dues j) 0) j due item) (sym same) ∙ less_yes (due_of dues other) _ t;
  cost = p.cost;
}

pub passing_all : (dues : List (Option ℕ)) (items : List ℕ) (due item looks : ℕ) → IsPassing dues items due item None looks → IsPlaceOf dues items due item None looks
passing_all dues items due item looks p = record {
  before = p.before;
  behind = p.behind;
  whole = p.whole;
  last = p.last;
  greater = p.greater;
  lesser = λ k e. absurd (not_both None k refl e);
  cost = p.cost;
}

-- the item of a place is an element of the list
pub place_contains : (dues : List (Option ℕ)) (items : List ℕ) (due item looks : ℕ) (after : Option ℕ) → IsPlaceOf dues items due item after looks → IfSome after (Contains items)
place_contains dues items due item looks None p = tt
place_contains dues items due item looks (Some a) p =
    let cut = last_found p.before a p.last in
    let e = ap (times a) p.whole ∙ times-append a p.before p.behind in
    let c = ap (times a) cut.1 ∙ times-append a cut.0 (a ∷ []) in
    let one = times_here a a [] refl in
    contains_from a items (omega arith)

pub if_none : {P : Type 0} (o : Option (ℕ × ℕ)) → P → IfNone o P
if_none None p = p
if_none (Some x) p = tt
