-- The rings of the slots where an item is linked in or taken out.
use Rattle.std.proofs.Common.{zero, suc, ◌≡◌, ℕ, ◌+◌, ◌-◌, ◌*◌, ◌^◌, ◌<◌, ◌≤◌, ◌⊎◌, inl, inr, ◌==◌, not, true, List, [], ◌∷◌, ◌++◌, map, length, get_or, set, filter, replicate, sum_by, Option, None, Some, refl, sym, ap, subst, ◌∙◌, arith, append_assoc, get_or-set_other, get_or-set_same, ext_get_or}
use Rattle.std.specs.List.{range_with_len}
use Rattle.std.proofs.lemmas.Bool.{cases_lt}
use Rattle.std.proofs.lemmas.Bool.Decides.{eqb_tells}
use Rattle.std.proofs.lemmas.List.{length-set, length-map, get_or_past, get_or-map, get_or-replicate, length-replicate}
use Rattle.std.proofs.lemmas.List.FromFn.{length-map-range_with_len, get_or-map-range_with_len, length-range_with_len, get_or-range_with_len}
use Rattle.std.proofs.lemmas.List.Folds.{sum_by-replicate}
use Rattle.due_wheel.specs.Due.{due_of}
use Rattle.due_wheel.specs.Lists.{items_of}
use Rattle.due_wheel.specs.Rings.{walk, lists_of, IsPath, times, once_if, AreRings}
use Rattle.due_wheel.proofs.Times.{times_here, times_past, times-append, times_within, times_self, times_other, found, two_lists, one_list, list_of, times_set, filter_none, filter_one, passing, fits_in}
use Rattle.due_wheel.proofs.Paths.{last_from, first_from, rest_from, first_and_rest, path_cut, path_glued, IsClear, path_kept, last_stands, clear_to, clear_past, clear_up_to, clear_rest, walk_is}

once_most : (o : Option ℕ) → once_if o ≤ 1
once_most None = omega arith
once_most (Some due) = omega arith

once_some : (o : Option ℕ) → (o ≡ None → ⊥) → once_if o ≡ 1
once_some None some = absurd (some refl)
once_some (Some due) some = refl

pub none_in : (items k : ℕ) → due_of (replicate items None) k ≡ None
none_in items k =
    elim (cases_lt k items) [
      | inl h ↦ get_or-replicate items k None None h
      | inr h ↦ get_or_past (replicate items None) k None (let none : Option ℕ = None in let len = length-replicate items none in let p : length (replicate items none) ≤ k = omega arith in p)
    ]

pub passing_all : (n : ℕ) → passing (λ k. true) n ≡ n
passing_all zero = refl
passing_all (suc n) = let rest = passing_all n in omega arith

module _ (next previous : List ℕ) (dues : List (Option ℕ)) (lists : List (List ℕ)) (r : AreRings next previous dues lists) where
  -- a node that is no item stands in no list
  pub no_item : (k : ℕ) → length dues ≤ k → sum_by (times k) lists ≡ 0
  no_item k h = r.once k ∙ ap once_if (get_or_past dues k None h)

  pub no_item_in : (k s : ℕ) → length dues ≤ k → times k (items_of lists s) ≡ 0
  no_item_in k s h = let none = no_item k h in let one = one_list k s lists in omega arith

  pub most_once : (k s : ℕ) → times k (items_of lists s) ≤ 1
  most_once k s = let one = one_list k s lists in let all = r.once k in let most = once_most (due_of dues k) in omega arith

  pub is_item : (k s : ℕ) → 1 ≤ times k (items_of lists s) → k < length dues
  is_item k s h =
      elim (cases_lt k (length dues)) [
        | inl p ↦ p
        | inr p ↦ let none = no_item_in k s p in absurd (omega arith)
      ]

  pub short : (s : ℕ) → length (items_of lists s) ≤ length dues
  short s =
      let fits = fits_in (length dues) (λ k. true) (items_of lists s) (λ k h. most_once k s) (λ k h. no_item_in k s h) in
      let all = passing_all (length dues) in
      omega arith

  -- the walks are the lists
  pub lists_are : lists_of next (length dues) ≡ lists
  lists_are =
      let f : ℕ → List ℕ = λ slot. walk next (length dues) (length dues) (length dues + slot) in
      let slots : length next - length dues ≡ length lists = let e = r.next_len in omega arith in
      let len = length-map-range_with_len f 0 (length next - length dues) in
      ext_get_or [] (lists_of next (length dues)) lists (len ∙ slots)
      (λ s h. let within : s < length next - length dues = omega arith in
      let inside : s < length lists = omega arith in
      let at : 0 + s ≡ s = omega arith in
      let beyond : length dues ≤ length dues + s = omega arith in
      get_or-map-range_with_len f 0 (length next - length dues) s s [] within at
      ∙ walk_is next previous (length dues) (length dues) (length dues + s) (items_of lists s) (length dues + s) (r.ring s inside)
      (λ k p. is_item k s p) beyond (short s))

  -- a node of one ring is none of another one
  foreign : (s t k : ℕ) → s < length lists → t < length lists → (t ≡ s → ⊥) → (k ≡ length dues + s) ⊎ (1 ≤ times k (items_of lists s))
      → (length dues + t ≡ k → ⊥) × (times k (items_of lists t) ≡ 0)
  foreign s t k h p apart (inl e) =
      let beyond : length dues ≤ k = omega arith in
      ((λ d. apart (let same : t ≡ s = omega arith in same)), no_item_in k t beyond)
  foreign s t k h p apart (inr stands) =
      let both = two_lists k s t lists h p apart in
      let all = r.once k in
      let most = once_most (due_of dues k) in
      let inside = is_item k s stands in
      ((λ d. absurd (omega arith)), (let none : times k (items_of lists t) ≡ 0 = omega arith in none))

last_among : (z : ℕ) (before : List ℕ) → (last_from z before ≡ z) ⊎ (1 ≤ times (last_from z before) before)
last_among z before =
    let stands = last_stands z before in
    elim (eqb_tells z (last_from z before)) [
      | inl p ↦ inl (sym p.1)
      | inr p ↦ let past = times_past (last_from z before) z before p.1 in inr (let h : 1 ≤ times (last_from z before) before = omega arith in h)
    ]

first_among : (behind : List ℕ) (z : ℕ) → (first_from behind z ≡ z) ⊎ (1 ≤ times (first_from behind z) behind)
first_among [] z = inl refl
first_among (y ∷ ys) z = let here = times_here y y ys refl in inr (let h : 1 ≤ times y (y ∷ ys) = omega arith in h)

first_far : (behind : List ℕ) (z items : ℕ) → ((k : ℕ) → 1 ≤ times k behind → k < items) → items ≤ z → z ≡ first_from behind z → behind ≡ []
first_far [] z items below far e = refl
first_far (y ∷ ys) z items below far e =
    let here = times_here y y ys refl in
    let inside = below y (let h : 1 ≤ times y (y ∷ ys) = omega arith in h) in
    absurd (omega arith)

-- A place in the ring whose node is z: the items before it and those behind it, none of them twice, and all below z.
record IsPlace (items z : ℕ) (before behind : List ℕ) : Type 0 where
  most : (k : ℕ) → times k before + times k behind ≤ 1
  below : (k : ℕ) → 1 ≤ times k before + times k behind → k < items
  beyond : items ≤ z

module _ (items z : ℕ) (before behind : List ℕ) (place : IsPlace items z before behind) where
  none_beyond : (k : ℕ) → items ≤ k → times k before + times k behind ≡ 0
  none_beyond k h =
      elim (cases_lt 0 (times k before + times k behind)) [
        | inl p ↦ let inside = place.below k p in absurd (omega arith)
        | inr p ↦ let e : times k before + times k behind ≡ 0 = omega arith in e
      ]

  once_before : (k : ℕ) → times k (z ∷ before) ≤ 1
  once_before k =
      let most = place.most k in
      elim (eqb_tells z k) [
        | inl p ↦ let here = times_here k z before p.1 in let far : items ≤ k = let b = place.beyond in let e = p.1 in omega arith in
            let none = none_beyond k far in omega arith
        | inr p ↦ let past = times_past k z before p.1 in omega arith
      ]

  first_not_before : times (first_from behind z) before ≡ 0
  first_not_before =
      elim (first_among behind z) [
        | inl e ↦ let far : items ≤ first_from behind z = let b = place.beyond in omega arith in
            let none = none_beyond (first_from behind z) far in
            let n : times (first_from behind z) before ≡ 0 = omega arith in n
        | inr h ↦ let most = place.most (first_from behind z) in let n : times (first_from behind z) before ≡ 0 = omega arith in n
      ]

  last_not_behind : times (last_from z before) behind ≡ 0
  last_not_behind =
      elim (last_among z before) [
        | inl e ↦ let far : items ≤ last_from z before = let b = place.beyond in omega arith in
            let none = none_beyond (last_from z before) far in
            let n : times (last_from z before) behind ≡ 0 = omega arith in n
        | inr h ↦ let most = place.most (last_from z before) in let n : times (last_from z before) behind ≡ 0 = omega arith in n
      ]

  behind_below : (k : ℕ) → 1 ≤ times k behind → k < items
  behind_below k h = place.below k (let p : 1 ≤ times k before + times k behind = omega arith in p)

  clear_first : (a : ℕ) → times a behind ≡ 0 → IsClear a (first_from behind z) (first_from behind z) (rest_from behind z)
  clear_first a none =
      let most = place.most (first_from behind z) in
      clear_rest a (first_from behind z) behind z none (let p : times (first_from behind z) behind ≤ 1 = omega arith in p) (λ h. refl)
      (λ e. first_far behind z items behind_below place.beyond e)

-- an item that stands nowhere is linked in
abbrev pub next_with : List ℕ → ℕ → ℕ → ℕ → List ℕ
next_with next front item first = set (set next front item) item first

abbrev pub previous_with : List ℕ → ℕ → ℕ → ℕ → List ℕ
previous_with previous front item first = set (set previous item front) first item

module _ (next previous : List ℕ) (dues : List (Option ℕ)) (lists : List (List ℕ)) (r : AreRings next previous dues lists)
    (item due slot : ℕ) (before behind : List ℕ) (fresh : due_of dues item ≡ None) (inside : item < length dues) (h : slot < length lists)
    (cut : items_of lists slot ≡ before ++ behind) where
  link_place : IsPlace (length dues) (length dues + slot) before behind
  link_place =
      let all : (k : ℕ) → times k (items_of lists slot) ≡ times k before + times k behind = λ k. ap (times k) cut ∙ times-append k before behind in
      record {
        most = λ k. let most = most_once next previous dues lists r k slot in let e = all k in omega arith;
        below = λ k p. is_item next previous dues lists r k slot (let e = all k in let q : 1 ≤ times k (items_of lists slot) = omega arith in q);
        beyond = omega arith;
      }

  nowhere : (s : ℕ) → times item (items_of lists s) ≡ 0
  nowhere s =
      let none : sum_by (times item) lists ≡ 0 = r.once item ∙ ap once_if fresh in
      let one = one_list item s lists in
      omega arith

  abbrev z : ℕ
  z = length dues + slot

  abbrev front : ℕ
  front = last_from z before

  abbrev first : ℕ
  first = first_from behind z

  link_path : IsPath next previous z before × (get_or next front 0 ≡ first) × (get_or previous first 0 ≡ front) × IsPath next previous first (rest_from behind z)
  link_path =
      let P : List ℕ → Type 0 = λ ns. IsPath next previous z ns in
      path_cut next previous z before first (rest_from behind z)
      (subst P (ap (λ (xs : List ℕ). xs ++ z ∷ []) cut ∙ append_assoc before behind (z ∷ []) ∙ ap (λ (xs : List ℕ). before ++ xs) (first_and_rest behind z)) (r.ring slot h))

  -- where the new item goes
  pub next_is : get_or next front 0 ≡ first
  next_is = link_path.1

  none_of_both : (times item before ≡ 0) × (times item behind ≡ 0)
  none_of_both =
      let none = nowhere slot in
      let sum = ap (times item) cut ∙ times-append item before behind in
      ((let a : times item before ≡ 0 = omega arith in a), (let b : times item behind ≡ 0 = omega arith in b))

  z_apart : z ≡ item → ⊥
  z_apart e = absurd (omega arith)

  front_apart : front ≡ item → ⊥
  front_apart e =
      elim (last_among z before) [
        | inl p ↦ z_apart (sym p ∙ e)
        | inr p ↦ let none = none_of_both.0 in let same = ap (λ (k : ℕ). times k before) e in absurd (omega arith)
      ]

  first_apart : item ≡ first → ⊥
  first_apart e =
      elim (first_among behind z) [
        | inl p ↦ z_apart (sym p ∙ sym e)
        | inr p ↦ let none = none_of_both.1 in let same = ap (λ (k : ℕ). times k behind) (sym e) in absurd (omega arith)
      ]

  pub front_within : front < length next
  front_within =
      let len = r.next_len in
      elim (last_among z before) [
        | inl p ↦ omega arith
        | inr p ↦ let i = link_place.below front (let q : 1 ≤ times front before + times front behind = omega arith in q) in omega arith
      ]

  pub first_within : first < length previous
  first_within =
      let len = r.previous_len in
      elim (first_among behind z) [
        | inl p ↦ omega arith
        | inr p ↦ let i = link_place.below first (let q : 1 ≤ times first before + times first behind = omega arith in q) in omega arith
      ]

  item_within : (item < length next) × (item < length previous)
  item_within = let a = r.next_len in let b = r.previous_len in ((let p : item < length next = omega arith in p), (let p : item < length previous = omega arith in p))

  not_at : (s : ℕ) → times item ((length dues + s) ∷ items_of lists s) ≡ 0
  not_at s =
      let far : length dues + s ≡ item → ⊥ = λ e. absurd (omega arith) in
      times_past item (length dues + s) (items_of lists s) far ∙ nowhere s

  -- both joins leave a path as it is
  kept_twice : (x : ℕ) (xs : List ℕ) → IsClear front item x xs → IsClear item first x xs → IsPath next previous x xs
      → IsPath (next_with next front item first) (previous_with previous front item first) x xs
  kept_twice x xs c d p =
      path_kept (set next front item) (set previous item front) item first x xs d (path_kept next previous front item x xs c p)

  own_ring : IsPath (next_with next front item first) (previous_with previous front item first) z ((before ++ item ∷ behind) ++ z ∷ [])
  own_ring =
      let P : List ℕ → Type 0 = λ ns. IsPath (next_with next front item first) (previous_with previous front item first) z ns in
      let place = link_place in
      let none_before : times item (z ∷ before) ≡ 0 = times_past item z before z_apart ∙ none_of_both.0 in
      let path_before = kept_twice z before
      (clear_to item z before (once_before (length dues) z before behind place) none_of_both.0)
      (clear_past item first z before none_before (first_not_before (length dues) z before behind place))
      link_path.0 in
      let path_behind = kept_twice first (rest_from behind z)
      (clear_rest front item behind z (last_not_behind (length dues) z before behind place)
      (let none = none_of_both.1 in let most : times item behind ≤ 1 = omega arith in most)
      (λ p. let none = none_of_both.1 in absurd (omega arith)) (λ e. absurd (z_apart e)))
      (clear_first (length dues) z before behind place item none_of_both.1)
      link_path.3 in
      let to_item = get_or-set_other (set next front item) item front first 0 front_apart ∙ get_or-set_same next front item 0 front_within in
      let from_item = get_or-set_other (set previous item front) first item item 0 first_apart ∙ get_or-set_same previous item front 0 item_within.1 in
      let to_first = get_or-set_same (set next front item) item first 0 (let len = length-set next front item in let w = item_within.0 in omega arith) in
      let from_first = get_or-set_same (set previous item front) first item 0 (let len = length-set previous item front in let w = first_within in omega arith) in
      subst P
      (sym (append_assoc before (item ∷ behind) (z ∷ []) ∙ ap (λ (xs : List ℕ). before ++ item ∷ xs) (first_and_rest behind z)))
      (path_glued (next_with next front item first) (previous_with previous front item first) z before item (first ∷ rest_from behind z) path_before to_item from_item
      (to_first, from_first, path_behind))

  other_ring : (t : ℕ) → t < length lists → (t ≡ slot → ⊥)
      → IsPath (next_with next front item first) (previous_with previous front item first) (length dues + t) (items_of lists t ++ (length dues + t) ∷ [])
  other_ring t p apart =
      let stands_front : (front ≡ z) ⊎ (1 ≤ times front (items_of lists slot)) =
      elim (last_among z before) [
        | inl e ↦ inl e
        | inr q ↦ inr (let sum = ap (times front) cut ∙ times-append front before behind in let s : 1 ≤ times front (items_of lists slot) = omega arith in s)
      ] in
      let stands_first : (first ≡ z) ⊎ (1 ≤ times first (items_of lists slot)) =
      elim (first_among behind z) [
        | inl e ↦ inl e
        | inr q ↦ inr (let sum = ap (times first) cut ∙ times-append first before behind in let s : 1 ≤ times first (items_of lists slot) = omega arith in s)
      ] in
      let a = foreign next previous dues lists r slot t front h p apart stands_front in
      let b = foreign next previous dues lists r slot t first h p apart stands_first in
      let far : length dues + t ≡ item → ⊥ = λ e. absurd (omega arith) in
      kept_twice (length dues + t) (items_of lists t ++ (length dues + t) ∷ [])
      (clear_up_to front item (length dues + t) (items_of lists t) (length dues + t)
      (times_past front (length dues + t) (items_of lists t) a.0 ∙ a.1) (nowhere t) far)
      (clear_up_to item first (length dues + t) (items_of lists t) (length dues + t) (not_at t) b.1 b.0)
      (r.ring t p)

  once_with : (k : ℕ) → sum_by (times k) (set lists slot (before ++ item ∷ behind)) ≡ once_if (due_of (set dues item (Some due)) k)
  once_with k =
      let sum = times_set k slot lists (before ++ item ∷ behind) h in
      let old = ap (times k) cut in
      let new = times_within k item before behind in
      let all = r.once k in
      elim (eqb_tells item k) [
        | inl p ↦ let one = times_here k item [] p.1 in
            let none = ap once_if fresh in
            let same = ap (λ (j : ℕ). once_if (due_of dues j)) p.1 in
            let now = ap once_if (ap (λ (j : ℕ). get_or (set dues item (Some due)) j None) (sym p.1) ∙ get_or-set_same dues item (Some due) None inside) in
            omega arith
        | inr p ↦ let one = times_other k item p.1 in
            let now = ap once_if (get_or-set_other dues item k (Some due) None (λ e. p.1 (sym e))) in
            omega arith
      ]

  pub rings_with : AreRings (next_with next front item first) (previous_with previous front item first) (set dues item (Some due)) (set lists slot (before ++ item ∷ behind))
  rings_with =
      let a = length-set (set next front item) item first ∙ length-set next front item in
      let b = length-set (set previous item front) first item ∙ length-set previous item front in
      let c = length-set dues item (Some due) in
      let d = length-set lists slot (before ++ item ∷ behind) in
      record {
        next_len = let e = r.next_len in omega arith;
        previous_len = let e = r.previous_len in omega arith;
        few_items = let e = r.few_items in omega arith;
        few_slots = let e = r.few_slots in omega arith;
        ring = λ t p.
            let N : ℕ → Type 0 = λ n. IsPath (next_with next front item first) (previous_with previous front item first) (n + t) (items_of (set lists slot (before ++ item ∷ behind)) t ++ (n + t) ∷ []) in
            let L : List ℕ → Type 0 = λ xs. IsPath (next_with next front item first) (previous_with previous front item first) (length dues + t) (xs ++ (length dues + t) ∷ []) in
            let q : t < length lists = omega arith in
            subst N (sym c)
            (elim (eqb_tells t slot) [
              | inl e ↦ let S : ℕ → Type 0 = λ s. IsPath (next_with next front item first) (previous_with previous front item first) (length dues + s) (items_of (set lists slot (before ++ item ∷ behind)) s ++ (length dues + s) ∷ []) in
                  let M : List ℕ → Type 0 = λ xs. IsPath (next_with next front item first) (previous_with previous front item first) z (xs ++ z ∷ []) in
                  subst S (sym e.1) (subst M (sym (get_or-set_same lists slot (before ++ item ∷ behind) [] h)) own_ring)
              | inr e ↦ subst L (sym (get_or-set_other lists slot t (before ++ item ∷ behind) [] e.1)) (other_ring t q e.1)
            ]);
        once = once_with;
      }

-- the item of a place is taken out
module _ (next previous : List ℕ) (dues : List (Option ℕ)) (lists : List (List ℕ)) (r : AreRings next previous dues lists)
    (item slot : ℕ) (before behind : List ℕ) (h : slot < length lists) (cut : items_of lists slot ≡ before ++ item ∷ behind) where
  all_of : (k : ℕ) → times k (items_of lists slot) ≡ times k (item ∷ []) + (times k before + times k behind)
  all_of k = let sum = times-append k before behind in ap (times k) cut ∙ times_within k item before behind ∙ ap (λ (n : ℕ). times k (item ∷ []) + n) sum

  cut_place : IsPlace (length dues) (length dues + slot) before behind
  cut_place =
      record {
        most = λ k. let most = most_once next previous dues lists r k slot in let e = all_of k in omega arith;
        below = λ k p. is_item next previous dues lists r k slot (let e = all_of k in let q : 1 ≤ times k (items_of lists slot) = omega arith in q);
        beyond = omega arith;
      }

  abbrev out_front : ℕ
  out_front = last_from (length dues + slot) before

  abbrev out_first : ℕ
  out_first = first_from behind (length dues + slot)

  out_paths : IsPath next previous (length dues + slot) before × (get_or next out_front 0 ≡ item) × (get_or previous item 0 ≡ out_front)
      × IsPath next previous item (out_first ∷ rest_from behind (length dues + slot))
  out_paths =
      let P : List ℕ → Type 0 = λ ns. IsPath next previous (length dues + slot) ns in
      path_cut next previous (length dues + slot) before item (out_first ∷ rest_from behind (length dues + slot))
      (subst P
      (ap (λ (xs : List ℕ). xs ++ (length dues + slot) ∷ []) cut ∙ append_assoc before (item ∷ behind) ((length dues + slot) ∷ [])
      ∙ ap (λ (xs : List ℕ). before ++ item ∷ xs) (first_and_rest behind (length dues + slot)))
      (r.ring slot h))

  pub previous_of : get_or previous item 0 ≡ out_front
  previous_of = out_paths.2

  pub next_of : get_or next item 0 ≡ out_first
  next_of = out_paths.3.0

  pub out_within : (out_front < length next) × (out_first < length previous)
  out_within =
      let len = r.next_len in
      let len2 = r.previous_len in (
        elim (last_among (length dues + slot) before) [
          | inl p ↦ omega arith
          | inr p ↦ let i = cut_place.below out_front (let q : 1 ≤ times out_front before + times out_front behind = omega arith in q) in omega arith
        ],
        elim (first_among behind (length dues + slot)) [
          | inl p ↦ omega arith
          | inr p ↦ let i = cut_place.below out_first (let q : 1 ≤ times out_first before + times out_first behind = omega arith in q) in omega arith
        ],
      )

  pub item_there : (item < length dues) × (due_of dues item ≡ None → ⊥)
  item_there =
      let one = times_self item in
      let e = all_of item in
      let stands : 1 ≤ times item (items_of lists slot) = omega arith in (
        is_item next previous dues lists r item slot stands,
        (λ none. let all = r.once item ∙ ap once_if none in let some = one_list item slot lists in absurd (omega arith)),
      )

  gone : (times item before ≡ 0) × (times item behind ≡ 0)
  gone =
      let one = times_self item in
      let e = all_of item in
      let most = most_once next previous dues lists r item slot in
      ((let a : times item before ≡ 0 = omega arith in a), (let b : times item behind ≡ 0 = omega arith in b))

  own_ring_out : IsPath (set next out_front out_first) (set previous out_first out_front) (length dues + slot) ((before ++ behind) ++ (length dues + slot) ∷ [])
  own_ring_out =
      let P : List ℕ → Type 0 = λ ns. IsPath (set next out_front out_first) (set previous out_first out_front) (length dues + slot) ns in
      let place = cut_place in
      let path_before = path_kept next previous out_front out_first (length dues + slot) before
      (clear_to out_first (length dues + slot) before (once_before (length dues) (length dues + slot) before behind place) (first_not_before (length dues) (length dues + slot) before behind place))
      out_paths.0 in
      let path_behind = path_kept next previous out_front out_first out_first (rest_from behind (length dues + slot))
      (clear_first (length dues) (length dues + slot) before behind place out_front (last_not_behind (length dues) (length dues + slot) before behind place))
      out_paths.3.2 in
      subst P
      (sym (append_assoc before behind ((length dues + slot) ∷ []) ∙ ap (λ (xs : List ℕ). before ++ xs) (first_and_rest behind (length dues + slot))))
      (path_glued (set next out_front out_first) (set previous out_first out_front) (length dues + slot) before out_first (rest_from behind (length dues + slot)) path_before
      (get_or-set_same next out_front out_first 0 out_within.0) (get_or-set_same previous out_first out_front 0 out_within.1) path_behind)

  other_ring_out : (t : ℕ) → t < length lists → (t ≡ slot → ⊥)
      → IsPath (set next out_front out_first) (set previous out_first out_front) (length dues + t) (items_of lists t ++ (length dues + t) ∷ [])
  other_ring_out t p apart =
      let stands_front : (out_front ≡ length dues + slot) ⊎ (1 ≤ times out_front (items_of lists slot)) =
      elim (last_among (length dues + slot) before) [
        | inl e ↦ inl e
        | inr q ↦ inr (let sum = all_of out_front in let s : 1 ≤ times out_front (items_of lists slot) = omega arith in s)
      ] in
      let stands_first : (out_first ≡ length dues + slot) ⊎ (1 ≤ times out_first (items_of lists slot)) =
      elim (first_among behind (length dues + slot)) [
        | inl e ↦ inl e
        | inr q ↦ inr (let sum = all_of out_first in let s : 1 ≤ times out_first (items_of lists slot) = omega arith in s)
      ] in
      let a = foreign next previous dues lists r slot t out_front h p apart stands_front in
      let b = foreign next previous dues lists r slot t out_first h p apart stands_first in
      path_kept next previous out_front out_first (length dues + t) (items_of lists t ++ (length dues + t) ∷ [])
      (clear_up_to out_front out_first (length dues + t) (items_of lists t) (length dues + t)
      (times_past out_front (length dues + t) (items_of lists t) a.0 ∙ a.1) b.1 b.0)
      (r.ring t p)

  once_out : (k : ℕ) → sum_by (times k) (set lists slot (before ++ behind)) ≡ once_if (due_of (set dues item None) k)
  once_out k =
      let sum = times_set k slot lists (before ++ behind) h in
      let old = all_of k in
      let new = times-append k before behind in
      let all = r.once k in
      elim (eqb_tells item k) [
        | inl p ↦ let one = times_here k item [] p.1 in
            let most = once_most (due_of dues k) in
            let now = ap once_if (ap (λ (j : ℕ). get_or (set dues item None) j None) (sym p.1) ∙ get_or-set_same dues item None None item_there.0) in
            omega arith
        | inr p ↦ let one = times_other k item p.1 in
            let now = ap once_if (get_or-set_other dues item k None None (λ e. p.1 (sym e))) in
            omega arith
      ]

  pub rings_out : AreRings (set next out_front out_first) (set previous out_first out_front) (set dues item None) (set lists slot (before ++ behind))
  rings_out =
      let a = length-set next out_front out_first in
      let b = length-set previous out_first out_front in
      let c = length-set dues item None in
      let d = length-set lists slot (before ++ behind) in
      record {
        next_len = let e = r.next_len in omega arith;
        previous_len = let e = r.previous_len in omega arith;
        few_items = let e = r.few_items in omega arith;
        few_slots = let e = r.few_slots in omega arith;
        ring = λ t p.
            let N : ℕ → Type 0 = λ n. IsPath (set next out_front out_first) (set previous out_first out_front) (n + t) (items_of (set lists slot (before ++ behind)) t ++ (n + t) ∷ []) in
            let L : List ℕ → Type 0 = λ xs. IsPath (set next out_front out_first) (set previous out_first out_front) (length dues + t) (xs ++ (length dues + t) ∷ []) in
            let q : t < length lists = omega arith in
            subst N (sym c)
            (elim (eqb_tells t slot) [
              | inl e ↦ let S : ℕ → Type 0 = λ s. IsPath (set next out_front out_first) (set previous out_first out_front) (length dues + s) (items_of (set lists slot (before ++ behind)) s ++ (length dues + s) ∷ []) in
                  let M : List ℕ → Type 0 = λ xs. IsPath (set next out_front out_first) (set previous out_first out_front) (length dues + slot) (xs ++ (length dues + slot) ∷ []) in
                  subst S (sym e.1) (subst M (sym (get_or-set_same lists slot (before ++ behind) [] h)) own_ring_out)
              | inr e ↦ subst L (sym (get_or-set_other lists slot t (before ++ behind) [] e.1)) (other_ring_out t q e.1)
            ]);
        once = once_out;
      }

  -- in the words of the contract
  pub filtered : set lists slot (before ++ behind) ≡ map (filter (λ other. not (other == item))) lists
  filtered =
      let f : List ℕ → List ℕ = filter (λ other. not (other == item)) in
      ext_get_or [] (set lists slot (before ++ behind)) (map f lists) (length-set lists slot (before ++ behind) ∙ sym (length-map lists f))
      (λ t p.
      let q : t < length lists = let e = length-set lists slot (before ++ behind) in omega arith in
      elim (eqb_tells t slot) [
        | inl e ↦ ap (λ (s : ℕ). get_or (set lists slot (before ++ behind)) s []) e.1 ∙ get_or-set_same lists slot (before ++ behind) [] h
            ∙ sym (filter_one item before behind gone.0 gone.1) ∙ ap f (sym cut) ∙ ap (λ (s : ℕ). f (items_of lists s)) (sym e.1) ∙ sym (get_or-map f lists t [] [] q)
        | inr e ↦ get_or-set_other lists slot t (before ++ behind) [] e.1
            ∙ sym (filter_none item (items_of lists t)
            (let both = two_lists item slot t lists h q e.1 in
            let all = r.once item in
            let most = once_most (due_of dues item) in
            let here = all_of item in
            let one = times_self item in
            let none : times item (items_of lists t) ≡ 0 = omega arith in none))
            ∙ sym (get_or-map f lists t [] [] q)
      ])

-- a place at which a linked item stands
pub place_found : (next previous : List ℕ) (dues : List (Option ℕ)) (lists : List (List ℕ)) → AreRings next previous dues lists → (item : ℕ)
    → (due_of dues item ≡ None → ⊥) → (slot : ℕ) × (slot < length lists) × (before : List ℕ) × (behind : List ℕ) × (items_of lists slot ≡ before ++ item ∷ behind)
place_found next previous dues lists r item some =
    let stands : 1 ≤ sum_by (times item) lists = let e = r.once item in let h = once_some (due_of dues item) some in omega arith in
    let list = list_of item lists stands in
    let at = found item (items_of lists list.0) list.2 in
    (list.0, list.1, at.0, at.1, at.2)

-- no list has an item at first
pub rings_new : (items slots : ℕ) (next : List ℕ) → items < 2 ^ 32 → slots < 2 ^ 32 → next ≡ range_with_len 0 (items + slots)
    → AreRings next next (replicate items None) (replicate slots [])
rings_new items slots next few few_slots e =
    let len = ap (λ (ns : List ℕ). length ns) e ∙ length-range_with_len 0 (items + slots) in
    let none : Option ℕ = None in
    let nil : List ℕ = [] in
    let a = length-replicate items none in
    let b = length-replicate slots nil in
    record {
      next_len = omega arith;
      previous_len = omega arith;
      few_items = omega arith;
      few_slots = omega arith;
      ring = λ t p.
          let h : t < slots = omega arith in
          let node = length (replicate items none) + t in
          let within : node < items + slots = omega arith in
          let P : List ℕ → Type 0 = λ xs. IsPath next next node (xs ++ node ∷ []) in
          let own : get_or next node 0 ≡ node = ap (λ (ns : List ℕ). get_or ns node 0) e ∙ get_or-range_with_len 0 (items + slots) node 0 within ∙ (let z : 0 + node ≡ node = omega arith in z) in
          subst P (sym (get_or-replicate slots t nil nil h)) (own, own, tt);
      once = λ k. sum_by-replicate (times k) slots [] ∙ (let z : slots * 0 ≡ 0 = omega arith in z) ∙ sym (ap once_if (none_in items k));
    }
