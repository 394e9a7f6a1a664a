-- The laws of the rings in the words of the contracts.
use Rattle.std.proofs.Common.{◌≡◌, ℕ, ◌+◌, ◌^◌, ◌<◌, ◌≤◌, inl, inr, if◌then◌else◌, not, ◌==◌, Bool, true, false, List, [], ◌∷◌, ◌++◌, map, length, get_or, set, filter, replicate, Contains, Option, None, Some, IfSome, IsSome, is_some, true≢false, unwrap_or, slice_get, refl, sym, ap, subst, ◌∙◌, arith, append_assoc, lt-ltb, le-ltb}
use Rattle.std.specs.List.{last_or, range_with_len}
use Rattle.std.proofs.lemmas.Bool.{cases_lt}
use Rattle.std.proofs.lemmas.List.{get_or_past, get_or_default}
use Rattle.due_wheel.specs.Due.{due_of}
use Rattle.due_wheel.specs.Lists.{LinkedLists, items_of, last_of, end_of, beside_of}
use Rattle.due_wheel.specs.Rings.{lists_of, item_of, IsPath, times, AreRings}
use Rattle.due_wheel.proofs.Times.{times_here, times-append, found, times_contained}
use Rattle.due_wheel.proofs.Paths.{last_from, first_from, first_and_rest, path_cut, last_stands, last_is}
use Rattle.due_wheel.proofs.RingLaws.{is_item, lists_are, next_is, rings_with, front_within, first_within, next_with, previous_with, previous_of, next_of, out_within, item_there, rings_out, filtered, place_found, rings_new}

item_first : (items z : ℕ) (list : List ℕ) → ((k : ℕ) → 1 ≤ times k list → k < items) → items ≤ z → item_of items (first_from list z) ≡ slice_get list 0
item_first items z [] below far = let test = le-ltb z items far in rw test refl
item_first items z (y ∷ ys) below far =
    let here = times_here y y ys refl in
    let inside = below y (let h : 1 ≤ times y (y ∷ ys) = omega arith in h) in
    let test = lt-ltb y items inside in
    rw test refl

item_last : (items z : ℕ) (list : List ℕ) → ((k : ℕ) → 1 ≤ times k list → k < items) → items ≤ z → item_of items (last_from z list) ≡ last_of list
item_last items z [] below far = let test = le-ltb z items far in rw test refl
item_last items z (y ∷ ys) below far =
    let inside = below (last_from y ys) (last_stands y ys) in
    let test = lt-ltb (last_from y ys) items inside in
    rw test (sym (last_is y ys))

module _ (next previous : List ℕ) (dues : List (Option ℕ)) (lists : List (List ℕ)) (r : AreRings next previous dues lists) where
  pub end_is : (slot : ℕ) → slot < length lists → (back : Bool)
      → item_of (length dues) (if back then get_or previous (length dues + slot) 0 else get_or next (length dues + slot) 0) ≡ end_of back (items_of lists slot)
  end_is slot h false =
      let z = length dues + slot in
      let P : List ℕ → Type 0 = λ ns. IsPath next previous z ns in
      let first = (subst P (first_and_rest (items_of lists slot) z) (r.ring slot h)).0 in
      ap (item_of (length dues)) first ∙ item_first (length dues) z (items_of lists slot) (λ k p. is_item next previous dues lists r k slot p) (omega arith)
  end_is slot h true =
      let z = length dues + slot in
      let last = (path_cut next previous z (items_of lists slot) z [] (r.ring slot h)).2 in
      ap (item_of (length dues)) last ∙ item_last (length dues) z (items_of lists slot) (λ k p. is_item next previous dues lists r k slot p) (omega arith)

  slot_there : (slot item : ℕ) (before behind : List ℕ) → items_of lists slot ≡ before ++ item ∷ behind → slot < length lists
  slot_there slot item before behind cut =
      elim (cases_lt slot (length lists)) [
        | inl h ↦ h
        | inr h ↦ let none = ap (times item) (sym (get_or_past lists slot [] h) ∙ cut) in
            let sum = times-append item before (item ∷ behind) in
            let one = times_here item item behind refl in
            absurd (omega arith)
      ]

  pub beside_is : (slot item : ℕ) (before behind : List ℕ) → items_of lists slot ≡ before ++ item ∷ behind → (back : Bool)
      → item_of (length dues) (if back then get_or previous item 0 else get_or next item 0) ≡ beside_of back before behind
  beside_is slot item before behind cut false =
      let h = slot_there slot item before behind cut in
      ap (item_of (length dues)) (next_of next previous dues lists r item slot before behind h cut)
      ∙ item_first (length dues) (length dues + slot) behind
      (λ k p. is_item next previous dues lists r k slot
      (let e = ap (times k) cut ∙ times-append k before (item ∷ behind) in let f = times-append k (item ∷ []) behind in let s : 1 ≤ times k (items_of lists slot) = omega arith in s))
      (omega arith)
  beside_is slot item before behind cut true =
      let h = slot_there slot item before behind cut in
      ap (item_of (length dues)) (previous_of next previous dues lists r item slot before behind h cut)
      ∙ item_last (length dues) (length dues + slot) before
      (λ k p. is_item next previous dues lists r k slot
      (let e = ap (times k) cut ∙ times-append k before (item ∷ behind) in let s : 1 ≤ times k (items_of lists slot) = omega arith in s))
      (omega arith)

-- the front node of a place, from the item before it
front_of : (z : ℕ) (before : List ℕ) (after : Option ℕ) → last_of before ≡ after → unwrap_or after z ≡ last_from z before
front_of z [] after e = ap (λ (o : Option ℕ). unwrap_or o z) (sym e)
front_of z (y ∷ ys) after e = ap (λ (o : Option ℕ). unwrap_or o z) (sym e ∙ last_is y ys)

last_with : (o : Option ℕ) (before : List ℕ) (item : ℕ) → last_or o (before ++ item ∷ []) ≡ Some item
last_with o [] item = refl
last_with o (y ∷ ys) item = last_with (Some y) ys item

-- a place behind an item of a list, or at its front
pub behind_found : (list : List ℕ) (after : Option ℕ) → IfSome after (Contains list) → (before : List ℕ) × (behind : List ℕ) × (list ≡ before ++ behind) × (last_of before ≡ after)
behind_found list None c = ([], list, refl, refl)
behind_found list (Some item) c =
    let at = found item list (times_contained item list c) in
    (at.0 ++ item ∷ [], at.1, at.2 ∙ sym (append_assoc at.0 (item ∷ []) at.1), last_with None at.0 item)

-- what is asked of an item that is linked in
pub record MayLink (v : LinkedLists) (item_number slot_number : ℕ) (after_item : Option ℕ) : Type 0 where
  pub item : item_number < length v.dues
  pub not_linked : due_of v.dues item_number ≡ None
  pub slot : slot_number < length v.lists
  pub after : IfSome after_item (Contains (items_of v.lists slot_number))

pub some_of : (o : Option ℕ) → IsSome o → o ≡ None → ⊥
some_of None h e = true≢false (sym h)
some_of (Some due) h e = true≢false (ap (λ (p : Option ℕ). is_some p) e)

-- an item is linked in: the node before it
pub link_front_within : (next previous : List ℕ) (dues : List (Option ℕ)) (lists : List (List ℕ)) → AreRings next previous dues lists
    → (item due slot front : ℕ) (after : Option ℕ) → due_of dues item ≡ None → item < length dues → slot < length lists
    → front ≡ unwrap_or after (length dues + slot) → IfSome after (Contains (items_of lists slot)) → front < length next
link_front_within next previous dues lists r item due slot front after fresh inside h at c =
    let p = behind_found (items_of lists slot) after c in
    let w = front_within next previous dues lists r item due slot p.0 p.1 fresh inside h p.2 in
    let e = at ∙ front_of (length dues + slot) p.0 after p.3 in
    omega arith

-- an item is linked in: the nodes that are joined, and what they stand for then
module _ (next previous : List ℕ) (dues : List (Option ℕ)) (lists : List (List ℕ)) (r : AreRings next previous dues lists)
    (item due slot front behind_node : ℕ) (after : Option ℕ) (fresh : due_of dues item ≡ None) (inside : item < length dues) (h : slot < length lists)
    (at : front ≡ unwrap_or after (length dues + slot)) (node : behind_node ≡ get_or next front behind_node) where
  link_front : (before behind : List ℕ) → items_of lists slot ≡ before ++ behind → last_of before ≡ after → front ≡ last_from (length dues + slot) before
  link_front before behind cut last = at ∙ front_of (length dues + slot) before after last

  link_first : (before behind : List ℕ) → items_of lists slot ≡ before ++ behind → last_of before ≡ after → behind_node ≡ first_from behind (length dues + slot)
  link_first before behind cut last =
      let w = front_within next previous dues lists r item due slot before behind fresh inside h cut in
      let e = link_front before behind cut last in
      let f : front < length next = omega arith in
      node ∙ get_or_default next front behind_node 0 f ∙ ap (λ (k : ℕ). get_or next k 0) e
      ∙ next_is next previous dues lists r item due slot before behind fresh inside h cut

  pub linked_rings : (before behind : List ℕ) → items_of lists slot ≡ before ++ behind → last_of before ≡ after
      → AreRings (next_with next front item behind_node) (previous_with previous front item behind_node) (set dues item (Some due)) (set lists slot (before ++ item ∷ behind))
  linked_rings before behind cut last =
      rw (link_front before behind cut last, link_first before behind cut last)
      (rings_with next previous dues lists r item due slot before behind fresh inside h cut)

  pub linked_lists : (before behind : List ℕ) → items_of lists slot ≡ before ++ behind → last_of before ≡ after
      → lists_of (next_with next front item behind_node) (length (set dues item (Some due))) ≡ set lists slot (before ++ item ∷ behind)
  linked_lists before behind cut last = lists_are _ _ _ _ (linked_rings before behind cut last)

  pub linked_after : IfSome after (Contains (items_of lists slot))
      → AreRings (next_with next front item behind_node) (previous_with previous front item behind_node) (set dues item (Some due))
      (lists_of (next_with next front item behind_node) (length (set dues item (Some due))))
  linked_after c =
      let p = behind_found (items_of lists slot) after c in
      let P : List (List ℕ) → Type 0 = λ ls. AreRings (next_with next front item behind_node) (previous_with previous front item behind_node) (set dues item (Some due)) ls in
      subst P (sym (linked_lists p.0 p.1 p.2 p.3)) (linked_rings p.0 p.1 p.2 p.3)

  pub link_within : IfSome after (Contains (items_of lists slot)) → (front < length next) × (behind_node < length previous)
  link_within c =
      let p = behind_found (items_of lists slot) after c in
      let a = front_within next previous dues lists r item due slot p.0 p.1 fresh inside h p.2 in
      let b = first_within next previous dues lists r item due slot p.0 p.1 fresh inside h p.2 in
      let e = link_front p.0 p.1 p.2 p.3 in
      let f = link_first p.0 p.1 p.2 p.3 in
      ((let q : front < length next = omega arith in q), (let q : behind_node < length previous = omega arith in q))

-- an item is taken out
module _ (next previous : List ℕ) (dues : List (Option ℕ)) (lists : List (List ℕ)) (r : AreRings next previous dues lists)
    (item front behind_node : ℕ) (some : due_of dues item ≡ None → ⊥) (read_before : front ≡ get_or previous item front) (read_behind : behind_node ≡ get_or next item behind_node) where
  item_inside : (item < length next) × (item < length previous)
  item_inside =
      let p = place_found next previous dues lists r item some in
      let i = (item_there next previous dues lists r item p.0 p.2 p.3 p.1 p.4).0 in
      let a = r.next_len in
      let b = r.previous_len in
      ((let q : item < length next = omega arith in q), (let q : item < length previous = omega arith in q))

  before_is : front ≡ get_or previous item 0
  before_is = read_before ∙ get_or_default previous item front 0 item_inside.1

  behind_is : behind_node ≡ get_or next item 0
  behind_is = read_behind ∙ get_or_default next item behind_node 0 item_inside.0

  pub unlink_within : (front < length next) × (behind_node < length previous)
  unlink_within =
      let p = place_found next previous dues lists r item some in
      let w = out_within next previous dues lists r item p.0 p.2 p.3 p.1 p.4 in
      let e = before_is ∙ previous_of next previous dues lists r item p.0 p.2 p.3 p.1 p.4 in
      let f = behind_is ∙ next_of next previous dues lists r item p.0 p.2 p.3 p.1 p.4 in
      let a = w.0 in
      let b = w.1 in
      ((let q : front < length next = omega arith in q), (let q : behind_node < length previous = omega arith in q))

  unlinked_at : (slot : ℕ) (before behind : List ℕ) → slot < length lists → items_of lists slot ≡ before ++ item ∷ behind
      → AreRings (set next front behind_node) (set previous behind_node front) (set dues item None) (set lists slot (before ++ behind))
  unlinked_at slot before behind h cut =
      let e : front ≡ last_from (length dues + slot) before = before_is ∙ previous_of next previous dues lists r item slot before behind h cut in
      let f : behind_node ≡ first_from behind (length dues + slot) = behind_is ∙ next_of next previous dues lists r item slot before behind h cut in
      rw (e, f) (rings_out next previous dues lists r item slot before behind h cut)

  pub unlinked_lists : lists_of (set next front behind_node) (length (set dues item None)) ≡ map (filter (λ other. not (other == item))) lists
  unlinked_lists =
      let p = place_found next previous dues lists r item some in
      lists_are _ _ _ _ (unlinked_at p.0 p.2 p.3 p.1 p.4) ∙ filtered next previous dues lists r item p.0 p.2 p.3 p.1 p.4

  pub unlinked_rings : AreRings (set next front behind_node) (set previous behind_node front) (set dues item None)
      (lists_of (set next front behind_node) (length (set dues item None)))
  unlinked_rings =
      let p = place_found next previous dues lists r item some in
      let P : List (List ℕ) → Type 0 = λ ls. AreRings (set next front behind_node) (set previous behind_node front) (set dues item None) ls in
      subst P (sym (lists_are _ _ _ _ (unlinked_at p.0 p.2 p.3 p.1 p.4))) (unlinked_at p.0 p.2 p.3 p.1 p.4)

-- what new nodes stand for
pub new_rings : (items slots : ℕ) (next previous : List ℕ) (dues : List (Option ℕ)) → items < 2 ^ 32 → slots < 2 ^ 32
    → next ≡ range_with_len 0 (items + slots) → previous ≡ range_with_len 0 (items + slots) → dues ≡ replicate items None
    → AreRings next previous dues (replicate slots [])
new_rings items slots next previous dues few few_slots e f d =
    let P : List ℕ → Type 0 = λ ns. AreRings next ns (replicate items None) (replicate slots []) in
    let Q : List (Option ℕ) → Type 0 = λ os. AreRings next previous os (replicate slots []) in
    subst Q (sym d) (subst P (e ∙ sym f) (rings_new items slots next few few_slots e))

pub new_lists : (items slots : ℕ) (next previous : List ℕ) (dues : List (Option ℕ)) → items < 2 ^ 32 → slots < 2 ^ 32
    → next ≡ range_with_len 0 (items + slots) → previous ≡ range_with_len 0 (items + slots) → dues ≡ replicate items None
    → lists_of next (length dues) ≡ replicate slots []
new_lists items slots next previous dues few few_slots e f d = lists_are _ _ _ _ (new_rings items slots next previous dues few few_slots e f d)
