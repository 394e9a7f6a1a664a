-- The buckets where an item is put in or taken out.
use Rattle.std.proofs.Common.{suc, ◌≡◌, ℕ, ◌+◌, ◌-◌, ◌*◌, ◌%◌, ◌^◌, ◌<◌, ◌≤◌, inl, inr, ◌==◌, if◌then◌else◌, cond, not, min, Bool, true, List, [], ◌∷◌, ◌++◌, map, length, set, filter, replicate, count_by, Option, None, Some, is_some, unwrap_or, refl, sym, ap, subst, ◌∙◌, arith, eq-eqb, get_or-set_other, get_or-set_same, true≢false}
use Rattle.std.proofs.lemmas.Bool.{cases_lt, and_from, cases_Bool}
use Rattle.std.proofs.lemmas.Bool.Decides.{eqb_tells}
use Rattle.std.proofs.lemmas.List.{length-set, length-map, get_or_past, get_or-map, get_or-replicate, length-replicate}
use Rattle.std.proofs.lemmas.List.Sums.{sum_by-set, sum_by-cons, count_by-le-length}
use Rattle.due_wheel.specs.Due.{due_of, IsEmpty, is_less, is_behind, count_behind}
use Rattle.due_wheel.specs.Lists.{LinkedLists, items_of, last_of}
use Rattle.due_wheel.specs.Rings.{times, Stands}
use Rattle.due_wheel.specs.Ordered.{pair_of, Ascends, AreBuckets, AllLinked, IsPlaceOf}
use Rattle.due_wheel.proofs.Times.{times_here, times-append, times_within, times_other, filter_other, filter_gone, passing_is, fits_in}
use Rattle.due_wheel.proofs.Paths.{last_from, last_stands, last_is}
use Rattle.due_wheel.proofs.RingLaws.{none_in}
use Rattle.due_wheel.proofs.OrderLaws.{less_true, less_false, ascends_same, ascends_left, ascends_with, last_greatest, ascends_out, ascends_once}

-- an item that has a due number is below the length of the list
pub is_below : (dues : List (Option ℕ)) (item due : ℕ) → due_of dues item ≡ Some due → item < length dues
is_below dues item due e =
    elim (cases_lt item (length dues)) [
      | inl h ↦ h
      | inr h ↦ absurd (true≢false (sym (ap (λ (o : Option ℕ). is_some o) (sym (get_or_past dues item None h) ∙ e))))
    ]

pub not_both : (o : Option ℕ) (due : ℕ) → o ≡ None → o ≡ Some due → ⊥
not_both o due e f = true≢false (sym (ap (λ (p : Option ℕ). is_some p) (sym e ∙ f)))

pub some_same : (a b : ℕ) (o : Option ℕ) → o ≡ Some a → o ≡ Some b → a ≡ b
some_same a b o e f = ap (λ (p : Option ℕ). unwrap_or p 0) (sym e ∙ f)

-- the items that are in are counted
count_set : (dues : List (Option ℕ)) (item : ℕ) (o : Option ℕ) → item < length dues
    → count_by is_some (set dues item o) + cond (is_some (due_of dues item)) 1 0 ≡ count_by is_some dues + cond (is_some o) 1 0
count_set dues item o h = sum_by-set (λ p. cond (is_some p) 1 0) dues item o None h

pub count_in : (dues : List (Option ℕ)) (item due : ℕ) → item < length dues → due_of dues item ≡ None → count_by is_some (set dues item (Some due)) ≡ count_by is_some dues + 1
count_in dues item due h e =
    let sum = count_set dues item (Some due) h in
    let none = ap (λ (o : Option ℕ). cond {A = ℕ} (is_some o) 1 0) e in
    omega arith

pub count_out : (dues : List (Option ℕ)) (item due : ℕ) → due_of dues item ≡ Some due → count_by is_some (set dues item None) + 1 ≡ count_by is_some dues
count_out dues item due e =
    let sum = count_set dues item None (is_below dues item due e) in
    let one = ap (λ (o : Option ℕ). cond {A = ℕ} (is_some o) 1 0) e in
    omega arith

pub count_none : (dues : List (Option ℕ)) → IsEmpty dues → count_by is_some dues ≡ 0
count_none [] f = refl
count_none (o ∷ dues) f =
    let sum = sum_by-cons (λ (p : Option ℕ). cond (is_some p) 1 0) o dues in
    let rest = count_none dues (λ item. f (suc item)) in
    let none = ap (λ (p : Option ℕ). cond {A = ℕ} (is_some p) 1 0) (f 0) in
    omega arith

none_at : (dues : List (Option ℕ)) → count_by is_some dues ≡ 0 → (item : ℕ) (o : Option ℕ) → due_of dues item ≡ o → due_of dues item ≡ None
none_at dues e item None f = f
none_at dues e item (Some due) f = let more = count_out dues item due f in absurd (omega arith)

pub none_counted : (dues : List (Option ℕ)) → count_by is_some dues ≡ 0 → IsEmpty dues
none_counted dues e = λ item. none_at dues e item (due_of dues item) refl

-- the new floor of a put
pub floor_first : (dues : List (Option ℕ)) (count floor due new : ℕ) → count ≡ count_by is_some dues → new ≡ (if count == 0 then due else min floor due)
    → IsEmpty dues → new ≡ due
floor_first dues count floor due new e f empty =
    let none = count_none dues empty in
    let test = eq-eqb count 0 (e ∙ none) in
    f ∙ rw test refl

pub floor_lower : (dues : List (Option ℕ)) (count floor due new : ℕ) → count ≡ count_by is_some dues → new ≡ (if count == 0 then due else min floor due)
    → (other later : ℕ) → due_of dues other ≡ Some later → new ≡ min floor due
floor_lower dues count floor due new e f other later is =
    elim (eqb_tells count 0) [
      | inl p ↦ absurd (not_both (due_of dues other) later (none_counted dues (sym e ∙ p.1) other) is)
      | inr p ↦ f ∙ rw p.0 refl
    ]

floor_below : (count floor due new : ℕ) → new ≡ (if count == 0 then due else min floor due) → new ≤ due
floor_below count floor due new f =
    elim (eqb_tells count 0) [
      | inl p ↦ let g : new ≡ due = f ∙ rw p.0 refl in omega arith
      | inr p ↦ let g : new ≡ min floor due = f ∙ rw p.0 refl in omega arith
    ]

nothing_in : (slots s : ℕ) → items_of (replicate slots []) s ≡ []
nothing_in slots s =
    elim (cases_lt s slots) [
      | inl h ↦ get_or-replicate slots s [] [] h
      | inr h ↦ get_or_past (replicate slots []) s [] (let nil : List ℕ = [] in let len = length-replicate slots nil in let p : length (replicate slots nil) ≤ s = omega arith in p)
    ]

-- a test of pairs from their numbers
is_less_from : (d i e j : ℕ) → d * 2 ^ 32 + i < e * 2 ^ 32 + j → i < 2 ^ 32 → j < 2 ^ 32 → is_less d i e j ≡ true
is_less_from d i e j p h k =
    elim (cases_Bool (is_less d i e j)) [
      | inl t ↦ t
      | inr t ↦ let most = less_false d i e j h k t in absurd (omega arith)
    ]

-- an item is put in
module _ (links : LinkedLists) (slots count floor : ℕ) (b : AreBuckets links slots count floor) (item due : ℕ) (after : Option ℕ) (looks : ℕ)
    (inside : item < length links.dues) (fresh : due_of links.dues item ≡ None) (place : IsPlaceOf links.dues (items_of links.lists (due % slots)) due item after looks) where
  abbrev slot : ℕ
  slot = due % slots

  abbrev new_dues : List (Option ℕ)
  new_dues = set links.dues item (Some due)

  -- no list has it
  pub not_linked : (s : ℕ) → times item (items_of links.lists s) ≡ 0
  not_linked s =
      elim (cases_lt 0 (times item (items_of links.lists s))) [
        | inl h ↦ let d = b.due_in s item h in absurd (not_both (due_of links.dues item) d.0 fresh d.1)
        | inr h ↦ omega arith
      ]

  sum_of : (k : ℕ) → times k (items_of links.lists slot) ≡ times k place.before + times k place.behind
  sum_of k = ap (times k) place.whole ∙ times-append k place.before place.behind

  in_before : (k : ℕ) → Stands k place.before → Stands k (items_of links.lists slot)
  in_before k h = let sum = sum_of k in omega arith

  in_behind : (k : ℕ) → Stands k place.behind → Stands k (items_of links.lists slot)
  in_behind k h = let sum = sum_of k in omega arith

  apart_in : (s k : ℕ) → Stands k (items_of links.lists s) → k ≡ item → ⊥
  apart_in s k h e = let none = not_linked s in let same = ap (λ (j : ℕ). times j (items_of links.lists s)) e in absurd (omega arith)

  below_in : (s k : ℕ) → Stands k (items_of links.lists s) → k < 2 ^ 32
  below_in s k h = let d = b.due_in s k h in let i = is_below links.dues k d.0 d.1 in let few = b.few in omega arith

  due_other : (k : ℕ) → (k ≡ item → ⊥) → due_of new_dues k ≡ due_of links.dues k
  due_other k apart = get_or-set_other links.dues item k (Some due) None apart

  due_item : due_of new_dues item ≡ Some due
  due_item = get_or-set_same links.dues item (Some due) None inside

  pair_other : (k : ℕ) → (k ≡ item → ⊥) → pair_of new_dues k ≡ pair_of links.dues k
  pair_other k apart = ap (λ (o : Option ℕ). unwrap_or o 0 * 2 ^ 32 + k) (due_other k apart)

  pair_item : pair_of new_dues item ≡ due * 2 ^ 32 + item
  pair_item = ap (λ (o : Option ℕ). unwrap_or o 0 * 2 ^ 32 + item) due_item

  pub behind_greater : (k : ℕ) → Stands k place.behind → due * 2 ^ 32 + item < pair_of links.dues k
  behind_greater k h =
      let few = b.few in
      let s = in_behind k h in
      let i = below_in slot k s in
      let j : item < 2 ^ 32 = omega arith in
      let most = less_false (unwrap_or (due_of links.dues k) 0) k due item i j (place.greater k h) in
      let apart = apart_in slot k s in
      omega arith

  after_less : (a : ℕ) → after ≡ Some a → Stands a (items_of links.lists slot) → pair_of links.dues a < due * 2 ^ 32 + item
  after_less a e h =
      let few = b.few in
      let j : item < 2 ^ 32 = omega arith in
      less_true (unwrap_or (due_of links.dues a) 0) a due item (below_in slot a h) j (place.lesser a e)

  before_part : Ascends links.dues place.before
  before_part =
      let A : List ℕ → Type 0 = λ xs. Ascends links.dues xs in
      ascends_left links.dues place.before place.behind (subst A place.whole (b.ascends slot))

  less_within : (xs : List ℕ) → place.before ≡ xs → (k : ℕ) → Stands k xs → pair_of links.dues k < due * 2 ^ 32 + item
  less_within [] e k h = absurd (omega arith)
  less_within (x ∷ xs) e k h =
      let A : List ℕ → Type 0 = λ ys. Ascends links.dues ys in
      let last : after ≡ Some (last_from x xs) = sym place.last ∙ ap last_of e ∙ last_is x xs in
      let stands : Stands (last_from x xs) place.before = let same = ap (times (last_from x xs)) e in let s = last_stands x xs in omega arith in
      let less = after_less (last_from x xs) last (in_before (last_from x xs) stands) in
      let most = last_greatest links.dues x xs (subst A e before_part) k h in
      omega arith

  before_less : (k : ℕ) → Stands k place.before → pair_of links.dues k < due * 2 ^ 32 + item
  before_less k h = less_within place.before refl k h

  new_list : Ascends new_dues (place.before ++ item ∷ place.behind)
  new_list =
      let A : List ℕ → Type 0 = λ xs. Ascends links.dues xs in
      let old : Ascends links.dues (place.before ++ place.behind) = subst A place.whole (b.ascends slot) in
      let now = ascends_same links.dues new_dues (place.before ++ place.behind)
      (λ k h. pair_other k (apart_in slot k (let same = ap (times k) place.whole in let s : 1 ≤ times k (items_of links.lists slot) = omega arith in s))) old in
      ascends_with new_dues place.before item place.behind now
      (λ k h. let less = before_less k h in let e = pair_other k (apart_in slot k (in_before k h)) in let f = pair_item in omega arith)
      (λ k h. let less = behind_greater k h in let e = pair_other k (apart_in slot k (in_behind k h)) in let f = pair_item in omega arith)

  -- the new lists
  module _ (slot_there : slot < length links.lists) (later : LinkedLists) (new_floor : ℕ) (dues_are : later.dues ≡ new_dues)
      (lists_are : later.lists ≡ set links.lists slot (place.before ++ item ∷ place.behind)) (floor_is : new_floor ≡ (if count == 0 then due else min floor due)) where
    own : items_of later.lists slot ≡ place.before ++ item ∷ place.behind
    own = ap (λ (ls : List (List ℕ)). items_of ls slot) lists_are ∙ get_or-set_same links.lists slot (place.before ++ item ∷ place.behind) [] slot_there

    other : (s : ℕ) → (s ≡ slot → ⊥) → items_of later.lists s ≡ items_of links.lists s
    other s apart = ap (λ (ls : List (List ℕ)). items_of ls s) lists_are ∙ get_or-set_other links.lists slot s (place.before ++ item ∷ place.behind) [] apart

    due_later : (k : ℕ) → (k ≡ item → ⊥) → due_of later.dues k ≡ due_of links.dues k
    due_later k apart = ap (λ (ds : List (Option ℕ)). due_of ds k) dues_are ∙ due_other k apart

    stands_old : (s k : ℕ) → (k ≡ item → ⊥) → Stands k (items_of later.lists s) → Stands k (items_of links.lists s)
    stands_old s k apart h =
        elim (eqb_tells s slot) [
          | inl p ↦ let a = ap (λ (j : ℕ). times k (items_of later.lists j)) p.1 in
              let c = ap (times k) own in
              let d = times_within k item place.before place.behind in
              let f = times_other k item (λ e. apart (sym e)) in
              let g = times-append k place.before place.behind in
              let sum = sum_of k in
              let i = ap (λ (j : ℕ). times k (items_of links.lists j)) p.1 in
              omega arith
          | inr p ↦ let same = ap (times k) (other s p.1) in omega arith
        ]

    stands_new : (s k : ℕ) → Stands k (items_of links.lists s) → Stands k (items_of later.lists s)
    stands_new s k h =
        elim (eqb_tells s slot) [
          | inl p ↦ let a = ap (λ (j : ℕ). times k (items_of later.lists j)) p.1 in
              let c = ap (times k) own in
              let d = times_within k item place.before place.behind in
              let g = times-append k place.before place.behind in
              let sum = sum_of k in
              let i = ap (λ (j : ℕ). times k (items_of links.lists j)) p.1 in
              omega arith
          | inr p ↦ let same = ap (times k) (other s p.1) in omega arith
        ]

    pub put_buckets : AreBuckets later slots (count + 1) new_floor
    put_buckets =
        let lists_len : length later.lists ≡ length links.lists = ap (λ (ls : List (List ℕ)). length ls) lists_are ∙ length-set links.lists slot (place.before ++ item ∷ place.behind) in
        let dues_len : length later.dues ≡ length links.dues = ap (λ (ds : List (Option ℕ)). length ds) dues_are ∙ length-set links.dues item (Some due) in
        record {
          slots_are = lists_len ∙ b.slots_are;
          some = b.some;
          few = let few = b.few in omega arith;
          counted = let c = b.counted in
              let more = count_in links.dues item due inside fresh in
              let same = ap (λ (ds : List (Option ℕ)). count_by is_some ds) dues_are in
              omega arith;
          due_in = λ s k h. elim (eqb_tells k item) [
            | inl p ↦ let here : s ≡ slot = elim (eqb_tells s slot) [
              | inl q ↦ q.1
              | inr q ↦ let none = not_linked s in
                  let same = ap (times k) (other s q.1) in
                  let e = ap (λ (j : ℕ). times j (items_of links.lists s)) p.1 in
                  absurd (omega arith)
            ] in
                (due, ap (λ (j : ℕ). due_of later.dues j) p.1 ∙ ap (λ (ds : List (Option ℕ)). due_of ds item) dues_are ∙ due_item, sym here)
            | inr p ↦ let d = b.due_in s k (stands_old s k p.1 h) in (d.0, due_later k p.1 ∙ d.1, d.2)
          ];
          listed = λ k d e. elim (eqb_tells k item) [
            | inl p ↦ let is : due ≡ d = some_same due d (due_of later.dues k) (ap (λ (j : ℕ). due_of later.dues j) p.1 ∙ ap (λ (ds : List (Option ℕ)). due_of ds item) dues_are ∙ due_item) e in
                let at : items_of later.lists (d % slots) ≡ place.before ++ item ∷ place.behind = ap (λ (n : ℕ). items_of later.lists (n % slots)) (sym is) ∙ own in
                let c = ap (times k) at in
                let w = times_within k item place.before place.behind in
                let one = times_here k item [] (sym p.1) in
                let s : 1 ≤ times k (items_of later.lists (d % slots)) = omega arith in s
            | inr p ↦ stands_new (d % slots) k (b.listed k d (sym (due_later k p.1) ∙ e))
          ];
          ascends = λ s.
              let P : List (Option ℕ) → Type 0 = λ ds. Ascends ds (items_of later.lists s) in
              let Q : List ℕ → Type 0 = λ xs. Ascends new_dues xs in
              subst P (sym dues_are) (elim (eqb_tells s slot) [
                | inl p ↦ subst Q (sym (ap (λ (j : ℕ). items_of later.lists j) p.1 ∙ own)) new_list
                | inr p ↦ subst Q (sym (other s p.1)) (ascends_same links.dues new_dues (items_of links.lists s) (λ k h. pair_other k (apart_in s k h)) (b.ascends s))
              ]);
          above = λ k d e. elim (eqb_tells k item) [
            | inl p ↦ let is : due ≡ d = some_same due d (due_of later.dues k) (ap (λ (j : ℕ). due_of later.dues j) p.1 ∙ ap (λ (ds : List (Option ℕ)). due_of ds item) dues_are ∙ due_item) e in
                let low = floor_below count floor due new_floor floor_is in
                omega arith
            | inr p ↦ let was = sym (due_later k p.1) ∙ e in
                let low = b.above k d was in
                let new = floor_lower links.dues count floor due new_floor b.counted floor_is k d was in
                omega arith
          ];
        }

  -- the looks of a put
  test_true : (k : ℕ) (o : Option ℕ) (d : ℕ) → o ≡ Some d → d % slots ≡ due % slots → is_less due item d k ≡ true → is_behind slots due item k o ≡ true
  test_true k None d e f g = absurd (not_both None d refl e)
  test_true k (Some later) d e f g =
      let same = some_same later d (Some later) refl e in
      let h = ap (λ (n : ℕ). n % slots) same ∙ f in
      let i = ap (λ (n : ℕ). is_less due item n k) same ∙ g in
      and_from (later % slots == due % slots) (is_less due item later k) (eq-eqb (later % slots) (due % slots) h) i

  pub put_cost : looks ≤ 1 + count_behind links.dues slots due item
  put_cost =
      let test : ℕ → Bool = λ k. is_behind slots due item k (due_of links.dues k) in
      let fits = fits_in (length links.dues) test place.behind
      (λ k h. let once = ascends_once links.dues (items_of links.lists slot) (b.ascends slot) k in
      let sum = sum_of k in
      elim (cases_lt 0 (times k place.behind)) [
        | inl s ↦ let d = b.due_in slot k (in_behind k s) in
            let less = is_less_from due item d.0 k
            (let p = behind_greater k s in let e = ap (λ (o : Option ℕ). unwrap_or o 0 * 2 ^ 32 + k) d.1 in let q : due * 2 ^ 32 + item < d.0 * 2 ^ 32 + k = omega arith in q)
            (let few = b.few in let q : item < 2 ^ 32 = omega arith in q) (below_in slot k (in_behind k s)) in
            let yes = ap (λ (t : Bool). cond {A = ℕ} t 1 0) (test_true k (due_of links.dues k) d.0 d.1 d.2 less) in
            omega arith
        | inr s ↦ omega arith
      ])
      (λ k h. elim (cases_lt 0 (times k place.behind)) [
        | inl s ↦ let d = b.due_in slot k (in_behind k s) in let i = is_below links.dues k d.0 d.1 in absurd (omega arith)
        | inr s ↦ omega arith
      ]) in
      let all = passing_is test (length links.dues) in
      let cost = place.cost in
      omega arith

-- an item is taken out
module _ (links : LinkedLists) (slots count floor : ℕ) (b : AreBuckets links slots count floor) (item due : ℕ) (is_in : due_of links.dues item ≡ Some due)
    (later : LinkedLists) (new_floor : ℕ) (dues_are : later.dues ≡ set links.dues item None)
    (lists_are : later.lists ≡ map (filter (λ other. not (other == item))) links.lists)
    (above : (other lies : ℕ) → (other ≡ item → ⊥) → due_of links.dues other ≡ Some lies → new_floor ≤ lies) where
  list_is : (s : ℕ) → items_of later.lists s ≡ filter (λ other. not (other == item)) (items_of links.lists s)
  list_is s =
      let f : List ℕ → List ℕ = filter (λ other. not (other == item)) in
      elim (cases_lt s (length links.lists)) [
        | inl h ↦ ap (λ (ls : List (List ℕ)). items_of ls s) lists_are ∙ get_or-map f links.lists s [] [] h
        | inr h ↦ ap (λ (ls : List (List ℕ)). items_of ls s) lists_are
            ∙ get_or_past (map f links.lists) s [] (let len = length-map links.lists f in let p : length (map f links.lists) ≤ s = omega arith in p)
            ∙ sym (ap f (get_or_past links.lists s [] h))
      ]

  due_left : (k : ℕ) → (k ≡ item → ⊥) → due_of later.dues k ≡ due_of links.dues k
  due_left k apart = ap (λ (ds : List (Option ℕ)). due_of ds k) dues_are ∙ get_or-set_other links.dues item k None None apart

  due_gone : due_of later.dues item ≡ None
  due_gone = ap (λ (ds : List (Option ℕ)). due_of ds item) dues_are ∙ get_or-set_same links.dues item None None (is_below links.dues item due is_in)

  left_apart : (k d : ℕ) → due_of later.dues k ≡ Some d → k ≡ item → ⊥
  left_apart k d e f = not_both (due_of later.dues item) d due_gone (ap (λ (j : ℕ). due_of later.dues j) (sym f) ∙ e)

  stands_left : (s k : ℕ) → Stands k (items_of later.lists s) → (k ≡ item → ⊥) × Stands k (items_of links.lists s)
  stands_left s k h =
      let same = ap (times k) (list_is s) in
      elim (eqb_tells k item) [
        | inl p ↦ let gone = filter_gone item (items_of links.lists s) in
            let e = ap (λ (j : ℕ). times j (filter (λ other. not (other == item)) (items_of links.lists s))) p.1 in
            absurd (omega arith)
        | inr p ↦ let e = filter_other item k (items_of links.lists s) p.1 in (p.1, (let q : 1 ≤ times k (items_of links.lists s) = omega arith in q))
      ]

  pub out_buckets : AreBuckets later slots (count - 1) new_floor
  out_buckets =
      record {
        slots_are = ap (λ (ls : List (List ℕ)). length ls) lists_are ∙ length-map links.lists _ ∙ b.slots_are;
        some = b.some;
        few = let few = b.few in
            let len : length later.dues ≡ length links.dues = ap (λ (ds : List (Option ℕ)). length ds) dues_are ∙ length-set links.dues item None in
            omega arith;
        counted = let c = b.counted in
            let less = count_out links.dues item due is_in in
            let same = ap (λ (ds : List (Option ℕ)). count_by is_some ds) dues_are in
            omega arith;
        due_in = λ s k h. let was = stands_left s k h in let d = b.due_in s k was.1 in (d.0, due_left k was.0 ∙ d.1, d.2);
        listed = λ k d e. let apart = left_apart k d e in
            let was = b.listed k d (sym (due_left k apart) ∙ e) in
            let same = ap (times k) (list_is (d % slots)) in
            let f = filter_other item k (items_of links.lists (d % slots)) apart in
            let q : 1 ≤ times k (items_of later.lists (d % slots)) = omega arith in q;
        ascends = λ s.
            let P : List (Option ℕ) → Type 0 = λ ds. Ascends ds (items_of later.lists s) in
            let Q : List ℕ → Type 0 = λ xs. Ascends links.dues xs in
            ascends_same links.dues later.dues (items_of later.lists s)
            (λ k h. ap (λ (o : Option ℕ). unwrap_or o 0 * 2 ^ 32 + k) (due_left k (stands_left s k h).0))
            (subst Q (sym (list_is s)) (ascends_out links.dues item (items_of links.lists s) (b.ascends s)));
        above = λ k d e. let apart = left_apart k d e in above k d apart (sym (due_left k apart) ∙ e);
      }

-- no item is in at first
pub new_buckets : (links : LinkedLists) (items slots : ℕ) → items < 2 ^ 32 → 1 ≤ slots → links.dues ≡ replicate items None → links.lists ≡ replicate slots []
    → AreBuckets links slots 0 0
new_buckets links items slots few some e f =
    let nil : List ℕ = [] in
    let none : Option ℕ = None in
    let empty : IsEmpty links.dues = λ k. ap (λ (ds : List (Option ℕ)). due_of ds k) e ∙ none_in items k in
    let no_items : (s : ℕ) → items_of links.lists s ≡ [] = λ s. ap (λ (ls : List (List ℕ)). items_of ls s) f ∙ nothing_in slots s in
    record {
      slots_are = ap (λ (ls : List (List ℕ)). length ls) f ∙ length-replicate slots nil;
      some = some;
      few = let len : length links.dues ≡ items = ap (λ (ds : List (Option ℕ)). length ds) e ∙ length-replicate items none in omega arith;
      counted = sym (count_none links.dues empty);
      due_in = λ s k h. let same = ap (times k) (no_items s) in absurd (omega arith);
      listed = λ k d g. absurd (not_both (due_of links.dues k) d (empty k) g);
      ascends = λ s. let Q : List ℕ → Type 0 = λ xs. Ascends links.dues xs in subst Q (sym (no_items s)) tt;
      above = λ k d g. absurd (not_both (due_of links.dues k) d (empty k) g);
    }

-- a put, in the words of the code
pub put_all : (links : LinkedLists) (slots count floor : ℕ) → AreBuckets links slots count floor → (item due : ℕ) (after : Option ℕ) (looks : ℕ)
    → item < length links.dues → due_of links.dues item ≡ None → (s : ℕ) → s ≡ due % slots → IsPlaceOf links.dues (items_of links.lists s) due item after looks
    → s < length links.lists → (later : LinkedLists) (new_floor : ℕ) → later.dues ≡ set links.dues item (Some due)
    → ((before behind : List ℕ) → items_of links.lists s ≡ before ++ behind → last_of before ≡ after → later.lists ≡ set links.lists s (before ++ item ∷ behind))
    → new_floor ≡ (if count == 0 then due else min floor due) → AreBuckets later slots (count + 1) new_floor
put_all links slots count floor b item due after looks inside fresh s e place h later new_floor dues_are lists_are floor_is =
    let P : ℕ → Type 0 = λ n. IsPlaceOf links.dues (items_of links.lists n) due item after looks → n < length links.lists
    → ((before behind : List ℕ) → items_of links.lists n ≡ before ++ behind → last_of before ≡ after → later.lists ≡ set links.lists n (before ++ item ∷ behind))
    → AreBuckets later slots (count + 1) new_floor in
    subst P (sym e)
    (λ p q r. put_buckets links slots count floor b item due after looks inside fresh p q later new_floor dues_are (r p.before p.behind p.whole p.last) floor_is)
    place h lists_are

pub put_all_cost : (links : LinkedLists) (slots count floor : ℕ) → AreBuckets links slots count floor → (item due : ℕ) (after : Option ℕ) (looks : ℕ)
    → item < length links.dues → due_of links.dues item ≡ None → (s : ℕ) → s ≡ due % slots → IsPlaceOf links.dues (items_of links.lists s) due item after looks
    → looks ≤ 1 + count_behind links.dues slots due item
put_all_cost links slots count floor b item due after looks inside fresh s e place =
    let P : ℕ → Type 0 = λ n. IsPlaceOf links.dues (items_of links.lists n) due item after looks in
    put_cost links slots count floor b item due after looks inside fresh (subst P e place)

-- all items of a bucket are linked
pub all_linked : (links : LinkedLists) (slots count floor : ℕ) → AreBuckets links slots count floor → (slot : ℕ) → AllLinked links.dues (items_of links.lists slot)
all_linked links slots count floor b slot = λ item h. let d = b.due_in slot item h in ap (λ (o : Option ℕ). is_some o) d.1

-- one more item can be counted
pub count_fits : (dues : List (Option ℕ)) (item count : ℕ) → item < length dues → due_of dues item ≡ None → count ≡ count_by is_some dues → length dues < 2 ^ 32 → count + 1 < 2 ^ 32
count_fits dues item count inside fresh e few =
    let more = count_in dues item 0 inside fresh in
    let most = count_by-le-length is_some (set dues item (Some 0)) in
    let len = length-set dues item (Some 0) in
    omega arith
