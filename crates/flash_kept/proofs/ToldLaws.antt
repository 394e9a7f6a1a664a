-- The function and the words say the same of what is staged.
use Rattle.std.proofs.Common.{◌≡◌, ◌⊎◌, inl, inr, ℕ, zero, suc, ◌+◌, ◌-◌, ◌<◌, ◌≤◌, Bool, true, false, ◌&&◌, ◌||◌, not, List, Option, Some, None, refl, sym, ap, subst, ◌∙◌, arith}
use Rattle.std.specs.Prelude.{◌==◌, nat_le, is_some, option_map, if◌then◌else◌}
use Rattle.std.specs.Option.{option_or}
use Rattle.std.proofs.lemmas.Bool.{eq-eqb, eqb-true, leb-true, le-leb}
use Rattle.dsmcc_msg.specs.Control.{DiiFields, dii_message}
use Rattle.flash_layout.specs.Journal.{IsHeader, header_number, message_len}
use Rattle.flash_layout.specs.Pairs.{byte_at, pair_sum, part, word_at}
use Rattle.ssu_group.specs.Refusal.{refusal}
use Rattle.ssu_group.specs.declared.places.Place.{Place}
use Rattle.flash_kept.specs.Counts.{all_below, find_below, some_below}
use Rattle.flash_kept.specs.Held.{HasHeldMessage, InBank, InSlot, Stands, message_in}
use Rattle.flash_kept.specs.Leaving.{PlacesLie}
use Rattle.flash_kept.specs.Lost.{lost_places}
use Rattle.flash_kept.specs.Places.{place_count, place_of}
use Rattle.flash_kept.specs.Slots.{free_slots, is_marked, is_slot_of, is_valid_slot}
use Rattle.flash_kept.specs.SpareArea.{IsInOrder, SpareArea, journal_in, slot_bytes}
use Rattle.flash_kept.specs.Staged.{HasStagedMessage, IsStaged, SlotsFit}
use Rattle.flash_kept.specs.Told.{dii_fits, dii_that_fits, dii_with_slots, held_dii, is_header, is_slot_at, place_text, slots_fit, staged_bytes, staged_dii, staged_message, text_under}
use Rattle.flash_kept.proofs.Cases.{some_one}
use Rattle.flash_kept.proofs.CountLaws.{all_each, all_of, and_both, and_left, and_right, last_or, not_true, some_of}
use Rattle.flash_kept.proofs.HeaderLaws.{dii_one}
use Rattle.flash_kept.proofs.PlaceLaws.{held_lie}

-- ---- tests

some_each : (f : ℕ → Bool) (n : ℕ) → some_below f n ≡ true → (k : ℕ) × (k < n) × (f k ≡ true)
unfolding all_below
some_each f zero e = absurd cc
some_each f (suc n) e = by_last (f n) refl (some_each f n)
  where
    by_last : (b : Bool) → f n ≡ b → (some_below f n ≡ true → (k : ℕ) × (k < n) × (f k ≡ true)) → (k : ℕ) × (k < suc n) × (f k ≡ true)
    by_last true is rest = (n, omega arith, is)
    by_last false is rest =
        let before : some_below f n ≡ true = by_before (all_below (λ k. not (f k)) n) (f n) is e in
        let found = rest before in
        (found.0, (let lt = found.1 in omega (arith, lt)), found.2)
      where
        by_before : (a b : Bool) → b ≡ false → not (a && not b) ≡ true → not a ≡ true
        by_before true b is e = let bad : not (true && not b) ≡ false = rw is refl in absurd cc
        by_before false b is e = refl

or_else : (a b : Bool) → (not a || b) ≡ true → a ≡ true → b ≡ true
or_else true b e is = e
or_else false b e is = absurd cc

if_or : (a b : Bool) → (a ≡ true → b ≡ true) → (not a || b) ≡ true
if_or true b f = f refl
if_or false b f = refl

not_of : (b : Bool) → b ≡ false → not b ≡ true
not_of true e = absurd cc
not_of false e = refl

none_some : {A : Type 0} (o : Option A) → not (is_some o) ≡ true → o ≡ None
none_some None e = refl
none_some (Some a) e = absurd cc

if_some : {A : Type 0} (b : Bool) (x y : A) → (if b then Some x else None) ≡ Some y → (b ≡ true) × (x ≡ y)
if_some true x y e = (refl, cc)
if_some false x y e = absurd cc

if_true : {A : Type 0} (b : Bool) (x y : A) → b ≡ true → (if b then x else y) ≡ x
if_true true x y e = refl
if_true false x y e = absurd cc

if_false : {A : Type 0} (b : Bool) (x y : A) → b ≡ false → (if b then x else y) ≡ y
if_false true x y e = absurd cc
if_false false x y e = refl

find_is : (f : ℕ → Bool) (n k : ℕ) → find_below f n ≡ Some k → (k < n) × (f k ≡ true)
unfolding find_below
find_is f zero k e = absurd cc
find_is f (suc n) k e = by_first (find_below f n) refl (find_is f n k) e
  where
    by_first : (o : Option ℕ) → find_below f n ≡ o → (find_below f n ≡ Some k → (k < n) × (f k ≡ true)) → option_or (find_below f n) (if f n then Some n else None) ≡ Some k → (k < suc n) × (f k ≡ true)
    by_first None is rest e =
        let last : (if f n then Some n else None) ≡ Some k = ap (λ (o : Option ℕ). option_or o (if f n then Some n else None)) (sym is) ∙ e in
        let both = if_some (f n) n k last in
        ((let same = both.1 in omega (arith, same)), ap f (sym both.1) ∙ both.0)
    by_first (Some j) is rest e =
        let own : find_below f n ≡ Some k = is ∙ ap (λ (o : Option ℕ). option_or o (if f n then Some n else None)) (sym is) ∙ e in
        let found = rest own in
        ((let lt = found.0 in omega (arith, lt)), found.1)

find_some : (f : ℕ → Bool) (n k : ℕ) → k < n → f k ≡ true → (j : ℕ) × (find_below f n ≡ Some j)
unfolding find_below
find_some f zero k lt is = absurd (omega arith)
find_some f (suc n) k lt is = by_first (find_below f n) refl (last_or k n lt) (λ below. find_some f n k below is)
  where
    by_first : (o : Option ℕ) → find_below f n ≡ o → (k < n) ⊎ (k ≡ n) → (k < n → (j : ℕ) × (find_below f n ≡ Some j)) → (j : ℕ) × (option_or (find_below f n) (if f n then Some n else None) ≡ Some j)
    by_first (Some j) e side rest = (j, ap (λ (o : Option ℕ). option_or o (if f n then Some n else None)) e)
    by_first None e (inl below) rest = let found = rest below in absurd (let both : None ≡ Some found.0 = sym e ∙ found.1 in cc)
    by_first None e (inr same) rest = (n, ap (λ (o : Option ℕ). option_or o (if f n then Some n else None)) e ∙ if_true (f n) (Some n) None (ap f (sym same) ∙ is))

-- ---- the header

pub header_from : (journal : List ℕ) → is_header journal ≡ true → IsHeader journal
unfolding is_header
header_from journal e =
    let a = and_right _ _ e in let b = and_right _ _ a in let d = and_right _ _ b in let f = and_right _ _ d in
    record {
      whole = record { each = λ i lt. eqb-true (pair_sum journal i) 255 (all_each (λ i. pair_sum journal i == 255) 16 (and_left _ _ e) i lt) };
      magic = eqb-true (word_at journal 0) 0x5353554A (and_left _ _ a);
      some = leb-true 1 (message_len journal) (and_left _ _ b);
      few = leb-true (message_len journal) 4084 (and_left _ _ d);
      zeros = zeros (and_left _ _ f);
      message = λ i lt. eqb-true (pair_sum journal (128 + i)) 255 (all_each (λ i. pair_sum journal (128 + i) == 255) (message_len journal) (and_right _ _ f) i lt);
    }
  where
    zeros : all_below (λ i. byte_at journal (10 + i) == 0) 6 ≡ true → (i : ℕ) → 10 ≤ i → i < 16 → byte_at journal i ≡ 0
    zeros all i from to =
        let here : 10 + (i - 10) ≡ i = omega (arith, from) in
        subst (λ (j : ℕ). byte_at journal j ≡ 0) here (eqb-true (byte_at journal (10 + (i - 10))) 0 (all_each (λ i. byte_at journal (10 + i) == 0) 6 all (i - 10) (omega (arith, from, to))))

pub header_to : (journal : List ℕ) → IsHeader journal → is_header journal ≡ true
unfolding is_header
header_to journal h =
    and_both _ _ (all_of (λ i. pair_sum journal i == 255) 16 (λ i lt. eq-eqb (pair_sum journal i) 255 (h.whole.each i lt))) (
    and_both _ _ (eq-eqb (word_at journal 0) 0x5353554A h.magic) (
    and_both _ _ (le-leb 1 (message_len journal) h.some) (
    and_both _ _ (le-leb (message_len journal) 4084 h.few) (
    and_both _ _ (all_of (λ i. byte_at journal (10 + i) == 0) 6 (λ i lt. eq-eqb (byte_at journal (10 + i)) 0 (h.zeros (10 + i) (omega arith) (omega (arith, lt)))))
    (all_of (λ i. pair_sum journal (128 + i) == 255) (message_len journal) (λ i lt. eq-eqb (pair_sum journal (128 + i)) 255 (h.message i lt)))))))

-- ---- slots

slot_at_of : (area : SpareArea) (c : List ℕ) (o : Option Place) (s : ℕ) → is_slot_at area c o s ≡ true → (p : Place) × (o ≡ Some p) × (is_slot_of area c p s ≡ true)
slot_at_of area c None s e = absurd cc
slot_at_of area c (Some p) s e = (p, refl, e)

slot_at_is : (area : SpareArea) (c : List ℕ) (o : Option Place) (p : Place) (s : ℕ) → o ≡ Some p → is_slot_of area c p s ≡ true → is_slot_at area c o s ≡ true
slot_at_is area c o p s e is = ap (λ (q : Option Place). is_slot_at area c q s) e ∙ is

pub fits_slots : (area : SpareArea) (dii : DiiFields) (c : List ℕ) → PlacesLie area dii → slots_fit area dii c ≡ true → SlotsFit area dii c
unfolding slots_fit
fits_slots area dii c lie e =
    let first = and_left _ _ e in
    let rest = and_right _ _ e in
    let second = and_left _ _ rest in
    let third = and_right _ _ rest in
    record {
      each = λ s ls valid.
          let one = some_each (λ n. is_slot_at area c (place_of dii n) s) (place_count dii)
          (or_else (is_valid_slot area c s) _ (all_each (λ s. not (is_valid_slot area c s) || some_below (λ n. is_slot_at area c (place_of dii n) s) (place_count dii)) 16 first s ls) valid) in
          let at = slot_at_of area c (place_of dii one.0) s one.2 in
          record { number = one.0; place = at.0; is_place = at.1; is_slot = at.2 };
      unmarked = λ s n p ls at valid.
          not_true (is_marked area c n)
          (or_else (is_slot_at area c (place_of dii n) s) (not (is_marked area c n))
          (all_each (λ n. not (is_slot_at area c (place_of dii n) s) || not (is_marked area c n)) (place_count dii)
          (all_each (λ s. all_below (λ n. not (is_slot_at area c (place_of dii n) s) || not (is_marked area c n)) (place_count dii)) 16 second s ls) n (lie.below n p at))
          (slot_at_is area c (place_of dii n) p s at valid));
      another = λ s t n p ls lt at f g.
          eqb-true s t
          (or_else (is_slot_at area c (place_of dii n) s && is_slot_at area c (place_of dii n) t) (s == t)
          (all_each (λ n. not (is_slot_at area c (place_of dii n) s && is_slot_at area c (place_of dii n) t) || s == t) (place_count dii)
          (all_each (λ t. all_below (λ n. not (is_slot_at area c (place_of dii n) s && is_slot_at area c (place_of dii n) t) || s == t) (place_count dii)) 16
          (all_each (λ s. all_below (λ t. all_below (λ n. not (is_slot_at area c (place_of dii n) s && is_slot_at area c (place_of dii n) t) || s == t) (place_count dii)) 16) 16 third s ls) t lt) n (lie.below n p at))
          (and_both _ _ (slot_at_is area c (place_of dii n) p s at f) (slot_at_is area c (place_of dii n) p t at g)));
    }

pub slots_fits : (area : SpareArea) (dii : DiiFields) (c : List ℕ) → PlacesLie area dii → SlotsFit area dii c → slots_fit area dii c ≡ true
unfolding slots_fit
slots_fits area dii c lie fit =
    and_both _ _
    (all_of (λ s. not (is_valid_slot area c s) || some_below (λ n. is_slot_at area c (place_of dii n) s) (place_count dii)) 16 (λ s ls. if_or (is_valid_slot area c s) _
    (λ valid. let one = fit.each s ls valid in some_of (λ n. is_slot_at area c (place_of dii n) s) (place_count dii) one.number (lie.below one.number one.place one.is_place) (slot_at_is area c (place_of dii one.number) one.place s one.is_place one.is_slot))))
    (and_both _ _
    (all_of (λ s. all_below (λ n. not (is_slot_at area c (place_of dii n) s) || not (is_marked area c n)) (place_count dii)) 16 (λ s ls.
    all_of (λ n. not (is_slot_at area c (place_of dii n) s) || not (is_marked area c n)) (place_count dii) (λ n below. if_or (is_slot_at area c (place_of dii n) s) (not (is_marked area c n))
    (λ is. let at = slot_at_of area c (place_of dii n) s is in not_of (is_marked area c n) (fit.unmarked s n at.0 ls at.1 at.2)))))
    (all_of (λ s. all_below (λ t. all_below (λ n. not (is_slot_at area c (place_of dii n) s && is_slot_at area c (place_of dii n) t) || s == t) (place_count dii)) 16) 16 (λ s ls.
    all_of (λ t. all_below (λ n. not (is_slot_at area c (place_of dii n) s && is_slot_at area c (place_of dii n) t) || s == t) (place_count dii)) 16 (λ t lt.
    all_of (λ n. not (is_slot_at area c (place_of dii n) s && is_slot_at area c (place_of dii n) t) || s == t) (place_count dii) (λ n below.
    if_or (is_slot_at area c (place_of dii n) s && is_slot_at area c (place_of dii n) t) (s == t)
    (λ both. let at = slot_at_of area c (place_of dii n) s (and_left _ _ both) in eq-eqb s t (fit.another s t n at.0 ls lt at.1 at.2 (let other = slot_at_of area c (place_of dii n) t (and_right (is_slot_at area c (place_of dii n) s) _ both) in
    subst (λ (p : Place). is_slot_of area c p t ≡ true) (some_one other.0 at.0 (sym other.1 ∙ at.1)) other.2))))))))

-- ---- what is staged

module _ (area : SpareArea) (c : List ℕ) (order : IsInOrder area) where
  dii_held : (d : Option DiiFields) (dii : DiiFields) → dii_message.of (message_in (journal_in area c)) ≡ d → dii_that_fits area d ≡ Some dii
      → is_header (journal_in area c) && header_number (journal_in area c) == area.next ≡ true → HasHeldMessage area c (message_in (journal_in area c)) dii
  dii_held None dii e is header = absurd cc
  dii_held (Some d) dii e is header =
      let both = if_some (dii_fits area d) d dii is in
      subst (λ (q : DiiFields). HasHeldMessage area c (message_in (journal_in area c)) q) both.1 (record {
        header = header_from (journal_in area c) (and_left _ _ header);
        next = eqb-true (header_number (journal_in area c)) area.next (and_right _ _ header);
        is = refl;
        reads = e;
        usable = none_some (refusal d area.bank_len) (and_left _ _ both.0);
        few = leb-true (place_count d) area.marks (and_right (not (is_some (refusal d area.bank_len))) _ both.0);
      })

  if_then : (b : Bool) (x : Option DiiFields) (dii : DiiFields) → (if b then x else None) ≡ Some dii → (b ≡ true) × (x ≡ Some dii)
  if_then true x dii e = (refl, e)
  if_then false x dii e = absurd cc

  -- what the function gives is held
  pub told_held : (dii : DiiFields) → held_dii area c ≡ Some dii → HasHeldMessage area c (message_in (journal_in area c)) dii
  unfolding held_dii
  told_held dii e =
      let both = if_then (is_header (journal_in area c) && header_number (journal_in area c) == area.next) (dii_that_fits area (dii_message.of (message_in (journal_in area c)))) dii e in
      dii_held (dii_message.of (message_in (journal_in area c))) dii refl both.1 both.0

  -- and the function gives what is held
  pub held_told : (message : List ℕ) (dii : DiiFields) → HasHeldMessage area c message dii → held_dii area c ≡ Some dii
  unfolding held_dii
  held_told message dii held =
      let reads : dii_message.of (message_in (journal_in area c)) ≡ Some dii = ap dii_message.of (sym held.is) ∙ held.reads in
      let fits : dii_fits area dii ≡ true = and_both _ _ (ap (λ (r : Option _). not (is_some r)) held.usable) (le-leb (place_count dii) area.marks held.few) in
      if_true (is_header (journal_in area c) && header_number (journal_in area c) == area.next) (dii_that_fits area (dii_message.of (message_in (journal_in area c)))) None
      (and_both _ _ (header_to (journal_in area c) held.header) (eq-eqb (header_number (journal_in area c)) area.next held.next))
      ∙ (ap (dii_that_fits area) reads ∙ if_true (dii_fits area dii) (Some dii) None fits)

  by_held : (h : Option DiiFields) (dii : DiiFields) → held_dii area c ≡ h → dii_with_slots area c h ≡ Some dii → HasStagedMessage area c (message_in (journal_in area c)) dii
  by_held None dii e is = absurd cc
  by_held (Some d) dii e is =
      let both = if_some (slots_fit area d c && nat_le (lost_places area d c) (free_slots area c)) d dii is in
      let held = told_held d e in
      subst (λ (q : DiiFields). HasStagedMessage area c (message_in (journal_in area c)) q) both.1 (record {
        held = held;
        slots = fits_slots area d c (held_lie area c (message_in (journal_in area c)) d order held) (and_left _ _ both.0);
        enough = leb-true (lost_places area d c) (free_slots area c) (and_right (slots_fit area d c) _ both.0);
      })

  -- The message is staged that the function gives, under the DII that it gives,
  pub told_staged : (dii : DiiFields) → staged_dii area c ≡ Some dii → HasStagedMessage area c (message_in (journal_in area c)) dii
  unfolding staged_dii
  told_staged dii e = by_held (held_dii area c) dii refl e

  -- and the function gives the one that is staged.
  pub staged_told : (message : List ℕ) (dii : DiiFields) → HasStagedMessage area c message dii → (staged_dii area c ≡ Some dii) × (staged_message area c ≡ Some message)
  unfolding staged_dii
  staged_told message dii staged =
      let all : staged_dii area c ≡ Some dii =
      ap (dii_with_slots area c) (held_told message dii staged.held)
      ∙ if_true (slots_fit area dii c && nat_le (lost_places area dii c) (free_slots area c)) (Some dii) None
      (and_both _ _ (slots_fits area dii c (held_lie area c message dii order staged.held) staged.slots) (le-leb (lost_places area dii c) (free_slots area c) staged.enough)) in
      (all, ap (option_map (λ d. message_in (journal_in area c))) all ∙ ap (λ (m : List ℕ). Some m) (sym staged.held.is))

  map_some : {A B : Type 0} (f : A → B) (o : Option A) (b : B) → option_map f o ≡ Some b → (a : A) × (o ≡ Some a) × (f a ≡ b)
  map_some f None b e = absurd cc
  map_some f (Some a) b e = (a, refl, cc)

  abbrev in_bank : Place → List ℕ
  in_bank p = part c (area.bank + p.at) p.len

  abbrev in_slot : Place → Option (List ℕ)
  in_slot p = option_map (λ s. part c (slot_bytes area s) p.len) (find_below (is_slot_of area c p) 16)

  place_staged : (dii : DiiFields) (n : ℕ) (b : List ℕ) → HasStagedMessage area c (message_in (journal_in area c)) dii → (q : Option Place) → place_of dii n ≡ q
      → place_text area c n q ≡ Some b → IsStaged area c (message_in (journal_in area c)) n b
  place_staged dii n b staged None at e = absurd cc
  place_staged dii n b staged (Some p) at e = by_mark (is_marked area c n) refl
    where
      has : Stands area c n p b → IsStaged area c (message_in (journal_in area c)) n b
      has stands = record { dii = dii; staged = staged; held = record { dii = dii; under = staged.held; place = p; is_place = at; stands = stands } }

      by_mark : (m : Bool) → is_marked area c n ≡ m → IsStaged area c (message_in (journal_in area c)) n b
      by_mark true is = has (InBank is (sym (some_one (in_bank p) b (sym (if_true (is_marked area c n) (Some (in_bank p)) (in_slot p) is) ∙ e))))
      by_mark false is =
          let one = map_some (λ s. part c (slot_bytes area s) p.len) (find_below (is_slot_of area c p) 16) b (sym (if_false (is_marked area c n) (Some (in_bank p)) (in_slot p) is) ∙ e) in
          let found = find_is (is_slot_of area c p) 16 one.0 one.1 in
          has (InSlot one.0 found.0 found.1 (sym one.2))

  by_staged : (n : ℕ) (b : List ℕ) (s : Option DiiFields) → staged_dii area c ≡ s → text_under area c s n ≡ Some b → IsStaged area c (message_in (journal_in area c)) n b
  by_staged n b None is e = absurd cc
  by_staged n b (Some dii) is e = place_staged dii n b (told_staged dii is) (place_of dii n) refl e

  -- The bytes that the function gives are staged,
  pub bytes_staged : (n : ℕ) (b : List ℕ) → staged_bytes area c n ≡ Some b → IsStaged area c (message_in (journal_in area c)) n b
  unfolding staged_bytes
  bytes_staged n b e = by_staged n b (staged_dii area c) refl e

  stands_as : (dii : DiiFields) (n : ℕ) (p : Place) (b : List ℕ) → SlotsFit area dii c → place_of dii n ≡ Some p → Stands area c n p b → place_text area c n (Some p) ≡ Some b
  stands_as dii n p b fit at (InBank is e) = if_true (is_marked area c n) (Some (in_bank p)) (in_slot p) is ∙ ap (λ (x : List ℕ). Some x) (sym e)
  stands_as dii n p b fit at (InSlot s ls is e) =
      let one = find_some (is_slot_of area c p) 16 s ls is in
      let found = find_is (is_slot_of area c p) 16 one.0 one.1 in
      let same : one.0 ≡ s = fit.another one.0 s n p found.0 ls at found.1 is in
      if_false (is_marked area c n) (Some (in_bank p)) (in_slot p) (fit.unmarked s n p ls at is)
      ∙ (ap (option_map (λ s. part c (slot_bytes area s) p.len)) one.1
      ∙ (ap (λ (t : ℕ). Some (part c (slot_bytes area t) p.len)) same
      ∙ ap (λ (x : List ℕ). Some x) (sym e)))

  -- and the function gives those that are staged.
  pub staged_gives : (message : List ℕ) (n : ℕ) (b : List ℕ) → IsStaged area c message n b → staged_bytes area c n ≡ Some b
  unfolding staged_bytes
  staged_gives message n b has =
      let own : has.held.dii ≡ has.dii = dii_one area c c message has.held.dii has.dii has.held.under has.staged.held in
      let at : place_of has.dii n ≡ Some has.held.place = subst (λ (q : DiiFields). place_of q n ≡ Some has.held.place) own has.held.is_place in
      ap (λ (s : Option DiiFields). text_under area c s n) (staged_told message has.dii has.staged).0
      ∙ (ap (place_text area c n) at
      ∙ stands_as has.dii n has.held.place b has.staged.slots at has.held.stands)

  -- what the function gives as the message is staged,
  message_from : (message : List ℕ) (d : Option DiiFields) → staged_dii area c ≡ d → option_map (λ q. message_in (journal_in area c)) d ≡ Some message
      → (dii : DiiFields) × HasStagedMessage area c message dii
  message_from message None e is = absurd cc
  message_from message (Some dii) e is =
      (dii, subst (λ (m : List ℕ). HasStagedMessage area c m dii) (some_one (message_in (journal_in area c)) message is) (told_staged dii e))

pub message_told : (area : SpareArea) (c message : List ℕ) → IsInOrder area → staged_message area c ≡ Some message → (dii : DiiFields) × HasStagedMessage area c message dii
message_told area c message order e = message_from area c order message (staged_dii area c) refl e

-- and so are the bytes that it gives, under that message
pub bytes_told : (area : SpareArea) (c message : List ℕ) (n : ℕ) (b : List ℕ) → IsInOrder area → staged_message area c ≡ Some message → staged_bytes area c n ≡ Some b
    → IsStaged area c message n b
bytes_told area c message n b order e bytes =
    let one = message_told area c message order e in
    subst (λ (m : List ℕ). IsStaged area c m n b) (sym one.1.held.is) (bytes_staged area c order n b bytes)

-- what is staged is one text for each place
pub one_text : (area : SpareArea) (c message : List ℕ) (n : ℕ) (a b : List ℕ) → IsInOrder area → IsStaged area c message n a → IsStaged area c message n b → a ≡ b
one_text area c message n a b order first second = some_one a b (sym (staged_gives area c order message n a first) ∙ staged_gives area c order message n b second)
