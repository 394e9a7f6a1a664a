-- What a change of one slot, which was free, makes of what is held and staged.
use Rattle.std.proofs.Common.{◌≡◌, ◌≢◌, ◌⊎◌, inl, inr, ℕ, ◌+◌, ◌^◌, ◌<◌, ◌≤◌, true, false, List, length, get_or, Option, Some, sym, ap, subst, ◌∙◌, arith}
use Rattle.std.specs.Prelude.{◌==◌, ◌&&◌}
use Rattle.std.proofs.lemmas.Bool.{cases_eq, cases_lt, eq-eqb, eqb-true}
use Rattle.dsmcc_msg.specs.Control.{DiiFields}
use Rattle.flash_layout.specs.Pairs.{part}
use Rattle.flash_layout.specs.Slots.{slot_at, slot_len, slot_written}
use Rattle.flash_layout.proofs.PartLemmas.{part_held, part_same}
use Rattle.ssu_group.specs.declared.places.Place.{Place}
use Rattle.flash_kept.specs.Counts.{one_if}
use Rattle.flash_kept.specs.Held.{HasHeldMessage, IsHeld, InBank, InSlot, Stands}
use Rattle.flash_kept.specs.Leaving.{ChangesSlot, IsOutside, MarginFalls, PlacesLie, SameIn}
use Rattle.flash_kept.specs.Lost.{is_lost, lost_places}
use Rattle.flash_kept.specs.Places.{place_count, place_of}
use Rattle.flash_kept.specs.Slots.{free_slots, is_free, is_marked, is_slot_of, is_slotted, is_valid_slot, slot_in}
use Rattle.flash_kept.specs.SpareArea.{SpareArea, mark_place, slot_bytes, slot_place}
use Rattle.flash_kept.specs.Staged.{HasStagedMessage, IsOfSomePlace, SlotsFit}
use Rattle.flash_kept.proofs.Cases.{one_most, same_tests, some_one, true_false}
use Rattle.flash_kept.proofs.CountLaws.{and_both, and_left, and_right, count_one, none_of}
use Rattle.flash_kept.proofs.HeaderLaws.{dii_one, held_same}
use Rattle.flash_kept.proofs.PairLaws.{above_is, same_within}
use Rattle.flash_kept.proofs.SameLaws.{free_same, mark_same, place_lost_same}
use Rattle.flash_kept.proofs.SlotLaws.{free_no_slot, head_at, head_valid, slot_of_same, slot_same, slot_whole, slotted_same, written_whole}

-- two places of a plan that begin at one byte are one
pub one_place : (area : SpareArea) (dii : DiiFields) → PlacesLie area dii → (n m : ℕ) (p q : Place) → place_of dii n ≡ Some p → place_of dii m ≡ Some q → p.at ≡ q.at → n ≡ m
one_place area dii lie n m p q e f same = by_number (cases_eq n m)
  where
    by_number : (n ≡ m) ⊎ (n ≡ m → ⊥) → n ≡ m
    by_number (inl is) = is
    by_number (inr other) = by_order (lie.apart n m p q e f other)
      where
        by_order : (p.at + p.len ≤ q.at) ⊎ (q.at + q.len ≤ p.at) → n ≡ m
        by_order (inl before) = let some = (lie.not_empty n p e).0 in absurd (omega (arith, before, some, same))
        by_order (inr behind) = let some = (lie.not_empty m q f).0 in absurd (omega (arith, behind, some, same))

-- y is not x in the slot numbered s, which was free in x
module _ (area : SpareArea) (dii : DiiFields) (lie : PlacesLie area dii) (a : ℕ) (p : Place) (is : place_of dii a ≡ Some p)
    (s : ℕ) (ls : s < 16) (bytes : List ℕ) (long : length bytes ≡ p.len) (x y : List ℕ) (lv : ChangesSlot area s p bytes x y) (was_free : is_free area x s ≡ true) (fits : area.journal + area.journal_len ≤ length x) where
  pub journal_same : SameIn area.journal 8448 x y
  journal_same k lt = let marks = lie.order.marks in lv.same (area.journal + k) (inl (omega (arith, marks)))

  pub mark_all : (n : ℕ) → n < place_count dii → SameIn (mark_place area n) 2 x y
  mark_all n below k lt = let marks = lie.order.marks in let few = lie.few in lv.same (mark_place area n + k) (inl (omega (arith, marks, few, below)))

  pub range_all : (n : ℕ) (q : Place) → place_of dii n ≡ Some q → SameIn (area.bank + q.at) q.len x y
  range_all n q e k lt = let inside = lie.inside n q e in let behind = lie.order.behind in lv.same (area.bank + q.at + k) (inl (omega (arith, inside, behind)))

  pub slot_other : (t : ℕ) → t ≢ s → SameIn (slot_place area t) 4352 x y
  slot_other t other k lt = lv.same (slot_place area t + k) (by_order (cases_lt t s))
    where
      by_order : (t < s) ⊎ (s ≤ t) → IsOutside (slot_place area s) 4352 (slot_place area t + k)
      by_order (inl less) = inl (omega (arith, less))
      by_order (inr more) = inr (omega (arith, more, other))

  head_other : (t : ℕ) → t ≢ s → SameIn (slot_place area t) 16 x y
  head_other t other = same_within (slot_place area t) 4352 (slot_place area t) 16 x y (omega arith) (omega arith) (slot_other t other)

  fits_after : area.journal + area.journal_len ≤ length y
  fits_after = let size = lv.size in omega (arith, size, fits)

  at_fits : p.at < 2 ^ 32
  at_fits = let inside = lie.inside a p is in let behind = lie.order.behind in let most = lie.order.addressable in omega (arith, inside, behind, most)

  -- the slot was not valid
  was_none : (q : Place) → is_slot_of area x q s ≡ true → ⊥
  was_none q valid = free_no_slot area x lie.order fits s ls was_free (and_left _ _ valid)

  -- where it is valid in y, its whole head stands
  head_stands : is_valid_slot area y s ≡ true → (k : ℕ) → k < 16 → get_or y (slot_place area s + k) 0 ≡ get_or (slot_written p.at p.len) k 0
  head_stands valid k lt =
      let few = (lie.not_empty a p is).1 in
      above_is (slot_written p.at p.len) y (slot_place area s) 8 (λ i below. (written_whole p.at p.len at_fits (omega (arith, few))).each i below) lv.above (slot_whole area y lie.order fits_after s ls valid) k lt

  slot_says : is_valid_slot area y s ≡ true → (slot_at (slot_in area y s) ≡ p.at) × (slot_len (slot_in area y s) ≡ p.len)
  slot_says valid = head_at area y lie.order fits_after s ls p (record { each = head_stands valid })

  own_slot : is_valid_slot area y s ≡ true → is_slot_of area y p s ≡ true
  own_slot valid =
      let says = slot_says valid in
      and_both _ _ valid (and_both _ _ (eq-eqb (slot_at (slot_in area y s)) p.at says.0) (eq-eqb (slot_len (slot_in area y s)) p.len says.1))

  -- of this place alone
  own_place : (n : ℕ) (q : Place) → place_of dii n ≡ Some q → is_slot_of area y q s ≡ true → n ≡ a
  own_place n q e valid =
      let says = slot_says (and_left _ _ valid) in
      let rest = and_right (is_valid_slot area y s) (slot_at (slot_in area y s) == q.at && slot_len (slot_in area y s) == q.len) valid in
      let own = eqb-true (slot_at (slot_in area y s)) q.at (and_left (slot_at (slot_in area y s) == q.at) (slot_len (slot_in area y s) == q.len) rest) in
      one_place area dii lie n a q p e is (sym own ∙ says.0)

  slot_of_other : (n : ℕ) (q : Place) → place_of dii n ≡ Some q → n ≢ a → (t : ℕ) → t < 16 → is_slot_of area y q t ≡ is_slot_of area x q t
  slot_of_other n q e other t lt = by_slot (cases_eq t s)
    where
      by_slot : (t ≡ s) ⊎ (t ≡ s → ⊥) → is_slot_of area y q t ≡ is_slot_of area x q t
      by_slot (inr differs) = slot_of_same area q t x y lv.size (head_other t differs)
      by_slot (inl same) =
          subst (λ (u : ℕ). is_slot_of area y q u ≡ is_slot_of area x q u) (sym same)
          (same_tests (is_slot_of area y q s) (is_slot_of area x q s) (λ now. absurd (other (own_place n q e now))) (λ was. absurd (was_none q was)))

  pub lost_other : (n : ℕ) → n < place_count dii → n ≢ a → is_lost area y n (place_of dii n) ≡ is_lost area x n (place_of dii n)
  lost_other n below other = place_lost_same area x y n (place_of dii n) (mark_all n below) (λ q e. slotted_same area q x y (slot_of_other n q e other)) (λ q e. range_all n q e)

  pub lost_one : lost_places area dii y + one_if (is_lost area x a (Some p)) ≡ lost_places area dii x + one_if (is_lost area y a (Some p))
  unfolding lost_places
  lost_one =
      subst (λ (q : Option Place). lost_places area dii y + one_if (is_lost area x a q) ≡ lost_places area dii x + one_if (is_lost area y a q)) is
      (count_one (λ n. is_lost area x n (place_of dii n)) (λ n. is_lost area y n (place_of dii n)) (place_count dii) a (lie.below a p is) (λ n lt other. lost_other n lt other))

  pub free_one : free_slots area y + 1 ≡ free_slots area x + one_if (is_free area y s)
  unfolding free_slots
  free_one =
      let one = count_one (is_free area x) (is_free area y) 16 s ls (λ t lt other. free_same area t x y (slot_other t other)) in
      let was = ap one_if was_free in
      omega (arith, one, was)

  -- the place was lost: the margin falls by one at most, and not at all where the slot is valid
  module _ (was_lost : is_lost area x a (Some p) ≡ true) where
    pub margin_one : MarginFalls area dii 1 x y
    margin_one =
        let l = lost_one in let f = free_one in let was = ap one_if was_lost in let now = one_most (is_lost area y a (Some p)) in
        omega (arith, l, f, was, now)

    pub margin_kept : is_lost area y a (Some p) ≡ false → MarginFalls area dii 0 x y
    margin_kept none =
        let l = lost_one in let f = free_one in let was = ap one_if was_lost in let now = ap one_if none in
        omega (arith, l, f, was, now)

  -- what is staged in x is staged in y, where the place had no slot and no mark
  module _ (message : List ℕ) (stages : HasStagedMessage area x message dii) (not_slotted : is_slotted area x p ≡ false) (not_marked : is_marked area x a ≡ false) where
    held_still : HasHeldMessage area y message dii
    held_still = held_same area y x message dii lie.order (λ k lt. sym (journal_same k lt)) stages.held

    no_slot : (t : ℕ) → t < 16 → is_slot_of area x p t ≡ true → ⊥
    unfolding is_slotted
    no_slot t lt valid = true_false (is_slot_of area x p t) valid (none_of (is_slot_of area x p) 16 not_slotted t lt)

    each : (t : ℕ) → t < 16 → is_valid_slot area y t ≡ true → IsOfSomePlace area dii y t
    each t lt valid = by_slot (cases_eq t s)
      where
        by_slot : (t ≡ s) ⊎ (t ≡ s → ⊥) → IsOfSomePlace area dii y t
        by_slot (inl same) = record {
          number = a;
          place = p;
          is_place = is;
          is_slot = subst (λ (u : ℕ). is_slot_of area y p u ≡ true) (sym same) (own_slot (subst (λ (u : ℕ). is_valid_slot area y u ≡ true) same valid));
        }
        by_slot (inr other) =
            let was = stages.slots.each t lt (sym (slot_same area t x y lv.size (head_other t other)) ∙ valid) in
            record { number = was.number; place = was.place; is_place = was.is_place; is_slot = slot_of_same area was.place t x y lv.size (head_other t other) ∙ was.is_slot }

    unmarked : (t n : ℕ) (q : Place) → t < 16 → place_of dii n ≡ Some q → is_slot_of area y q t ≡ true → is_marked area y n ≡ false
    unmarked t n q lt e valid = mark_same area n x y (mark_all n (lie.below n q e)) ∙ by_slot (cases_eq t s)
      where
        by_slot : (t ≡ s) ⊎ (t ≡ s → ⊥) → is_marked area x n ≡ false
        by_slot (inl same) = subst (λ (m : ℕ). is_marked area x m ≡ false) (sym (own_place n q e (subst (λ (u : ℕ). is_slot_of area y q u ≡ true) same valid))) not_marked
        by_slot (inr other) = stages.slots.unmarked t n q lt e (sym (slot_of_same area q t x y lv.size (head_other t other)) ∙ valid)

    another : (t u n : ℕ) (q : Place) → t < 16 → u < 16 → place_of dii n ≡ Some q → is_slot_of area y q t ≡ true → is_slot_of area y q u ≡ true → t ≡ u
    another t u n q lt lu e f g = by_slots (cases_eq t s) (cases_eq u s)
      where
        back : (v : ℕ) → v < 16 → v ≢ s → is_slot_of area y q v ≡ true → is_slot_of area x q v ≡ true
        back v lt_v other valid = sym (slot_of_same area q v x y lv.size (head_other v other)) ∙ valid

        clash : (v w : ℕ) → w < 16 → v ≡ s → w ≢ s → is_slot_of area y q v ≡ true → is_slot_of area y q w ≡ true → ⊥
        clash v w lw at other first second =
            let n_is : n ≡ a = own_place n q e (subst (λ (k : ℕ). is_slot_of area y q k ≡ true) at first) in
            let own : q ≡ p = some_one q p (sym e ∙ ap (place_of dii) n_is ∙ is) in
            no_slot w lw (subst (λ (r : Place). is_slot_of area x r w ≡ true) own (back w lw other second))

        by_slots : (t ≡ s) ⊎ (t ≡ s → ⊥) → (u ≡ s) ⊎ (u ≡ s → ⊥) → t ≡ u
        by_slots (inl t_is) (inl u_is) = t_is ∙ sym u_is
        by_slots (inl t_is) (inr u_not) = absurd (clash t u lu t_is u_not f g)
        by_slots (inr t_not) (inl u_is) = absurd (clash u t lt u_is t_not g f)
        by_slots (inr t_not) (inr u_not) = stages.slots.another t u n q lt lu e (back t lt t_not f) (back u lu u_not g)

    slots_still : SlotsFit area dii y
    slots_still = record { each = each; unmarked = unmarked; another = another }

    pub stages_still : lost_places area dii y ≤ free_slots area y → HasStagedMessage area y message dii
    stages_still enough = record { held = held_still; slots = slots_still; enough = enough }

  -- each place that is held stays, with its bytes
  stands_still : (n : ℕ) (q : Place) (b : List ℕ) → place_of dii n ≡ Some q → Stands area x n q b → Stands area y n q b
  stands_still n q b e (InBank marked at) =
      InBank (mark_same area n x y (mark_all n (lie.below n q e)) ∙ marked) (at ∙ sym (part_same x y (area.bank + q.at) q.len lv.size (range_all n q e)))
  stands_still n q b e (InSlot t lt valid at) =
      let size = lie.not_empty n q e in
      let other : t ≢ s = (λ same. was_none q (subst (λ (u : ℕ). is_slot_of area x q u ≡ true) same valid)) in
      InSlot t lt (slot_of_same area q t x y lv.size (head_other t other) ∙ valid)
      (at ∙ sym (part_same x y (slot_bytes area t) q.len lv.size (same_within (slot_place area t) 4352 (slot_bytes area t) q.len x y (omega arith) (omega (arith, size)) (slot_other t other))))

  pub holds_still : (message : List ℕ) (n : ℕ) (b : List ℕ) → HasHeldMessage area x message dii → IsHeld area x message n b → IsHeld area y message n b
  holds_still message n b heads holds =
      let own : holds.dii ≡ dii = dii_one area x x message holds.dii dii holds.under heads in
      let at : place_of dii n ≡ Some holds.place = subst (λ (q : DiiFields). place_of q n ≡ Some holds.place) own holds.is_place in
      record {
        dii = dii;
        under = held_same area y x message dii lie.order (λ k lt. sym (journal_same k lt)) heads;
        place = holds.place;
        is_place = at;
        stands = stands_still n holds.place b at holds.stands;
      }

  -- the bytes of the slot, where its head stands
  pub slot_holds : is_valid_slot area y s ≡ true → part y (slot_bytes area s) p.len ≡ bytes
  slot_holds valid =
      let few = (lie.not_empty a p is).1 in let ends = lie.order.ends in
      part_held y bytes (slot_bytes area s) p.len long (omega (arith, few, ends, ls, fits_after)) (lv.all (head_stands valid))

  -- what is held in y was held in x, or it is this place with these bytes
  pub holds_more : (message : List ℕ) (n : ℕ) (b : List ℕ) → HasHeldMessage area x message dii → IsHeld area y message n b
      → IsHeld area x message n b ⊎ ((n ≡ a) × (b ≡ bytes))
  holds_more message n b heads holds =
      let back : HasHeldMessage area x message holds.dii = held_same area x y message holds.dii lie.order journal_same holds.under in
      let own : holds.dii ≡ dii = dii_one area x x message holds.dii dii back heads in
      let at : place_of dii n ≡ Some holds.place = subst (λ (q : DiiFields). place_of q n ≡ Some holds.place) own holds.is_place in
      by_stand holds.place at holds.stands
    where
      was : (q : Place) → place_of dii n ≡ Some q → Stands area x n q b → IsHeld area x message n b
      was q e stands = record { dii = dii; under = heads; place = q; is_place = e; stands = stands }

      by_stand : (q : Place) → place_of dii n ≡ Some q → Stands area y n q b → IsHeld area x message n b ⊎ ((n ≡ a) × (b ≡ bytes))
      by_stand q e (InBank marked at) =
          inl (was q e (InBank (sym (mark_same area n x y (mark_all n (lie.below n q e))) ∙ marked) (at ∙ part_same x y (area.bank + q.at) q.len lv.size (range_all n q e))))
      by_stand q e (InSlot t lt valid at) = by_slot (cases_eq t s)
        where
          by_slot : (t ≡ s) ⊎ (t ≡ s → ⊥) → IsHeld area x message n b ⊎ ((n ≡ a) × (b ≡ bytes))
          by_slot (inr other) =
              let size = lie.not_empty n q e in
              inl (was q e (InSlot t lt (sym (slot_of_same area q t x y lv.size (head_other t other)) ∙ valid)
              (at ∙ part_same x y (slot_bytes area t) q.len lv.size (same_within (slot_place area t) 4352 (slot_bytes area t) q.len x y (omega arith) (omega (arith, size)) (slot_other t other)))))
          by_slot (inl same) =
              let now : is_slot_of area y q s ≡ true = subst (λ (u : ℕ). is_slot_of area y q u ≡ true) same valid in
              let n_is : n ≡ a = own_place n q e now in
              let own : q ≡ p = some_one q p (sym e ∙ ap (place_of dii) n_is ∙ is) in
              let here : b ≡ part y (slot_bytes area s) q.len = at ∙ ap (λ (u : ℕ). part y (slot_bytes area u) q.len) same in
              inr (n_is, here ∙ (ap (λ (r : Place). part y (slot_bytes area s) r.len) own ∙ slot_holds (and_left _ _ now)))

  -- once the head was programmed the slot is valid
  pub slot_done : ((k : ℕ) → k < 16 → get_or y (slot_place area s + k) 0 ≡ get_or (slot_written p.at p.len) k 0) → is_slot_of area y p s ≡ true
  slot_done done =
      let size = lie.not_empty a p is in
      head_valid area y lie.order fits_after s ls p at_fits size.0 size.1 (lie.inside a p is) (record { each = done })
