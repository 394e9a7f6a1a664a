-- What a change of one place and its mark makes of what is held and staged.
use Rattle.std.proofs.Common.{◌≡◌, ◌≢◌, ◌⊎◌, inl, inr, ℕ, ◌+◌, ◌<◌, ◌≤◌, true, false, List, Option, Some, sym, ap, subst, ◌∙◌, arith}
use Rattle.std.proofs.lemmas.Bool.{cases_eq, cases_lt}
use Rattle.dsmcc_msg.specs.Control.{DiiFields}
use Rattle.flash_layout.specs.Pairs.{part}
use Rattle.flash_layout.proofs.PartLemmas.{part_same}
use Rattle.ssu_group.specs.declared.places.Place.{Place}
use Rattle.flash_kept.specs.Counts.{one_if}
use Rattle.flash_kept.specs.Held.{HasHeldMessage, IsHeld, InBank, InSlot, Stands}
use Rattle.flash_kept.specs.Leaving.{ChangesPlace, IsOutside, MarginFalls, PlacesLie, SameIn}
use Rattle.flash_kept.specs.Lost.{is_lost, lost_places}
use Rattle.flash_kept.specs.Places.{place_count, place_of}
use Rattle.flash_kept.specs.Slots.{free_slots, is_free, is_marked, is_slot_of, is_slotted}
use Rattle.flash_kept.specs.SpareArea.{SpareArea, mark_place, slot_bytes, slot_place}
use Rattle.flash_kept.specs.Staged.{HasStagedMessage, SlotsFit}
use Rattle.flash_kept.proofs.Cases.{one_most, some_one, true_false}
use Rattle.flash_kept.proofs.CountLaws.{count_one, count_same, none_of}
use Rattle.flash_kept.proofs.HeaderLaws.{dii_one, held_same}
use Rattle.flash_kept.proofs.PairLaws.{same_within}
use Rattle.flash_kept.proofs.SameLaws.{free_same, mark_same, place_lost_same}
use Rattle.flash_kept.proofs.SlotLaws.{slot_of_same, slot_same, slotted_same}

-- y is not x in the place numbered a and in its mark
module _ (area : SpareArea) (dii : DiiFields) (lie : PlacesLie area dii) (a : ℕ) (p : Place) (is : place_of dii a ≡ Some p) (x y : List ℕ) (ch : ChangesPlace area a p x y) where
  pub journal_same : SameIn area.journal 8448 x y
  journal_same k lt =
      let inside = lie.inside a p is in let behind = lie.order.behind in
      ch.same (area.journal + k) (inr (omega (arith, inside, behind))) (inl (omega arith))

  pub slots_same : (s : ℕ) → SameIn (slot_place area s) 4352 x y
  slots_same s k lt =
      let inside = lie.inside a p is in let behind = lie.order.behind in let marks = lie.order.marks in let below = lie.below a p is in let few = lie.few in
      ch.same (slot_place area s + k) (inr (omega (arith, inside, behind))) (inr (omega (arith, marks, below, few)))

  pub mark_other : (n : ℕ) → n ≢ a → SameIn (mark_place area n) 2 x y
  mark_other n other k lt =
      let inside = lie.inside a p is in let behind = lie.order.behind in
      ch.same (mark_place area n + k) (inr (omega (arith, inside, behind))) (by_order (cases_lt n a))
    where
      by_order : (n < a) ⊎ (a ≤ n) → IsOutside (mark_place area a) 2 (mark_place area n + k)
      by_order (inl less) = inl (omega (arith, less))
      by_order (inr more) = inr (omega (arith, more, other))

  pub range_other : (n : ℕ) (q : Place) → place_of dii n ≡ Some q → n ≢ a → SameIn (area.bank + q.at) q.len x y
  range_other n q e other k lt =
      let inside = lie.inside n q e in let behind = lie.order.behind in
      ch.same (area.bank + q.at + k) (by_apart (lie.apart n a q p e is other)) (inl (omega (arith, inside, behind)))
    where
      by_apart : (q.at + q.len ≤ p.at) ⊎ (p.at + p.len ≤ q.at) → IsOutside (area.bank + p.at) p.len (area.bank + q.at + k)
      by_apart (inl before) = inl (omega (arith, before))
      by_apart (inr behind) = inr (omega (arith, behind))

  head_same_at : (s : ℕ) → SameIn (slot_place area s) 16 x y
  head_same_at s = same_within (slot_place area s) 4352 (slot_place area s) 16 x y (omega arith) (omega arith) (slots_same s)

  pub slotted_all : (q : Place) → is_slotted area y q ≡ is_slotted area x q
  slotted_all q = slotted_same area q x y (λ s lt. slot_of_same area q s x y ch.size (head_same_at s))

  pub lost_other : (n : ℕ) → n ≢ a → is_lost area y n (place_of dii n) ≡ is_lost area x n (place_of dii n)
  lost_other n other = place_lost_same area x y n (place_of dii n) (mark_other n other) (λ q e. slotted_all q) (λ q e. range_other n q e other)

  pub free_all : free_slots area y ≡ free_slots area x
  unfolding free_slots
  free_all = count_same (is_free area x) (is_free area y) 16 (λ s lt. free_same area s x y (slots_same s))

  pub lost_one : lost_places area dii y + one_if (is_lost area x a (Some p)) ≡ lost_places area dii x + one_if (is_lost area y a (Some p))
  unfolding lost_places
  lost_one =
      subst (λ (q : Option Place). lost_places area dii y + one_if (is_lost area x a q) ≡ lost_places area dii x + one_if (is_lost area y a q)) is
      (count_one (λ n. is_lost area x n (place_of dii n)) (λ n. is_lost area y n (place_of dii n)) (place_count dii) a (lie.below a p is) (λ n lt other. lost_other n other))

  -- the margin falls by one at most
  pub margin_one : MarginFalls area dii 1 x y
  margin_one = let one = lost_one in let same = free_all in let most = one_most (is_lost area y a (Some p)) in omega (arith, one, same, most)

  -- and it does not fall where the place is not lost in y
  pub margin_kept : is_lost area y a (Some p) ≡ false → MarginFalls area dii 0 x y
  margin_kept not_lost = let one = lost_one in let same = free_all in let none = ap one_if not_lost in omega (arith, one, same, none)

  -- what is staged in x is staged in y, where the place has no slot
  module _ (message : List ℕ) (stages : HasStagedMessage area x message dii) (not_slotted : is_slotted area x p ≡ false) where
    held_still : HasHeldMessage area y message dii
    held_still = held_same area y x message dii lie.order (λ k lt. sym (journal_same k lt)) stages.held

    slot_back : (s : ℕ) (q : Place) → is_slot_of area y q s ≡ true → is_slot_of area x q s ≡ true
    slot_back s q e = sym (slot_of_same area q s x y ch.size (head_same_at s)) ∙ e

    mark_unslotted : (s n : ℕ) (q : Place) → s < 16 → place_of dii n ≡ Some q → is_slot_of area y q s ≡ true → is_marked area y n ≡ false
    unfolding is_slotted
    mark_unslotted s n q lt e is_of = by_number (cases_eq n a)
      where
        by_number : (n ≡ a) ⊎ (n ≡ a → ⊥) → is_marked area y n ≡ false
        by_number (inl same) =
            let own : q ≡ p = some_one q p (sym e ∙ ap (place_of dii) same ∙ is) in
            let has : is_slot_of area x p s ≡ true = subst (λ (r : Place). is_slot_of area x r s ≡ true) own (slot_back s q is_of) in
            absurd (true_false (is_slot_of area x p s) has (none_of (is_slot_of area x p) 16 not_slotted s lt))
        by_number (inr other) = mark_same area n x y (mark_other n other) ∙ stages.slots.unmarked s n q lt e (slot_back s q is_of)

    slots_still : SlotsFit area dii y
    slots_still = record {
      each = λ s lt valid.
          let was = stages.slots.each s lt (sym (slot_same area s x y ch.size (head_same_at s)) ∙ valid) in
          record { number = was.number; place = was.place; is_place = was.is_place; is_slot = slot_of_same area was.place s x y ch.size (head_same_at s) ∙ was.is_slot };
      unmarked = mark_unslotted;
      another = λ s t n q ls lt e f g. stages.slots.another s t n q ls lt e (slot_back s q f) (slot_back t q g);
    }

    pub stages_still : lost_places area dii y ≤ free_slots area y → HasStagedMessage area y message dii
    stages_still enough = record { held = held_still; slots = slots_still; enough = enough }

    pub stages_one : lost_places area dii x + 1 ≤ free_slots area x → HasStagedMessage area y message dii
    stages_one margin = stages_still (let m = margin_one in omega (arith, m, margin))

  -- each other place that is held stays, with its bytes
  stands_still : (n : ℕ) (q : Place) (bytes : List ℕ) → place_of dii n ≡ Some q → n ≢ a → Stands area x n q bytes → Stands area y n q bytes
  stands_still n q bytes e other (InBank marked at) =
      InBank (mark_same area n x y (mark_other n other) ∙ marked) (at ∙ sym (part_same x y (area.bank + q.at) q.len ch.size (range_other n q e other)))
  stands_still n q bytes e other (InSlot s lt valid at) =
      let size = lie.not_empty n q e in
      InSlot s lt (slot_of_same area q s x y ch.size (head_same_at s) ∙ valid)
      (at ∙ sym (part_same x y (slot_bytes area s) q.len ch.size (same_within (slot_place area s) 4352 (slot_bytes area s) q.len x y (omega arith) (omega (arith, size)) (slots_same s))))

  pub holds_still : (message : List ℕ) (n : ℕ) (bytes : List ℕ) → HasHeldMessage area x message dii → n ≢ a → IsHeld area x message n bytes → IsHeld area y message n bytes
  holds_still message n bytes heads other holds =
      let own : holds.dii ≡ dii = dii_one area x x message holds.dii dii holds.under heads in
      let at : place_of dii n ≡ Some holds.place = subst (λ (q : DiiFields). place_of q n ≡ Some holds.place) own holds.is_place in
      record {
        dii = dii;
        under = held_same area y x message dii lie.order (λ k lt. sym (journal_same k lt)) heads;
        place = holds.place;
        is_place = at;
        stands = stands_still n holds.place bytes at other holds.stands;
      }

  -- what is held in y was held in x, or it is this place, marked, with its bytes in the bank
  pub holds_more : (message : List ℕ) (n : ℕ) (bytes : List ℕ) → HasHeldMessage area x message dii → IsHeld area y message n bytes
      → IsHeld area x message n bytes ⊎ ((n ≡ a) × (is_marked area y a ≡ true) × (bytes ≡ part y (area.bank + p.at) p.len))
  holds_more message n bytes heads holds =
      let back : HasHeldMessage area x message holds.dii = held_same area x y message holds.dii lie.order journal_same holds.under in
      let own : holds.dii ≡ dii = dii_one area x x message holds.dii dii back heads in
      let at : place_of dii n ≡ Some holds.place = subst (λ (q : DiiFields). place_of q n ≡ Some holds.place) own holds.is_place in
      by_stand holds.place at holds.stands (cases_eq n a)
    where
      was : (q : Place) → place_of dii n ≡ Some q → Stands area x n q bytes → IsHeld area x message n bytes
      was q e stands = record { dii = dii; under = heads; place = q; is_place = e; stands = stands }

      by_stand : (q : Place) → place_of dii n ≡ Some q → Stands area y n q bytes → (n ≡ a) ⊎ (n ≡ a → ⊥)
          → IsHeld area x message n bytes ⊎ ((n ≡ a) × (is_marked area y a ≡ true) × (bytes ≡ part y (area.bank + p.at) p.len))
      by_stand q e (InSlot s lt valid at) _ =
          let size = lie.not_empty n q e in
          inl (was q e (InSlot s lt (sym (slot_of_same area q s x y ch.size (head_same_at s)) ∙ valid)
          (at ∙ part_same x y (slot_bytes area s) q.len ch.size (same_within (slot_place area s) 4352 (slot_bytes area s) q.len x y (omega arith) (omega (arith, size)) (slots_same s)))))
      by_stand q e (InBank marked at) (inl same) =
          let own : q ≡ p = some_one q p (sym e ∙ ap (place_of dii) same ∙ is) in
          inr (same, subst (λ (k : ℕ). is_marked area y k ≡ true) same marked, at ∙ ap (λ (r : Place). part y (area.bank + r.at) r.len) own)
      by_stand q e (InBank marked at) (inr other) =
          inl (was q e (InBank (sym (mark_same area n x y (mark_other n other)) ∙ marked) (at ∙ part_same x y (area.bank + q.at) q.len ch.size (range_other n q e other))))
