-- Whether a slot fits, by what was read of it.
use Rattle.std.specs.Prelude.{◌↔◌, ◌==◌, ◌&&◌, IfSome, IsSome, IsTrue}
use Rattle.std.proofs.Common.{◌≡◌, ℕ, ◌<◌, Bool, true, false, eqb, List, Option, None, Some, refl, sym, ap, subst, ◌∙◌}
use Rattle.std.specs.Option.{option_eq}
use Rattle.std.proofs.lemmas.Bool.{eq-eqb, eqb-true}
use Rattle.flash_kept.specs.Counts.{find_below}
use Rattle.flash_kept.specs.Slots.{is_marked, is_slot_of, is_valid_slot, slot_in}
use Rattle.flash_kept.specs.SpareArea.{SpareArea}
use Rattle.flash_kept.proofs.Cases.{some_one, true_false}
use Rattle.flash_kept.proofs.CountLaws.{and_both}
use Rattle.flash_layout.specs.Slots.{slot_at, slot_len}
use Rattle.ssu_group.specs.Place.{place_at}
use Rattle.ssu_group.specs.declared.group_plan.GroupPlan.{GroupPlan}
use Rattle.ssu_group.specs.declared.places.Place.{Place}
use Rattle.flash_journal.specs.Planned.{IsFirstOf, SlotFits}
use Rattle.flash_journal.specs.declared.slot.SlotRange.{SlotRange}
use Rattle.flash_journal.proofs.FitLaws.{at_number, one_of_slot, range_said}
use Rattle.flash_journal.proofs.ReadingLaws.{find_first, first_found}

-- a slot was read as valid, for this range
pub record Read (area : SpareArea) (c : List ℕ) (s : ℕ) (range : SlotRange) : Type 0 where
  pub valid : is_valid_slot area c s ≡ true
  pub at : range.at ≡ slot_at (slot_in area c s)
  pub len : range.len ≡ slot_len (slot_in area c s)

none_is : {A B : Type 0} (o : Option A) → o ≡ None → IsSome o → B
none_is None e some = absurd cc
none_is (Some a) e some = absurd cc

module _ (area : SpareArea) (plan : GroupPlan) (c : List ℕ) (s : ℕ) where
  pub read_of : (r : Option SlotRange) (range : SlotRange) → r ≡ Some range → IsSome r ↔ (is_valid_slot area c s ≡ true)
      → IfSome r (λ t. (t.at ≡ slot_at (slot_in area c s)) × (t.len ≡ slot_len (slot_in area c s))) → Read area c s range
  read_of r range e valid value =
      let both = subst (λ (o : Option SlotRange). IfSome o (λ t. (t.at ≡ slot_at (slot_in area c s)) × (t.len ≡ slot_len (slot_in area c s)))) e value in
      let some : IsSome r = subst (λ (o : Option SlotRange). IsSome o) (sym e) refl in
      record { valid = valid.0 some; at = both.0; len = both.1 }

  pub fits_none : (r : Option SlotRange) → r ≡ None → IsSome r ↔ (is_valid_slot area c s ≡ true) → IsTrue true ↔ SlotFits area plan c s
  fits_none r e valid = (λ t is. none_is r e (valid.1 is), λ f. refl)

  module _ (range : SlotRange) (read : Read area c s range) where
    pub fits_no_place : ((n : ℕ) (p : Place) → place_at plan.block_size plan.modules.items n ≡ Some p → p.at ≡ range.at → p.len ≡ range.len → ⊥) → IsTrue false ↔ SlotFits area plan c s
    fits_no_place none = (λ never. absurd (cc never), λ fits. found (fits read.valid))
      where
        found : IsFirstOf area plan c s → IsTrue false
        found f =
            let said = range_said area c f.place s f.is_slot in
            absurd (none f.place.number f.place f.is_place (sym (read.at ∙ said.at)) (sym (read.len ∙ said.len)))

    module _ (p : Place) (e : at_number plan p) (at : p.at ≡ range.at) (len : p.len ≡ range.len) where
      slot_is : is_slot_of area c p s ≡ true
      slot_is = and_both (is_valid_slot area c s) (slot_at (slot_in area c s) == p.at && slot_len (slot_in area c s) == p.len) read.valid
          (and_both (slot_at (slot_in area c s) == p.at) (slot_len (slot_in area c s) == p.len)
          (eq-eqb (slot_at (slot_in area c s)) p.at (sym (at ∙ read.at))) (eq-eqb (slot_len (slot_in area c s)) p.len (sym (len ∙ read.len))))

      same : (f : IsFirstOf area plan c s) → f.place ≡ p
      same f = one_of_slot area plan c s f.place p f.is_place e f.is_slot slot_is

      pub fits_marked : is_marked area c p.number ≡ true → IsTrue false ↔ SlotFits area plan c s
      fits_marked is = (λ never. absurd (cc never), λ fits. true_false (is_marked area c p.number) is (unmarked (fits read.valid)))
        where
          unmarked : IsFirstOf area plan c s → is_marked area c p.number ≡ false
          unmarked f = subst (λ (q : Place). is_marked area c q.number ≡ false) (same f) f.unmarked

      pub fits_first : is_marked area c p.number ≡ false → s < 16 → (o : Option ℕ) → o ≡ find_below (is_slot_of area c p) 16 → (t : Bool)
          → IsTrue t ↔ (o ≡ Some s) → IsTrue t ↔ SlotFits area plan c s
      fits_first unmarked lt o is t tested = (λ yes valid. first_of (tested.0 yes), λ fits. tested.1 (is ∙ found (fits read.valid)))
        where
          first_of : o ≡ Some s → IsFirstOf area plan c s
          first_of here =
              let first = first_found (is_slot_of area c p) 16 s (sym is ∙ here) in
              record { place = p; is_place = e; is_slot = first.is; unmarked = unmarked; first = first.first }

          found : IsFirstOf area plan c s → find_below (is_slot_of area c p) 16 ≡ Some s
          found f =
              let first = subst (λ (q : Place). (j : ℕ) → j < s → is_slot_of area c q j ≡ false) (same f) f.first in
              find_first (is_slot_of area c p) 16 s lt slot_is first

-- whether a number was found, by a test of equality
pub option_tested : (o : Option ℕ) (s : ℕ) (t : Bool) → t ≡ option_eq eqb o (Some s) → IsTrue t ↔ (o ≡ Some s)
option_tested None s t is = (λ so. true_false t so is, λ e. absurd cc)
option_tested (Some n) s t is = (λ so. ap (λ (k : ℕ). Some k) (eqb-true n s (sym is ∙ so)), λ e. is ∙ eq-eqb n s (some_one n s e))
