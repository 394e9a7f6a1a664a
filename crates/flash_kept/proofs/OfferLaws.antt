-- What the offer of a place leaves: a place that is blank is filled and then marked, a lost one goes to a slot that is free.
use Rattle.std.proofs.Common.{◌≡◌, ◌⊎◌, inl, inr, ℕ, ◌+◌, ◌<◌, ◌≤◌, Bool, true, false, List, length, get_or, Some, refl, sym, subst, ◌∙◌, arith}
use Rattle.std.proofs.lemmas.Bool.{eq-eqb}
use Rattle.dsmcc_msg.specs.Control.{DiiFields}
use Rattle.flash_dev.specs.Changes.{Changes, IsProgrammed, IsTornProgram}
use Rattle.flash_layout.specs.Journal.{mark_written}
use Rattle.flash_layout.specs.Pairs.{part}
use Rattle.flash_layout.specs.Slots.{slot_written}
use Rattle.flash_layout.proofs.PartLemmas.{part_held}
use Rattle.ssu_group.specs.declared.places.Place.{Place}
use Rattle.flash_kept.specs.Held.{HasHeldMessage, IsHeld, InBank, InSlot, Stands}
use Rattle.flash_kept.specs.Leaving.{ChangesPlace, ChangesSlot, IsOutside}
use Rattle.flash_kept.specs.Lost.{is_lost, is_lost_as, is_untouched, lost_places}
use Rattle.flash_kept.specs.Offering.{HoldsNoOther, IsOffered, LeavesOffered, Offers}
use Rattle.flash_kept.specs.Places.{place_of}
use Rattle.flash_kept.specs.Slots.{free_slots, is_free, is_marked, is_slot_of, is_slotted}
use Rattle.flash_kept.specs.SpareArea.{SpareArea, mark_place, slot_bytes, slot_place}
use Rattle.flash_kept.specs.Staged.{HasStagedMessage, IsStaged}
use Rattle.flash_kept.proofs.Cases.{some_one, true_false}
use Rattle.flash_kept.proofs.CountLaws.{and_both, none_of, some_of}
use Rattle.flash_kept.proofs.FillLaws as fill
use Rattle.flash_kept.proofs.HeaderLaws.{dii_one, held_same, message_one}
use Rattle.flash_kept.proofs.SameLaws.{mark_same}
use Rattle.flash_kept.proofs.SpareLaws as spare

-- a place that is marked or slotted is not lost
found_lost : (m s f : Bool) → (m ≡ true) ⊎ (s ≡ true) → is_lost_as m s f ≡ false
found_lost true s f found = refl
found_lost false true f found = refl
found_lost false false f (inl e) = absurd cc
found_lost false false f (inr e) = absurd cc

-- ---- a place that is blank

range_changes : (area : SpareArea) (n : ℕ) (p : Place) (len : ℕ) (P : ℕ → ℕ → ℕ → Type 0) (x y : List ℕ) → len ≡ p.len → Changes (area.bank + p.at) len P x y → ChangesPlace area n p x y
range_changes area n p len P x y long ch = record { size = ch.size; same = λ k range mark. by_side k range }
  where
    by_side : (k : ℕ) → IsOutside (area.bank + p.at) p.len k → get_or y k 0 ≡ get_or x k 0
    by_side k (inl before) = ch.before k before
    by_side k (inr behind) = ch.after k (omega (arith, behind, long))

mark_changes : (area : SpareArea) (n : ℕ) (p : Place) (P : ℕ → ℕ → ℕ → Type 0) (x z y : List ℕ) → ChangesPlace area n p x z → Changes (mark_place area n) 2 P z y → ChangesPlace area n p x y
mark_changes area n p P x z y first ch = record { size = ch.size ∙ first.size; same = λ k range mark. by_side k mark ∙ first.same k range mark }
  where
    by_side : (k : ℕ) → IsOutside (mark_place area n) 2 k → get_or y k 0 ≡ get_or z k 0
    by_side k (inl before) = ch.before k before
    by_side k (inr behind) = ch.after k behind

module _ (area : SpareArea) (dii : DiiFields) (message : List ℕ) (p : Place) (bytes x : List ℕ) (is : IsOffered area dii message p bytes x) where
  -- the place is not held in x
  not_held : (b : List ℕ) → IsHeld area x message p.number b → ⊥
  unfolding is_slotted
  not_held b holds =
      let own : holds.dii ≡ dii = dii_one area x x message holds.dii dii holds.under is.staged.held in
      let at : place_of dii p.number ≡ Some holds.place = subst (λ (q : DiiFields). place_of q p.number ≡ Some holds.place) own holds.is_place in
      by_stand holds.place (some_one holds.place p (sym at ∙ is.is_place)) holds.stands
    where
      by_stand : (q : Place) → q ≡ p → Stands area x p.number q b → ⊥
      by_stand q same (InBank marked e) = true_false (is_marked area x p.number) marked is.unmarked
      by_stand q same (InSlot s lt valid e) =
          true_false (is_slot_of area x p s) (subst (λ (r : Place). is_slot_of area x r s ≡ true) same valid) (none_of (is_slot_of area x p) 16 is.unslotted s lt)

  -- what is left once x was changed in the range and the mark of the place alone
  module _ (y : List ℕ) (ch : ChangesPlace area p.number p x y) where
    group_still : lost_places area dii y ≤ free_slots area y → HasStagedMessage area y message dii
    group_still enough = fill.stages_still area dii is.lie p.number p is.is_place x y ch message is.staged is.unslotted enough

    staged_still : lost_places area dii y ≤ free_slots area y → (n : ℕ) (b : List ℕ) → IsStaged area x message n b → IsStaged area y message n b
    staged_still enough n b has = record {
      dii = dii;
      staged = group_still enough;
      held = fill.holds_still area dii is.lie p.number p is.is_place x y ch message n b is.staged.held
          (λ same. not_held b (subst (λ (k : ℕ). IsHeld area x message k b) same has.held)) has.held;
    }

    held_no_other : (is_marked area y p.number ≡ true → part y (area.bank + p.at) p.len ≡ bytes) → HoldsNoOther area message p.number bytes x y
    held_no_other stands other n b holds =
        let back : HasHeldMessage area x other holds.dii = held_same area x y other holds.dii is.lie.order (fill.journal_same area dii is.lie p.number p is.is_place x y ch) holds.under in
        let own : other ≡ message = message_one area x other message holds.dii dii back is.staged.held in
        by_more own (fill.holds_more area dii is.lie p.number p is.is_place x y ch message n b is.staged.held (subst (λ (m : List ℕ). IsHeld area y m n b) own holds))
      where
        by_more : other ≡ message → IsHeld area x message n b ⊎ ((n ≡ p.number) × (is_marked area y p.number ≡ true) × (b ≡ part y (area.bank + p.at) p.len))
            → IsHeld area x other n b ⊎ ((other ≡ message) × (n ≡ p.number) × (b ≡ bytes))
        by_more own (inl was) = inl (subst (λ (m : List ℕ). IsHeld area x m n b) (sym own) was)
        by_more own (inr now) = inr (own, now.0, now.2 ∙ stands now.1)

    left_any : (is_marked area y p.number ≡ true → part y (area.bank + p.at) p.len ≡ bytes) → LeavesOffered area dii message p.number bytes x y
    left_any stands =
        let margin = fill.margin_one area dii is.lie p.number p is.is_place x y ch in
        record {
          margin = margin;
          message_staged = λ has. group_still (omega (arith, margin, has));
          staged = λ has. staged_still (omega (arith, margin, has));
          held = held_no_other stands;
        }

  -- within `fill`
  pub left_filling : (y : List ℕ) → Changes (area.bank + p.at) (length bytes) (IsTornProgram bytes) x y → LeavesOffered area dii message p.number bytes x y
  left_filling y ch =
      let place = range_changes area p.number p (length bytes) (IsTornProgram bytes) x y is.long ch in
      let inside = is.lie.inside p.number p is.is_place in let behind = is.lie.order.behind in let long = is.long in
      left_any y place (λ marked. absurd (true_false (is_marked area x p.number)
      (sym (mark_same area p.number x y (λ k lt. ch.after (mark_place area p.number + k) (omega (arith, inside, behind, long)))) ∙ marked) is.unmarked))

  module _ (z : List ℕ) (filled : Changes (area.bank + p.at) (length bytes) (IsProgrammed bytes) x z) where
    stands_filled : (y : List ℕ) (P : ℕ → ℕ → ℕ → Type 0) → Changes (mark_place area p.number) 2 P z y → part y (area.bank + p.at) p.len ≡ bytes
    stands_filled y P ch =
        let inside = is.lie.inside p.number p is.is_place in let behind = is.lie.order.behind in let fits = is.fits in let long = is.long in
        let size = ch.size in let size_z = filled.size in
        part_held y bytes (area.bank + p.at) p.len long (omega (arith, size, size_z, inside, behind, fits))
        (λ k lt. ch.before (area.bank + p.at + k) (omega (arith, lt, long, inside, behind)) ∙ filled.inside k lt)

    -- within `mark`
    pub left_marking : (y : List ℕ) (P : ℕ → ℕ → ℕ → Type 0) → Changes (mark_place area p.number) 2 P z y → LeavesOffered area dii message p.number bytes x y
    left_marking y P ch =
        left_any y (mark_changes area p.number p P x z y (range_changes area p.number p (length bytes) (IsProgrammed bytes) x z is.long filled) ch) (λ marked. stands_filled y P ch)

    -- and at its Ok
    pub done_marking : (y : List ℕ) → Changes (mark_place area p.number) 2 (IsProgrammed mark_written) z y → Offers area dii message p.number bytes x y
    unfolding is_marked is_lost
    done_marking y ch =
        let place = mark_changes area p.number p (IsProgrammed mark_written) x z y (range_changes area p.number p (length bytes) (IsProgrammed bytes) x z is.long filled) ch in
        let marked : is_marked area y p.number ≡ true = and_both _ _ (eq-eqb (get_or y (mark_place area p.number + 0) 0) 0 (ch.inside 0 (omega arith))) (eq-eqb (get_or y (mark_place area p.number + 1) 0) 255 (ch.inside 1 (omega arith))) in
        let margin = fill.margin_kept area dii is.lie p.number p is.is_place x y place (found_lost (is_marked area y p.number) (is_slotted area y p) (is_untouched area y p.number p) (inl marked)) in
        let enough = is.staged.enough in
        let now = fill.stages_still area dii is.lie p.number p is.is_place x y place message is.staged is.unslotted (omega (arith, margin, enough)) in
        record {
          margin = margin;
          message_staged = now;
          added = record {
            dii = dii;
            staged = now;
            held = record {
              dii = dii;
              under = now.held;
              place = p;
              is_place = is.is_place;
              stands = InBank marked (sym (stands_filled y (IsProgrammed mark_written) ch));
            };
          };
          staged = staged_still y place (omega (arith, margin, enough));
          held = held_no_other y place (λ m. stands_filled y (IsProgrammed mark_written) ch);
        }

  -- ---- a place that is lost

  module _ (s : ℕ) (ls : s < 16) (was_free : is_free area x s ≡ true) (was_lost : is_lost area x p.number (Some p) ≡ true) (y : List ℕ) (lv : ChangesSlot area s p bytes x y) where
    group_spared : lost_places area dii y ≤ free_slots area y → HasStagedMessage area y message dii
    group_spared enough = spare.stages_still area dii is.lie p.number p is.is_place s ls bytes is.long x y lv was_free is.fits message is.staged is.unslotted is.unmarked enough

    spared_still : lost_places area dii y ≤ free_slots area y → (n : ℕ) (b : List ℕ) → IsStaged area x message n b → IsStaged area y message n b
    spared_still enough n b has = record {
      dii = dii;
      staged = group_spared enough;
      held = spare.holds_still area dii is.lie p.number p is.is_place s ls bytes is.long x y lv was_free is.fits message n b is.staged.held has.held;
    }

    spared_no_other : HoldsNoOther area message p.number bytes x y
    spared_no_other other n b holds =
        let back : HasHeldMessage area x other holds.dii = held_same area x y other holds.dii is.lie.order
        (spare.journal_same area dii is.lie p.number p is.is_place s ls bytes is.long x y lv was_free is.fits) holds.under in
        let own : other ≡ message = message_one area x other message holds.dii dii back is.staged.held in
        by_more own (spare.holds_more area dii is.lie p.number p is.is_place s ls bytes is.long x y lv was_free is.fits message n b is.staged.held (subst (λ (m : List ℕ). IsHeld area y m n b) own holds))
      where
        by_more : other ≡ message → IsHeld area x message n b ⊎ ((n ≡ p.number) × (b ≡ bytes)) → IsHeld area x other n b ⊎ ((other ≡ message) × (n ≡ p.number) × (b ≡ bytes))
        by_more own (inl was) = inl (subst (λ (m : List ℕ). IsHeld area x m n b) (sym own) was)
        by_more own (inr now) = inr (own, now.0, now.1)

    -- within `spare`
    pub left_sparing : LeavesOffered area dii message p.number bytes x y
    left_sparing =
        let margin = spare.margin_one area dii is.lie p.number p is.is_place s ls bytes is.long x y lv was_free is.fits was_lost in
        record {
          margin = margin;
          message_staged = λ has. group_spared (omega (arith, margin, has));
          staged = λ has. spared_still (omega (arith, margin, has));
          held = spared_no_other;
        }

    -- and at its Ok
    pub done_sparing : ((k : ℕ) → k < 16 → get_or y (slot_place area s + k) 0 ≡ get_or (slot_written p.at p.len) k 0) → Offers area dii message p.number bytes x y
    unfolding is_lost is_slotted
    done_sparing done =
        let valid = spare.slot_done area dii is.lie p.number p is.is_place s ls bytes is.long x y lv was_free is.fits done in
        let margin = spare.margin_kept area dii is.lie p.number p is.is_place s ls bytes is.long x y lv was_free is.fits was_lost
        (found_lost (is_marked area y p.number) (is_slotted area y p) (is_untouched area y p.number p) (inr (some_of (is_slot_of area y p) 16 s ls valid))) in
        let enough = is.staged.enough in
        let now = spare.stages_still area dii is.lie p.number p is.is_place s ls bytes is.long x y lv was_free is.fits message is.staged is.unslotted is.unmarked (omega (arith, margin, enough)) in
        let few = (is.lie.not_empty p.number p is.is_place).1 in let ends = is.lie.order.ends in let fits = is.fits in let size = lv.size in
        record {
          margin = margin;
          message_staged = now;
          added = record {
            dii = dii;
            staged = now;
            held = record {
              dii = dii;
              under = now.held;
              place = p;
              is_place = is.is_place;
              stands = InSlot s ls valid (sym (part_held y bytes (slot_bytes area s) p.len is.long (omega (arith, few, ends, fits, size, ls)) (lv.all done)));
            };
          };
          staged = spared_still (omega (arith, margin, enough));
          held = spared_no_other;
        }
