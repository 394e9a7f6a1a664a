-- What `resume` and `commit` leave, where bank and journal are as they were: all that was held and staged. And what is staged, at a glance.
use Rattle.std.proofs.Common.{◌≡◌, ◌⊎◌, inl, inr, ℕ, ◌+◌, ◌*◌, ◌<◌, ◌≤◌, Bool, true, false, List, length, Some, refl, sym, ap, ◌∙◌, arith}
use Rattle.dsmcc_msg.specs.Control.{DiiFields}
use Rattle.flash_layout.proofs.PartLemmas.{length-part, part_same}
use Rattle.ssu_group.specs.declared.places.Place.{Place}
use Rattle.flash_kept.specs.Held.{HasHeldMessage, IsHeld, InBank, InSlot, Stands}
use Rattle.flash_kept.specs.Leaving.{PlacesLie, SameArea, SameIn}
use Rattle.flash_kept.specs.Lost.{is_lost, is_lost_as, is_untouched, lost_places}
use Rattle.flash_kept.specs.Places.{place_count, place_of}
use Rattle.flash_kept.specs.Slots.{free_slots, is_free, is_marked, is_slotted}
use Rattle.flash_kept.specs.SpareArea.{IsInOrder, SpareArea, mark_place, slot_bytes, slot_place}
use Rattle.flash_kept.specs.Staged.{HasStagedMessage, IsStaged}
use Rattle.flash_kept.proofs.CountLaws.{count_has, count_same, count_some}
use Rattle.flash_kept.proofs.HeaderLaws.{held_same}
use Rattle.flash_kept.proofs.PairLaws.{same_within}
use Rattle.flash_kept.proofs.PlaceLaws.{held_lie}
use Rattle.flash_kept.proofs.SameLaws.{free_same, mark_same, place_lost_same}
use Rattle.flash_kept.proofs.SlotLaws.{slot_of_same, slot_same, slotted_same}

module _ (area : SpareArea) (x y : List ℕ) (order : IsInOrder area) (same : SameArea area x y) where
  ends : area.slots + 69632 ≤ area.journal_len
  ends = order.ends

  marks : 8448 + 2 * area.marks ≤ area.slots
  marks = order.marks

  in_journal : (from n : ℕ) → from + n ≤ area.journal_len → SameIn (area.journal + from) n x y
  in_journal from n within = same_within area.journal area.journal_len (area.journal + from) n x y (omega arith) (omega (arith, within)) same.journal

  slot_area : (s : ℕ) → s < 16 → SameIn (slot_place area s) 4352 x y
  slot_area s ls = same_within area.journal area.journal_len (slot_place area s) 4352 x y (omega arith) (omega (arith, ls, ends)) same.journal

  pub area_held : (message : List ℕ) (dii : DiiFields) → HasHeldMessage area x message dii → HasHeldMessage area y message dii
  area_held message dii held = held_same area y x message dii order (λ k lt. sym (same.journal k (omega (arith, lt, marks, ends)))) held

  mark_area : (n : ℕ) → n < area.marks → SameIn (mark_place area n) 2 x y
  mark_area n below = same_within area.journal area.journal_len (mark_place area n) 2 x y (omega arith) (omega (arith, below, marks, ends)) same.journal

  range_area : (dii : DiiFields) → PlacesLie area dii → (n : ℕ) (p : Place) → place_of dii n ≡ Some p → SameIn (area.bank + p.at) p.len x y
  range_area dii lie n p e = let inside = lie.inside n p e in same_within area.bank area.bank_len (area.bank + p.at) p.len x y (omega arith) (omega (arith, inside)) same.bank

  head_area : (s : ℕ) → s < 16 → SameIn (slot_place area s) 16 x y
  head_area s ls = same_within (slot_place area s) 4352 (slot_place area s) 16 x y (omega arith) (omega arith) (slot_area s ls)

  pub area_free : free_slots area y ≡ free_slots area x
  unfolding free_slots
  area_free = count_same (is_free area x) (is_free area y) 16 (λ s ls. free_same area s x y (slot_area s ls))

  pub area_lost : (dii : DiiFields) → PlacesLie area dii → lost_places area dii y ≡ lost_places area dii x
  unfolding lost_places
  area_lost dii lie =
      let few = lie.few in
      count_same (λ n. is_lost area x n (place_of dii n)) (λ n. is_lost area y n (place_of dii n)) (place_count dii)
      (λ n below. place_lost_same area x y n (place_of dii n) (mark_area n (omega (arith, below, few))) (λ q e. slotted_same area q x y (λ s ls. slot_of_same area q s x y same.size (head_area s ls))) (λ q e. range_area dii lie n q e))

  pub area_stages : (message : List ℕ) (dii : DiiFields) → HasStagedMessage area x message dii → HasStagedMessage area y message dii
  area_stages message dii stages =
      let lie = held_lie area x message dii order stages.held in
      let few = lie.few in
      let enough = stages.enough in let l = area_lost dii lie in let f = area_free in
      record {
        held = area_held message dii stages.held;
        slots = record {
          each = λ s ls valid.
              let was = stages.slots.each s ls (sym (slot_same area s x y same.size (head_area s ls)) ∙ valid) in
              record { number = was.number; place = was.place; is_place = was.is_place; is_slot = slot_of_same area was.place s x y same.size (head_area s ls) ∙ was.is_slot };
          unmarked = λ s n q ls e valid. let below = lie.below n q e in
              mark_same area n x y (mark_area n (omega (arith, below, few))) ∙ stages.slots.unmarked s n q ls e (sym (slot_of_same area q s x y same.size (head_area s ls)) ∙ valid);
          another = λ s t n q ls lt e f g. stages.slots.another s t n q ls lt e (sym (slot_of_same area q s x y same.size (head_area s ls)) ∙ f) (sym (slot_of_same area q t x y same.size (head_area t lt)) ∙ g);
        };
        enough = omega (arith, enough, l, f);
      }

  pub area_holds : (message : List ℕ) (n : ℕ) (b : List ℕ) → IsHeld area x message n b → IsHeld area y message n b
  area_holds message n b holds =
      let l = held_lie area x message holds.dii order holds.under in
      record {
        dii = holds.dii;
        under = area_held message holds.dii holds.under;
        place = holds.place;
        is_place = holds.is_place;
        stands = by_stand l holds.stands;
      }
    where
      by_stand : PlacesLie area holds.dii → Stands area x n holds.place b → Stands area y n holds.place b
      by_stand l (InBank marked at) =
          let below = l.below n holds.place holds.is_place in let few = l.few in
          InBank (mark_same area n x y (mark_area n (omega (arith, below, few))) ∙ marked) (at ∙ sym (part_same x y (area.bank + holds.place.at) holds.place.len same.size (range_area holds.dii l n holds.place holds.is_place)))
      by_stand l (InSlot s ls valid at) =
          let size = l.not_empty n holds.place holds.is_place in
          InSlot s ls (slot_of_same area holds.place s x y same.size (head_area s ls) ∙ valid)
          (at ∙ sym (part_same x y (slot_bytes area s) holds.place.len same.size (same_within (slot_place area s) 4352 (slot_bytes area s) holds.place.len x y (omega arith) (omega (arith, size)) (slot_area s ls))))

  pub area_staged : (message : List ℕ) (n : ℕ) (b : List ℕ) → IsStaged area x message n b → IsStaged area y message n b
  area_staged message n b has = record {
    dii = has.dii;
    staged = area_stages message has.dii has.staged;
    held = area_holds message n b has.held;
  }

-- and nothing else is held
pub area_held_before : (area : SpareArea) (x y : List ℕ) → IsInOrder area → SameArea area x y → (message : List ℕ) (n : ℕ) (b : List ℕ) → IsHeld area y message n b → IsHeld area x message n b
area_held_before area x y order same = area_holds area y x order (record {
  size = sym same.size;
  bank = λ k lt. sym (same.bank k lt);
  journal = λ k lt. sym (same.journal k lt);
})

-- ---- what follows from contents alone

-- a place that is neither marked nor slotted is blank or lost
pub blank_or_lost : (area : SpareArea) (c : List ℕ) (n : ℕ) (p : Place) → is_marked area c n ≡ false → is_slotted area c p ≡ false
    → (is_untouched area c n p ≡ true) ⊎ (is_lost area c n (Some p) ≡ true)
unfolding is_lost
blank_or_lost area c n p unmarked unslotted = by_tests (is_marked area c n) (is_slotted area c p) (is_untouched area c n p) unmarked unslotted
  where
    by_tests : (m s u : Bool) → m ≡ false → s ≡ false → (u ≡ true) ⊎ (is_lost_as m s u ≡ true)
    by_tests true s u e f = absurd cc
    by_tests false true u e f = absurd cc
    by_tests false false true e f = inl refl
    by_tests false false false e f = inr refl

-- a lost place finds a free slot
pub some_free : (area : SpareArea) (c message : List ℕ) (dii : DiiFields) (a : ℕ) → HasStagedMessage area c message dii → a < place_count dii → is_lost area c a (place_of dii a) ≡ true
    → (s : ℕ) × (s < 16) × (is_free area c s ≡ true)
unfolding lost_places free_slots
some_free area c message dii a stages below is =
    let one = count_has (λ n. is_lost area c n (place_of dii n)) (place_count dii) a below is in
    let enough = stages.enough in
    count_some (is_free area c) 16 (omega (arith, one, enough))

-- the bytes of a place that is held have its length
pub held_len : (area : SpareArea) (c message : List ℕ) (n : ℕ) (b : List ℕ) (dii : DiiFields) (p : Place) → IsInOrder area → area.journal + area.journal_len ≤ length c
    → HasHeldMessage area c message dii → place_of dii n ≡ Some p → Stands area c n p b → length b ≡ p.len
held_len area c message n b dii p order fits held at (InBank marked e) =
    let inside = (held_lie area c message dii order held).inside n p at in let behind = order.behind in
    ap (λ (x : List ℕ). length x) e ∙ length-part c (area.bank + p.at) p.len (omega (arith, inside, behind, fits))
held_len area c message n b dii p order fits held at (InSlot s ls valid e) =
    let size = (held_lie area c message dii order held).not_empty n p at in let ends = order.ends in
    ap (λ (x : List ℕ). length x) e ∙ length-part c (slot_bytes area s) p.len (omega (arith, size, ls, ends, fits))
