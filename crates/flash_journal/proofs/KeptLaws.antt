-- A group that is kept: what the flash has staged of it, in words of the stage.
use Rattle.std.specs.Prelude.{option_map, if◌then◌else◌, ◌||◌}
use Rattle.std.proofs.Common.{◌≡◌, ◌⊎◌, inl, inr, ℕ, ◌+◌, ◌<◌, Bool, true, false, not, eqb, List, length, Option, None, Some, refl, sym, ap, subst, ◌∙◌, arith}
use Rattle.bank_kept.proofs.AreaLaws.{area_fits, area_order, one_area}
use Rattle.bank_kept.proofs.BankLaws.{bank_area}
use Rattle.bank_kept.specs.Bank.{area_of_bank}
use Rattle.bank_kept.specs.Contents.{HasSpareArea, StagesGroup, StagesPlace}
use Rattle.bank_kept.specs.Leaving.{KeepsStaged}
use Rattle.dsmcc_msg.specs.Control.{DiiFields, dii_message}
use Rattle.flash_bank.specs.Bank.{Fits, current_of, geometry_of}
use Rattle.flash_bank.specs.declared.bank.Bank.{Bank}
use Rattle.flash_kept.proofs.Cases.{some_one, true_false}
use Rattle.flash_kept.proofs.CountLaws.{all_of}
use Rattle.flash_kept.proofs.PlaceLaws.{held_lie}
use Rattle.flash_kept.proofs.ToldLaws.{staged_gives, staged_told}
use Rattle.flash_kept.specs.Counts.{find_below}
use Rattle.flash_kept.specs.Held.{InBank, InSlot, Stands}
use Rattle.flash_kept.specs.Offering.{IsOffered}
use Rattle.flash_kept.specs.Places.{place_of}
use Rattle.flash_kept.specs.Slots.{is_marked, is_slot_of, is_slotted}
use Rattle.flash_kept.specs.SpareArea.{IsInOrder, SpareArea, slot_bytes}
use Rattle.flash_kept.specs.Staged.{HasStagedMessage, IsStaged}
use Rattle.flash_kept.specs.Told.{place_text, staged_bytes, text_under}
use Rattle.flash_layout.specs.Layout.{Geometry}
use Rattle.flash_layout.specs.Pairs.{part}
use Rattle.flash_stage.proofs.InBankLemmas.{own_number, plan_in_bank}
use Rattle.flash_stage.specs.Keeping.{IsKeptIn, StagesNone}
use Rattle.ssu_group.specs.Place.{place_at}
use Rattle.ssu_group.specs.Plan.{laid_out}
use Rattle.ssu_group.specs.declared.places.Place.{Place}
use Rattle.flash_journal.proofs.PlainLaws.{kept_to}
use Rattle.flash_journal.proofs.TextLaws.{marked_text, slotted_text}
use Rattle.flash_journal.specs.InJournal.{IsBegunFor, KeepsPlaces, bytes_in_journal, has_in_journal, without_journal}
use Rattle.flash_journal.specs.Texts.{keeps_places, kept_text, text_of}
use Rattle.flash_journal.specs.declared.journal_stage.JournalStage.{JournalStage}

-- ---- the text of a place

if_some : {A : Type 0} (t : Bool) (a b : Option A) (r : Option A) → (if t then a else b) ≡ r → t ≡ true → a ≡ r
if_some true a b r e is = e
if_some false a b r e is = absurd cc

if_none : {A : Type 0} (t : Bool) (a b : Option A) (r : Option A) → (if t then a else b) ≡ r → t ≡ false → b ≡ r
if_none true a b r e is = absurd cc
if_none false a b r e is = e

-- what contents tell of a place is its text
pub told_text : (area : SpareArea) (c : List ℕ) (p : Place) (n : ℕ) (b : List ℕ) → p.number ≡ n → place_text area c n (Some p) ≡ Some b → kept_text area c p ≡ b
told_text area c p n b own e = by_mark (is_marked area c n) refl (find_below (is_slot_of area c p) 16) refl
  where
    by_mark : (t : Bool) → is_marked area c n ≡ t → (o : Option ℕ) → find_below (is_slot_of area c p) 16 ≡ o → kept_text area c p ≡ b
    by_mark true is o found =
        marked_text area c p (ap (is_marked area c) own ∙ is) ∙ some_one _ b (if_some (is_marked area c n) (Some (part c (area.bank + p.at) p.len)) _ (Some b) e is)
    by_mark false is (Some s) found =
        slotted_text area c p (Some s) (ap (is_marked area c) own ∙ is) (sym found)
        ∙ some_one _ b (ap (option_map (λ s. part c (slot_bytes area s) p.len)) (sym found)
        ∙ if_none (is_marked area c n) (Some (part c (area.bank + p.at) p.len)) (option_map (λ s. part c (slot_bytes area s) p.len) (find_below (is_slot_of area c p) 16)) (Some b) e is)
    by_mark false is None found =
        let none : None ≡ Some b = ap (option_map (λ s. part c (slot_bytes area s) p.len)) (sym found)
        ∙ if_none (is_marked area c n) (Some (part c (area.bank + p.at) p.len)) (option_map (λ s. part c (slot_bytes area s) p.len) (find_below (is_slot_of area c p) 16)) (Some b) e is in
        absurd cc

-- ---- the group of a stage

-- the places of the DII are those of the stage
pub stage_places : (s : JournalStage) (bank : Bank) (ready : IsBegunFor s bank) (n : ℕ) → place_of ready.dii n ≡ place_at s.block_size s.modules.items n
stage_places s bank ready n =
    let size : ready.dii.block_size ≡ s.block_size = sym ready.block_size in
    let items : laid_out ready.dii.block_size 0 0 ready.dii.modules ≡ s.modules.items = sym ready.modules in
    (λ i. place_at (size i) (items i) n)

-- What is said of contents of which the group is kept: under its message, in the area of the bank.
pub record KeptAt (s : JournalStage) (bank : Bank) (c : List ℕ) (dii : DiiFields) : Type 0 where
  pub two : (current_of bank).layout ≡ 2
  pub keeps : keeps_places bank s.map.places ≡ true
  pub spare : HasSpareArea (geometry_of bank) c (area_of_bank bank)
  pub order : IsInOrder (area_of_bank bank)
  pub staged : HasStagedMessage (area_of_bank bank) c s.message.items dii
  pub places : (n : ℕ) → place_of dii n ≡ place_at s.block_size s.modules.items n
  pub numbered : (n : ℕ) (p : Place) → place_at s.block_size s.modules.items n ≡ Some p → p.number ≡ n

one_dii : (message : List ℕ) (a b : DiiFields) → dii_message.of message ≡ Some a → dii_message.of message ≡ Some b → a ≡ b
one_dii message a b first second = some_one a b (sym first ∙ second)

module _ (s : JournalStage) (bank : Bank) (c : List ℕ) (ready : IsBegunFor s bank) (fits : Fits bank c) (kept : IsKeptIn bank s.map.places) where
  pub kept_at : (dii : DiiFields) → StagesGroup (geometry_of bank) c s.message.items dii → KeptAt s bank c ready.dii
  kept_at dii group =
      let g = geometry_of bank in
      let spare = bank_area bank c fits kept.two in
      let one = one_area g c group.area (area_of_bank bank) group.spare spare in
      let staged : HasStagedMessage (area_of_bank bank) c s.message.items dii = subst (λ (a : SpareArea). HasStagedMessage a c s.message.items dii) one group.staged in
      record {
        two = kept.two;
        keeps = kept_to bank s.map.places kept;
        spare = spare;
        order = area_order g c (area_of_bank bank) bank.limits spare;
        staged = subst (λ (d : DiiFields). HasStagedMessage (area_of_bank bank) c s.message.items d) (one_dii s.message.items dii ready.dii staged.held.reads ready.reads) staged;
        places = stage_places s bank ready;
        numbered = own_number (plan_in_bank (without_journal s) bank ready.begun);
      }

module _ (s : JournalStage) (bank : Bank) (c : List ℕ) (dii : DiiFields) (at : KeptAt s bank c dii) where
  -- what is staged of a place stands for it in the stage
  pub staged_text : (n : ℕ) (b : List ℕ) → IsStaged (area_of_bank bank) c s.message.items n b → bytes_in_journal s bank c n ≡ b
  unfolding bytes_in_journal staged_bytes
  staged_text n b has = by_place (place_at s.block_size s.modules.items n) refl
    where
      told : place_text (area_of_bank bank) c n (place_of dii n) ≡ Some b
      told = sym (ap (λ (d : Option DiiFields). text_under (area_of_bank bank) c d n) (staged_told (area_of_bank bank) c at.order s.message.items dii at.staged).0)
          ∙ staged_gives (area_of_bank bank) c at.order s.message.items n b has

      here : place_text (area_of_bank bank) c n (place_at s.block_size s.modules.items n) ≡ Some b
      here = ap (place_text (area_of_bank bank) c n) (sym (at.places n)) ∙ told

      by_place : (o : Option Place) → place_at s.block_size s.modules.items n ≡ o → text_of (keeps_places bank s.map.places) bank c (place_at s.block_size s.modules.items n) ≡ b
      by_place None is = let no : None ≡ Some b = ap (place_text (area_of_bank bank) c n) (sym is) ∙ here in absurd cc
      by_place (Some p) is =
          ap (λ (k : Bool). text_of k bank c (place_at s.block_size s.modules.items n)) at.keeps ∙ (ap (text_of true bank c) is
          ∙ told_text (area_of_bank bank) c p n b (at.numbered n p is) (ap (place_text (area_of_bank bank) c n) (sym is) ∙ here))

  -- a place of the group that stands is staged
  pub stands_staged : (n : ℕ) (p : Place) (b : List ℕ) → place_at s.block_size s.modules.items n ≡ Some p → Stands (area_of_bank bank) c n p b → StagesPlace (geometry_of bank) c s.message.items n b
  stands_staged n p b is stands = record {
    area = area_of_bank bank;
    spare = at.spare;
    staged = record { dii = dii; staged = at.staged; held = record { dii = dii; under = at.staged.held; place = p; is_place = at.places n ∙ is; stands = stands } };
  }

  -- and what is staged is staged in the area of the bank
  pub staged_here : (n : ℕ) (b : List ℕ) → StagesPlace (geometry_of bank) c s.message.items n b → IsStaged (area_of_bank bank) c s.message.items n b
  staged_here n b place =
      subst (λ (a : SpareArea). IsStaged a c s.message.items n b) (one_area (geometry_of bank) c place.area (area_of_bank bank) place.spare at.spare) place.staged

  module _ (has : ℕ → Bool) (no_other : (n : ℕ) (b : List ℕ) → StagesPlace (geometry_of bank) c s.message.items n b → has n ≡ true) (n : ℕ) (p : Place)
      (is : place_at s.block_size s.modules.items n ≡ Some p) (free : has n ≡ false) where
    not_stands : (b : List ℕ) → Stands (area_of_bank bank) c n p b → ⊥
    not_stands b stands = true_false (has n) (no_other n b (stands_staged n p b is stands)) free

    pub not_marked : is_marked (area_of_bank bank) c n ≡ false
    not_marked = by_test (is_marked (area_of_bank bank) c n) refl
      where
        by_test : (t : Bool) → is_marked (area_of_bank bank) c n ≡ t → is_marked (area_of_bank bank) c n ≡ false
        by_test true set = absurd (not_stands _ (InBank set refl))
        by_test false set = set

    not_slot : (k : ℕ) → k < 16 → is_slot_of (area_of_bank bank) c p k ≡ false
    not_slot k lt = by_test (is_slot_of (area_of_bank bank) c p k) refl
      where
        by_test : (t : Bool) → is_slot_of (area_of_bank bank) c p k ≡ t → is_slot_of (area_of_bank bank) c p k ≡ false
        by_test true set = absurd (not_stands _ (InSlot k lt set refl))
        by_test false set = set

    pub not_slotted : is_slotted (area_of_bank bank) c p ≡ false
    unfolding is_slotted
    not_slotted = ap not (all_of (λ k. not (is_slot_of (area_of_bank bank) c p k)) 16 (λ k lt. ap not (not_slot k lt)))

-- ---- the offer

-- a place that the stage has not is offered
pub stage_offers : (s : JournalStage) (bank : Bank) (c : List ℕ) (ready : IsBegunFor s bank) (fits : Fits bank c) (kept : IsKeptIn bank s.map.places) (agrees : KeepsPlaces s bank c) (p : Place) (bytes : List ℕ)
    → place_at s.block_size s.modules.items p.number ≡ Some p → length bytes ≡ p.len → has_in_journal s p.number ≡ false → IsOffered (area_of_bank bank) ready.dii s.message.items p bytes c
stage_offers s bank c ready fits kept agrees p bytes is long free =
    let just = agrees.kept kept in
    let at = kept_at s bank c ready fits kept just.dii just.group in
    let place : place_of ready.dii p.number ≡ Some p = at.places p.number ∙ is in
    record {
      lie = held_lie (area_of_bank bank) c s.message.items ready.dii at.order at.staged.held;
      staged = at.staged;
      is_place = place;
      long = long;
      unmarked = not_marked s bank c ready.dii at (has_in_journal s) just.no_other p.number p is free;
      unslotted = not_slotted s bank c ready.dii at (has_in_journal s) just.no_other p.number p is free;
      fits = area_fits (geometry_of bank) c (area_of_bank bank) bank.limits fits.sound at.spare;
    }

-- the stage with other marks
abbrev pub Marked : JournalStage → JournalStage → ℕ → Type 0
Marked s t a = (k : ℕ) → has_in_journal t k ≡ (eqb k a || has_in_journal s k)

-- Two stages of the same group.
pub record SameGroup (s t : JournalStage) : Type 0 where
  pub block_size : t.block_size ≡ s.block_size
  pub modules : t.modules.items ≡ s.modules.items
  pub places : t.map.places ≡ s.map.places
  pub message : t.message.items ≡ s.message.items

pub or_cases : (a b : Bool) → (a || b) ≡ true → (a ≡ true) ⊎ (b ≡ true)
or_cases true b e = inl refl
or_cases false b e = inr e

pub or_left : (a b : Bool) → a ≡ true → (a || b) ≡ true
or_left true b e = refl
or_left false b e = absurd cc

pub or_right : (a b : Bool) → b ≡ true → (a || b) ≡ true
or_right true b e = refl
or_right false b e = e

-- ---- no group

pub none_kept : (g : Geometry) (x y : List ℕ) (n least : ℕ) → StagesNone g x → KeepsStaged g n least x y
none_kept g x y n least none = record {
  margin = λ area message dii has staged. absurd (none message dii (record { area = area; spare = has; staged = staged }));
  group = λ area message dii has staged enough. absurd (none message dii (record { area = area; spare = has; staged = staged }));
  places = λ area message dii has staged enough number b place. absurd (none message dii (record { area = area; spare = has; staged = staged }));
}

-- no call
pub kept_same : (g : Geometry) (x : List ℕ) (n least : ℕ) → KeepsStaged g n least x x
kept_same g x n least = record {
  margin = λ area message dii has staged. omega arith;
  group = λ area message dii has staged enough. record { area = area; spare = has; staged = staged };
  places = λ area message dii has staged enough number b place. place;
}
