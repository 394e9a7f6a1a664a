-- Slots that fit a plan, and what is staged.
use Rattle.std.specs.Prelude.{◌↔◌, ◌==◌, ◌&&◌, IsTrue, nat_le, sum_by}
use Rattle.std.proofs.Common.{◌≡◌, ◌⊎◌, inl, inr, ℕ, ◌+◌, ◌<◌, ◌≤◌, Bool, true, false, List, length, get_or, None, Some, refl, sym, ap, subst, ◌∙◌, arith}
use Rattle.std.proofs.lemmas.Bool.{cases_lt, eqb-true, le-leb, leb-true}
use Rattle.bank_kept.specs.Bank.{area_of_bank}
use Rattle.bank_kept.specs.Contents.{HasSpareArea, StagesGroup}
use Rattle.bank_kept.proofs.AreaLaws.{area_order, one_area}
use Rattle.bank_kept.proofs.BankLaws.{bank_area}
use Rattle.dsmcc_msg.specs.Control.{DiiFields}
use Rattle.flash_bank.specs.Bank.{Fits, current_of, geometry_of, len_of}
use Rattle.flash_bank.specs.declared.bank.Bank.{Bank}
use Rattle.flash_kept.specs.Counts.{count_below}
use Rattle.flash_kept.specs.Leaving.{HeaderStands}
use Rattle.flash_kept.specs.Lost.{is_lost, lost_places}
use Rattle.flash_kept.specs.Places.{place_count, place_of}
use Rattle.flash_kept.specs.Slots.{free_slots, is_marked, is_slot_of, is_valid_slot, slot_in}
use Rattle.flash_kept.specs.SpareArea.{SpareArea}
use Rattle.flash_kept.specs.Staged.{HasStagedMessage, SlotsFit}
use Rattle.flash_kept.proofs.Cases.{some_one, true_false}
use Rattle.flash_kept.proofs.CountLaws.{and_left, and_right}
use Rattle.flash_kept.proofs.HeadLaws.{header_done}
use Rattle.flash_layout.specs.Layout.{mark_count}
use Rattle.flash_layout.specs.Slots.{slot_at, slot_len}
use Rattle.flash_stage.specs.Keeping.{IsPlanOfMessage}
use Rattle.flash_stage.proofs.InBankLemmas.{apart, own_number}
use Rattle.ssu_group.specs.Lays.{IsPlanOf}
use Rattle.ssu_group.specs.Place.{place_at}
use Rattle.ssu_group.specs.Plan.{block_count, size_of}
use Rattle.ssu_group.specs.Refusal.{refusal}
use Rattle.ssu_group.specs.declared.group_plan.GroupPlan.{GroupPlan}
use Rattle.ssu_group.specs.declared.module_plan.ModulePlan.{ModulePlan}
use Rattle.ssu_group.specs.declared.places.Place.{Place}
use Rattle.ssu_group.proofs.LayoutLaws.{laid_bytes, not_refused}
use Rattle.ssu_group.proofs.PlaceLaws.{fill_image}
use Rattle.flash_journal.specs.Planned.{SlotsFitPlan, lost_in_plan}
use Rattle.flash_journal.proofs.HeldLaws.{held_stands}
use Rattle.flash_journal.proofs.MessageLaws.{message_few, message_some}
use Rattle.flash_journal.proofs.RangeLaws.{len_two}

-- what a slot that is for a place says
pub record SaysRange (area : SpareArea) (c : List ℕ) (p : Place) (s : ℕ) : Type 0 where
  pub valid : is_valid_slot area c s ≡ true
  pub at : slot_at (slot_in area c s) ≡ p.at
  pub len : slot_len (slot_in area c s) ≡ p.len

pub range_said : (area : SpareArea) (c : List ℕ) (p : Place) (s : ℕ) → is_slot_of area c p s ≡ true → SaysRange area c p s
range_said area c p s is =
    let range = and_right (is_valid_slot area c s) (slot_at (slot_in area c s) == p.at && slot_len (slot_in area c s) == p.len) is in
    record {
      valid = and_left (is_valid_slot area c s) (slot_at (slot_in area c s) == p.at && slot_len (slot_in area c s) == p.len) is;
      at = eqb-true (slot_at (slot_in area c s)) p.at (and_left (slot_at (slot_in area c s) == p.at) (slot_len (slot_in area c s) == p.len) range);
      len = eqb-true (slot_len (slot_in area c s)) p.len (and_right (slot_at (slot_in area c s) == p.at) (slot_len (slot_in area c s) == p.len) range);
    }

-- the place of a number of the plan
abbrev pub at_number : GroupPlan → Place → Type 0
at_number plan p = place_at plan.block_size plan.modules.items p.number ≡ Some p

-- two places with one range are one
pub one_place : (plan : GroupPlan) (p q : Place) → at_number plan p → at_number plan q → p.at ≡ q.at → p.len ≡ q.len → p ≡ q
one_place plan p q e f at len = by_order (cases_lt p.number q.number) (cases_lt q.number p.number)
  where
    some_p : 0 < p.len
    some_p = ((fill_image plan.block_size plan.modules.items plan.places plan.total plan.planned).not_empty p.number p e).0

    clash : (p.at + p.len ≤ q.at) ⊎ (q.at + q.len ≤ p.at) → p ≡ q
    clash (inl front) = absurd (omega (arith, front, at, some_p))
    clash (inr behind) = absurd (omega (arith, behind, at, len, some_p))

    by_order : (p.number < q.number) ⊎ (q.number ≤ p.number) → (q.number < p.number) ⊎ (p.number ≤ q.number) → p ≡ q
    by_order (inl lt) _ = clash (apart plan p.number q.number p q e f (λ same. absurd (omega (arith, same, lt))))
    by_order (inr le) (inl gt) = clash (apart plan p.number q.number p q e f (λ same. absurd (omega (arith, same, gt))))
    by_order (inr le) (inr ge) =
        let same : q.number ≡ p.number = omega (arith, le, ge) in
        some_one p q (sym e ∙ subst (λ (n : ℕ). place_at plan.block_size plan.modules.items n ≡ Some q) same f)

pub one_of_slot : (area : SpareArea) (plan : GroupPlan) (c : List ℕ) (s : ℕ) (p q : Place) → at_number plan p → at_number plan q → is_slot_of area c p s ≡ true → is_slot_of area c q s ≡ true → p ≡ q
one_of_slot area plan c s p q e f first second =
    let a = range_said area c p s first in
    let b = range_said area c q s second in
    one_place plan p q e f (sym a.at ∙ b.at) (sym a.len ∙ b.len)

not_both : (b : Bool) (s t : ℕ) → (b ≡ true → s ≡ t) → t < s → b ≡ false
not_both false s t is less = refl
not_both true s t is less = absurd (let same = is refl in omega (arith, same, less))

-- ---- the plan is that of a DII

module _ (area : SpareArea) (plan : GroupPlan) (dii : DiiFields) (lays : IsPlanOf dii plan) (c : List ℕ) where
  same_at : (n : ℕ) → place_at plan.block_size plan.modules.items n ≡ place_of dii n
  same_at n = (λ i. place_at (lays.block_size i) (lays.modules i) n)

  same_count : plan.places ≡ place_count dii
  same_count = plan.planned.all_places ∙ ap (λ (ms : List ModulePlan). sum_by block_count ms) lays.modules

  pub same_lost : lost_in_plan area plan c ≡ lost_places area dii c
  unfolding lost_in_plan lost_places
  same_lost = (λ i. count_below (λ n. is_lost area c n (same_at n i)) (same_count i))

  own : (n : ℕ) (p : Place) → place_of dii n ≡ Some p → at_number plan p
  own n p at =
      let here = same_at n ∙ at in
      subst (λ (k : ℕ). place_at plan.block_size plan.modules.items k ≡ Some p) (sym (own_number plan n p here)) here

  number_is : (n : ℕ) (p : Place) → place_of dii n ≡ Some p → p.number ≡ n
  number_is n p at = own_number plan n p (same_at n ∙ at)

  pub slots_from : SlotsFitPlan area plan c → SlotsFit area dii c
  slots_from fits = record {
    each = λ s lt valid. let f = fits s lt valid in record { number = f.place.number; place = f.place; is_place = sym (same_at f.place.number) ∙ f.is_place; is_slot = f.is_slot };
    unmarked = λ s n p lt at is.
        let f = fits s lt (range_said area c p s is).valid in
        let same = one_of_slot area plan c s f.place p f.is_place (own n p at) f.is_slot is in
        subst (λ (k : ℕ). is_marked area c k ≡ false) (ap (λ (q : Place). q.number) same ∙ number_is n p at) f.unmarked;
    another = λ s t n p ls lt at first second. by_order s t p ls lt (own n p at) first second (cases_lt s t) (cases_lt t s);
  }
    where
      before : (s t : ℕ) (p : Place) → t < 16 → at_number plan p → is_slot_of area c p s ≡ true → is_slot_of area c p t ≡ true → s < t → s ≡ t
      before s t p lt e first second less =
          let f = fits t lt (range_said area c p t second).valid in
          let same = one_of_slot area plan c t f.place p f.is_place e f.is_slot second in
          true_false (is_slot_of area c p s) first (subst (λ (q : Place). is_slot_of area c q s ≡ false) same (f.first s less))

      by_order : (s t : ℕ) (p : Place) → s < 16 → t < 16 → at_number plan p → is_slot_of area c p s ≡ true → is_slot_of area c p t ≡ true → (s < t) ⊎ (t ≤ s) → (t < s) ⊎ (s ≤ t) → s ≡ t
      by_order s t p ls lt e first second (inl less) _ = before s t p lt e first second less
      by_order s t p ls lt e first second (inr le) (inl more) = sym (before t s p ls e second first more)
      by_order s t p ls lt e first second (inr le) (inr ge) = omega (arith, le, ge)

  pub slots_to : SlotsFit area dii c → SlotsFitPlan area plan c
  slots_to slots s lt valid =
      let o = slots.each s lt valid in
      record {
        place = o.place;
        is_place = own o.number o.place o.is_place;
        is_slot = o.is_slot;
        unmarked = subst (λ (k : ℕ). is_marked area c k ≡ false) (sym (number_is o.number o.place o.is_place)) (slots.unmarked s o.number o.place lt o.is_place o.is_slot);
        first = λ t less. not_both (is_slot_of area c o.place t) s t (λ yes. slots.another s t o.number o.place lt (omega (arith, less, lt)) o.is_place o.is_slot yes) less;
      }

-- it fits the bank for which the DII is usable
pub plan_fits : (bank_len : ℕ) (message : List ℕ) (plan : GroupPlan) → IsPlanOfMessage bank_len message plan → plan.total ≤ bank_len
plan_fits bank_len message plan of_message =
    let dii = of_message.dii in
    let is = not_refused dii bank_len of_message.usable in
    let laid = laid_bytes dii.block_size 0 0 dii.modules in
    let bytes = plan.planned.all_bytes ∙ ap (λ (ms : List ModulePlan). sum_by size_of ms) of_message.lays.modules in
    let fits = is.fits in
    omega (arith, bytes, laid, fits)

pub le_tested : (a b : ℕ) → IsTrue (nat_le a b) ↔ (a ≤ b)
le_tested a b = (λ yes. leb-true a b yes, λ le. le-leb a b le)

-- ---- what is staged

module _ (bank : Bank) (c message : List ℕ) (plan : GroupPlan) (fits : Fits bank c) (two : (current_of bank).layout ≡ 2) (of_message : IsPlanOfMessage (len_of bank) message plan)
    (few : plan.places ≤ mark_count (geometry_of bank)) where
  abbrev area : SpareArea
  area = area_of_bank bank

  abbrev dii : DiiFields
  dii = of_message.dii

  has : HasSpareArea (geometry_of bank) c area
  has = bank_area bank c fits two

  usable : refusal dii area.bank_len ≡ None
  usable = subst (λ (n : ℕ). refusal dii n ≡ None) (len_two bank two) of_message.usable

  few_of : place_count dii ≤ mark_count (geometry_of bank)
  few_of = subst (λ (n : ℕ). n ≤ mark_count (geometry_of bank)) (same_count area plan dii of_message.lays c) few

  -- the header stands, the slots fit, and there are enough
  pub staged_from : (current_of bank).number < 4294967295 → ((i : ℕ) → i < length message → get_or message i 0 ≤ 255) → HeaderStands area message c → SlotsFitPlan area plan c
      → lost_in_plan area plan c ≤ free_slots area c → (d : DiiFields) × StagesGroup (geometry_of bank) c message d
  staged_from next bytes stands slots enough =
      let lost = same_lost area plan dii of_message.lays c in (
        dii,
        record {
          area = area;
          spare = has;
          staged = record {
            held = header_done area message c (omega (arith, next)) (message_some message dii of_message.reads) (message_few message dii of_message.reads) bytes stands dii
                (area_order (geometry_of bank) c area bank.limits has) of_message.reads usable few_of;
            slots = slots_from area plan dii of_message.lays c slots;
            enough = omega (arith, lost, enough);
          };
        },
      )

  -- and only where they do
  pub staged_to : ((k : ℕ) → get_or c k 0 ≤ 255) → (d : DiiFields) × StagesGroup (geometry_of bank) c message d
      → HeaderStands area message c × (SlotsFitPlan area plan c × (lost_in_plan area plan c ≤ free_slots area c))
  staged_to bytes stages =
      let same = one_area (geometry_of bank) c stages.1.area area stages.1.spare has in
      let there = subst (λ (a : SpareArea). HasStagedMessage a c message stages.0) same stages.1.staged in
      let one : stages.0 ≡ dii = some_one stages.0 dii (sym there.held.reads ∙ of_message.reads) in
      let staged = subst (λ (d : DiiFields). HasStagedMessage area c message d) one there in
      let lost = same_lost area plan dii of_message.lays c in
      let enough = staged.enough in (
        held_stands area c message dii (area_order (geometry_of bank) c area bank.limits has) bytes staged.held,
        (slots_to area plan dii of_message.lays c staged.slots, omega (arith, lost, enough)),
      )
