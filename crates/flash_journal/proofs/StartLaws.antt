-- What a stage has once a group was begun.
use Rattle.std.specs.Prelude.{◌↔◌, Err, IsTrue, Ok, OnOk, Result, IsSome, sum_by, ◌||◌, ◌&&◌, if◌then◌else◌}
use Rattle.std.proofs.Common.{◌≡◌, ◌⊎◌, inl, inr, ⊎_elim, ℕ, zero, suc, ◌+◌, ◌-◌, ◌*◌, ◌<◌, ◌≤◌, Bool, true, false, not, List, [], length, Option, None, Some, refl, sym, ap, subst, ◌∙◌, arith}
use Rattle.bank_kept.proofs.AreaLaws.{area_after, area_order, is_area, one_area}
use Rattle.bank_kept.proofs.BankLaws.{bank_area, resumed_area}
use Rattle.bank_kept.proofs.CallLaws.{group_kept}
use Rattle.bank_kept.specs.Bank.{area_of_bank}
use Rattle.bank_kept.specs.Contents.{HasSpareArea, HoldsPlace, StagesGroup, StagesPlace}
use Rattle.bank_kept.specs.Leaving.{HoldsNoMore, KeepsStaged}
use Rattle.dsmcc_msg.specs.Control.{DiiFields, dii_message}
use Rattle.flash_bank.proofs.BankLemmas.{blank_bank, blank_journal}
use Rattle.flash_bank.proofs.LeavingLemmas.{resumed_keeps_boot}
use Rattle.flash_bank.specs.Bank.{Fits, block_of, current_of, geometry_of, is_begun, len_of, spare_bank, spare_journal}
use Rattle.flash_bank.specs.Journal.{LeavesResumed}
use Rattle.flash_bank.specs.Leaving.{KeepsBoot}
use Rattle.flash_bank.specs.Sound.{Keeps}
use Rattle.flash_bank.specs.declared.bank.Bank.{Bank}
use Rattle.flash_bank.specs.declared.record.Record.{Record}
use Rattle.flash_dev.proofs.Moments.{weaker}
use Rattle.flash_dev.specs.Changes.{IsBlank}
use Rattle.flash_dev.specs.Moments.{LeavesOnly}
use Rattle.flash_kept.proofs.AreaLaws.{area_held_before, area_staged}
use Rattle.flash_kept.proofs.Cases.{some_one, true_false}
use Rattle.flash_kept.proofs.CountLaws.{last_or, some_of}
use Rattle.flash_kept.specs.Counts.{all_below, some_below}
use Rattle.flash_kept.specs.Held.{InBank, InSlot, IsHeld, Stands}
use Rattle.flash_kept.specs.Leaving.{SameArea}
use Rattle.flash_kept.specs.Places.{place_count, place_of}
use Rattle.flash_kept.specs.Slots.{is_marked, is_slot_of, is_slotted}
use Rattle.flash_kept.specs.SpareArea.{IsInOrder, SpareArea}
use Rattle.flash_kept.specs.Staged.{HasStagedMessage, IsStaged}
use Rattle.flash_layout.specs.Layout.{Geometry, area_len, journal_len, mark_count}
use Rattle.flash_stage.proofs.InBankLemmas.{blank_place, same_journal}
use Rattle.flash_stage.proofs.LeavingLaws.{len_same}
use Rattle.flash_stage.specs.InBank.{LeavesBlank}
use Rattle.flash_stage.specs.Keeping.{HasWholeMargin, IsKeptIn, IsPlanOfMessage, IsStagedIn, StagesJust, StagesNone}
use Rattle.flash_stage.specs.Leaving.{SameBank}
use Rattle.ssu_group.proofs.PlaceLaws.{fill_image}
use Rattle.ssu_group.specs.Place.{place_at}
use Rattle.ssu_group.specs.Plan.{IsPlan, block_count}
use Rattle.ssu_group.specs.Refusal.{refusal}
use Rattle.ssu_group.specs.declared.group_plan.GroupPlan.{GroupPlan}
use Rattle.ssu_group.specs.declared.module_plan.ModulePlan.{ModulePlan}
use Rattle.ssu_group.specs.declared.places.Place.{Place}
use Rattle.flash_journal.proofs.KeptLaws.{KeptAt, kept_at, or_cases, or_left, or_right, staged_here, staged_text, stands_staged}
use Rattle.flash_journal.proofs.OfferLaws.{keeps_same}
use Rattle.flash_journal.proofs.PlainLaws.{blank_stages_none, journal_some, journal_two}
use Rattle.flash_journal.proofs.StoreLaws.{area_same}
use Rattle.flash_journal.specs.Texts.{keeps_places}
use Rattle.flash_journal.specs.Beginning.{LeavesCleared, StagesNew}
use Rattle.flash_journal.specs.InJournal.{IsBegunFor, KeepsPlaces, bytes_in_journal, has_in_journal, without_journal}
use Rattle.flash_journal.specs.declared.journal_stage.JournalStage.{JournalStage}

-- ---- answers

pub both_ok : {T E : Type 0} (P Q R : Type 0) (r : Result T E) → (P → Q → R) → OnOk r P → OnOk r Q → OnOk r R
both_ok P Q R (Ok v) follows p q = follows p q
both_ok P Q R (Err e) follows p q = tt

-- calls that only look leave what holds of the contents
pub looked : {F : Type 0} (moment : F → ℕ) (left_since : F → ℕ → List ℕ → Type 0) (old new : F) (x : List ℕ) (P : List ℕ → Type 0) → P x → LeavesOnly moment left_since old new (λ c. c ≡ x)
    → LeavesOnly moment left_since old new P
looked moment left_since old new x P here reads = weaker moment left_since old new (λ c. c ≡ x) P (λ c same. subst P (sym same) here) reads

-- ---- the stage of a plan

pub record IsOf (t : JournalStage) (message : List ℕ) (plan : GroupPlan) : Type 0 where
  pub block_size : t.block_size ≡ plan.block_size
  pub modules : t.modules.items ≡ plan.modules.items
  pub places : t.map.places ≡ plan.places
  pub message_is : t.message.items ≡ message

pub place_in_plan : (t : JournalStage) (message : List ℕ) (plan : GroupPlan) → IsOf t message plan → (n : ℕ) → place_at t.block_size t.modules.items n ≡ place_at plan.block_size plan.modules.items n
place_in_plan t message plan is n = (λ i. place_at (is.block_size i) (is.modules i) n)

kept_plan : (t : JournalStage) (message : List ℕ) (plan : GroupPlan) (b b' : Bank) → IsOf t message plan → SameBank b b' → IsKeptIn b' t.map.places → IsKeptIn b plan.places
kept_plan t message plan b b' of same kept = record {
  two = ap (λ (h : Record). h.layout) (sym same.current) ∙ kept.two;
  few = let few = kept.few in let is = of.places in let marks = ap mark_count same.geometry in omega (arith, few, is, marks);
}

-- ---- a group of which nothing is staged

place_group : (g : Geometry) (x message : List ℕ) (n : ℕ) (v : List ℕ) → StagesPlace g x message n v → (dii : DiiFields) × StagesGroup g x message dii
place_group g x message n v place = (place.staged.dii, record { area = place.area; spare = place.spare; staged = place.staged.staged })

pub no_place : (g : Geometry) (x message : List ℕ) → ((dii : DiiFields) → StagesGroup g x message dii → ⊥) → (n : ℕ) (v : List ℕ) → StagesPlace g x message n v → ⊥
no_place g x message none n v place = let one = place_group g x message n v place in none one.0 one.1

pub none_staged : (g : Geometry) (x message : List ℕ) → ((dii : DiiFields) → StagesGroup g x message dii → ⊥) → (t : Bool) (n : ℕ) → t ≡ false → (t ≡ true) ↔ IsStagedIn g x message n
none_staged g x message none t n free = (λ set. absurd (true_false t set free), λ staged. absurd (no_place g x message none n staged.0 staged.1))

-- a group that is not kept
pub plain_none : (b : Bank) (x message : List ℕ) (plan : GroupPlan) → Fits b x → IsPlanOfMessage (len_of b) message plan → (IsKeptIn b plan.places → ⊥) → (dii : DiiFields) → StagesGroup (geometry_of b) x message dii → ⊥
plain_none b x message plan fits of never dii group =
    let is = is_area (geometry_of b) x (block_of b) group.area fits.current group.spare in
    let two : (current_of b).layout ≡ 2 = ap (λ (h : Record). h.layout) (sym fits.head) ∙ is.two in
    let same : dii ≡ of.dii = some_one dii of.dii (sym group.staged.held.reads ∙ of.reads) in
    let count : plan.places ≡ place_count of.dii = plan.planned.all_places ∙ ap (λ (ms : List ModulePlan). sum_by block_count ms) of.lays.modules in
    let few = group.staged.held.few in
    let marks : group.area.marks ≡ mark_count (geometry_of b) = ap (λ (a : SpareArea). a.marks) is.is in
    let own = ap place_count same in
    never (record { two = two; few = omega (arith, count, few, marks, own) })

pub began_agrees : (t : JournalStage) (b b' : Bank) (y message : List ℕ) (plan : GroupPlan) → IsOf t message plan → SameBank b b' → Fits b' y → (IsKeptIn b plan.places → ⊥) → plan.total ≤ len_of b
    → IsBlank y (spare_bank b) (area_len (geometry_of b)) → KeepsPlaces t b' y
began_agrees t b b' y message plan of same fits never inside erased =
    let journal = same_journal b b' y same (λ two. blank_journal b two y erased) in
    record {
      kept = λ kept. absurd (never (kept_plan t message plan b b' of same kept));
      plain = λ still. record {
        places = λ number p at free. blank_place plan b b' y number p same inside (blank_bank b y erased) (sym (place_in_plan t message plan of number) ∙ at);
        journal = journal;
      };
      none = λ still. blank_stages_none b' y fits (journal_some b' y journal (journal_two b'));
    }

pub none_margin : (g : Geometry) (y : List ℕ) → StagesNone g y → HasWholeMargin g y
none_margin g y none area message dii has staged = absurd (none message dii (record { area = area; spare = has; staged = staged }))

pub began_margin : (b b' : Bank) (y : List ℕ) → SameBank b b' → Fits b' y → IsBlank y (spare_bank b) (area_len (geometry_of b)) → HasWholeMargin (geometry_of b) y
began_margin b b' y same fits erased =
    none_margin (geometry_of b) y (subst (λ (g : Geometry). StagesNone g y) same.geometry
    (blank_stages_none b' y fits (journal_some b' y (same_journal b b' y same (λ two. blank_journal b two y erased)) (journal_two b'))))

-- ---- a group that is kept from now on

pub new_agrees : (t : JournalStage) (m b' : Bank) (y message : List ℕ) (plan : GroupPlan) → IsOf t message plan → SameBank m b' → IsKeptIn m plan.places → ((k : ℕ) → k < plan.places → has_in_journal t k ≡ false)
    → StagesNew (geometry_of m) message y → KeepsPlaces t b' y
new_agrees t m b' y message plan of same kept free stages =
    let on : IsKeptIn b' t.map.places = record {
      two = ap (λ (h : Record). h.layout) same.current ∙ kept.two;
      few = let few = kept.few in let is = of.places in let marks = ap mark_count same.geometry in omega (arith, few, is, marks);
    } in
    let just : StagesJust (geometry_of m) y message t.map.places (has_in_journal t) (bytes_in_journal t b' y) = record {
      dii = stages.dii;
      group = stages.group;
      each = λ n lt set. absurd (true_false (has_in_journal t n) set (free n (let is = of.places in omega (arith, lt, is))));
      no_other = λ n v place. absurd (stages.none message n v (record { area = place.area; spare = place.spare; held = place.staged.held }));
    } in
    record {
      kept = λ still. subst (λ (w : List ℕ). StagesJust (geometry_of b') y w t.map.places (has_in_journal t) (bytes_in_journal t b' y)) (sym of.message_is)
          (subst (λ (g : Geometry). StagesJust g y message t.map.places (has_in_journal t) (bytes_in_journal t b' y)) (sym same.geometry) just);
      plain = λ never. absurd (never on);
      none = λ never. absurd (never on);
    }

pub cleared_moved : (h g : Geometry) (z x y : List ℕ) → h ≡ g → z ≡ x → LeavesCleared h z y → LeavesCleared g x y
cleared_moved h g z x y geometry same leaves = subst (λ (q : Geometry). LeavesCleared q x y) geometry (subst (λ (c : List ℕ). LeavesCleared h c y) same leaves)

-- ---- a group that is resumed

some_each : (f : ℕ → Bool) (n : ℕ) → some_below f n ≡ true → (k : ℕ) × (k < n) × (f k ≡ true)
unfolding all_below
some_each f zero e = absurd cc
some_each f (suc n) e = by_last (f n) refl (some_each f n)
  where
    by_before : (a c : Bool) → c ≡ false → not (a && not c) ≡ true → not a ≡ true
    by_before true c is e = let bad : not (true && not c) ≡ false = rw is refl in absurd cc
    by_before false c is e = refl

    by_last : (c : Bool) → f n ≡ c → (some_below f n ≡ true → (k : ℕ) × (k < n) × (f k ≡ true)) → (k : ℕ) × (k < suc n) × (f k ≡ true)
    by_last true is rest = (n, omega arith, is)
    by_last false is rest =
        let found = rest (by_before (all_below (λ k. not (f k)) n) (f n) is e) in
        (found.0, (let lt = found.1 in omega (arith, lt)), found.2)

slotted_some : (area : SpareArea) (c : List ℕ) (p : Place) → is_slotted area c p ≡ true → (s : ℕ) × (s < 16) × (is_slot_of area c p s ≡ true)
unfolding is_slotted
slotted_some area c p is = some_each (is_slot_of area c p) 16 is

some_slotted : (area : SpareArea) (c : List ℕ) (p : Place) (s : ℕ) → s < 16 → is_slot_of area c p s ≡ true → is_slotted area c p ≡ true
unfolding is_slotted
some_slotted area c p s lt is = some_of (is_slot_of area c p) 16 s lt is

some_value : {A : Type 0} (o : Option A) → IsSome o → (a : A) × (o ≡ Some a)
some_value None some = absurd cc
some_value (Some a) some = (a, refl)

-- `mark_stored` marked in the stage what the flash has: x is what it held, y what `resume` left of it
module _ (t : JournalStage) (b b' : Bank) (x y : List ℕ) (ready : IsBegunFor t b') (fits : Fits b x) (same : SameBank b b') (kept : IsKeptIn b t.map.places) (dii : DiiFields)
    (group : StagesGroup (geometry_of b) x t.message.items dii) (keeps : Keeps (geometry_of b) x y) (area_is : SameArea (area_of_bank b) x y) (after : Fits b' y)
    (marks : (n : ℕ) (p : Place) → place_at t.block_size t.modules.items n ≡ Some p → has_in_journal t n ≡ (is_marked (area_of_bank b) x n || is_slotted (area_of_bank b) x p)) where
  abbrev area : SpareArea
  area = area_of_bank b

  abbrev g : Geometry
  g = geometry_of b

  has : HasSpareArea (geometry_of b) x (area_of_bank b)
  has = bank_area b x fits kept.two

  staged_x : HasStagedMessage (area_of_bank b) x t.message.items dii
  staged_x = subst (λ (a : SpareArea). HasStagedMessage a x t.message.items dii) (one_area g x group.area area group.spare has) group.staged

  same_any : (a : SpareArea) → HasSpareArea g x a → SameArea a x y
  same_any a spare = subst (λ (q : SpareArea). SameArea q x y) (one_area g x area a has spare) area_is

  group_y : StagesGroup (geometry_of b) y t.message.items dii
  group_y = group_kept g x y b.limits keeps same_any t.message.items dii group

  on : IsKeptIn b' t.map.places
  on = record {
    two = ap (λ (h : Record). h.layout) same.current ∙ kept.two;
    few = let few = kept.few in let marks = ap mark_count same.geometry in omega (arith, few, marks);
  }

  at_y : KeptAt t b' y ready.dii
  at_y = kept_at t b' y ready after on dii (subst (λ (q : Geometry). StagesGroup q y t.message.items dii) (sym same.geometry) group_y)

  place_is : (n : ℕ) → place_of dii n ≡ place_at t.block_size t.modules.items n
  place_is n = ap (λ (d : DiiFields). place_of d n) (some_one dii ready.dii (sym staged_x.held.reads ∙ ready.reads)) ∙ at_y.places n

  -- a place that stands in x is staged there
  stands_x : (n : ℕ) (p : Place) (v : List ℕ) → place_at t.block_size t.modules.items n ≡ Some p → Stands (area_of_bank b) x n p v → IsStaged (area_of_bank b) x t.message.items n v
  stands_x n p v is stands = record { dii = dii; staged = staged_x; held = record { dii = dii; under = staged_x.held; place = p; is_place = place_is n ∙ is; stands = stands } }

  -- one that the stage has
  has_staged : (n : ℕ) → n < t.map.places → has_in_journal t n ≡ true → (v : List ℕ) × IsStaged (area_of_bank b) x t.message.items n v
  has_staged n lt set =
      let one = some_value (place_at t.block_size t.modules.items n) ((fill_image t.block_size t.modules.items t.map.places t.total ready.begun.planned).there n lt) in
      ⊎_elim
      (λ marked. (_, stands_x n one.0 _ one.1 (InBank marked refl)))
      (λ slotted. let slot = slotted_some area x one.0 slotted in (_, stands_x n one.0 _ one.1 (InSlot slot.0 slot.1 slot.2 refl)))
      (or_cases (is_marked area x n) (is_slotted area x one.0) (sym (marks n one.0 one.1) ∙ set))

  held_has : (n : ℕ) (v : List ℕ) → IsHeld (area_of_bank b) x t.message.items n v → has_in_journal t n ≡ true
  held_has n v held =
      let own : held.dii ≡ dii = some_one held.dii dii (sym held.under.reads ∙ staged_x.held.reads) in
      let is : place_at t.block_size t.modules.items n ≡ Some held.place = sym (place_is n) ∙ (ap (λ (d : DiiFields). place_of d n) (sym own) ∙ held.is_place) in
      marks n held.place is ∙ by_stand held.place held.stands
    where
      by_stand : (p : Place) → Stands (area_of_bank b) x n p v → (is_marked (area_of_bank b) x n || is_slotted (area_of_bank b) x p) ≡ true
      by_stand p (InBank set e) = or_left (is_marked (area_of_bank b) x n) (is_slotted (area_of_bank b) x p) set
      by_stand p (InSlot s lt set e) = or_right (is_marked (area_of_bank b) x n) (is_slotted (area_of_bank b) x p) (some_slotted (area_of_bank b) x p s lt set)

  order : IsInOrder (area_of_bank b)
  order = area_order (geometry_of b) x (area_of_bank b) b.limits has

  -- what is staged in x is staged in y
  to_y : (n : ℕ) (v : List ℕ) → IsStaged (area_of_bank b) x t.message.items n v → IsStaged (area_of_bank b) y t.message.items n v
  to_y n v staged = area_staged area x y order area_is t.message.items n v staged

  text_y : (n : ℕ) (v : List ℕ) → IsStaged (area_of_bank b) x t.message.items n v → bytes_in_journal t b' y n ≡ v
  text_y n v staged = staged_text t b' y ready.dii at_y n v (subst (λ (a : SpareArea). IsStaged a y t.message.items n v) (sym (area_same b b' same)) (to_y n v staged))

  place_y : (n : ℕ) (v : List ℕ) → IsStaged (area_of_bank b) x t.message.items n v → StagesPlace (geometry_of b) y t.message.items n (bytes_in_journal t b' y n)
  place_y n v staged =
      subst (λ (w : List ℕ). StagesPlace g y t.message.items n w) (sym (text_y n v staged)) (record { area = area; spare = area_after g x y area keeps has; staged = to_y n v staged })

  here : (n : ℕ) (v : List ℕ) → StagesPlace (geometry_of b) x t.message.items n v → IsStaged (area_of_bank b) x t.message.items n v
  here n v place = subst (λ (a : SpareArea). IsStaged a x t.message.items n v) (one_area g x place.area area place.spare has) place.staged

  here_y : (n : ℕ) (v : List ℕ) → StagesPlace (geometry_of b) y t.message.items n v → IsStaged (area_of_bank b) y t.message.items n v
  here_y n v place = subst (λ (a : SpareArea). IsStaged a y t.message.items n v) (one_area g y place.area area place.spare (area_after g x y area keeps has)) place.staged

  pub resumed_text : (n : ℕ) (v : List ℕ) → StagesPlace (geometry_of b) x t.message.items n v → bytes_in_journal t b' y n ≡ v
  resumed_text n v place = text_y n v (here n v place)

  pub resumed_has : (n : ℕ) → n < t.map.places → (has_in_journal t n ≡ true) ↔ IsStagedIn (geometry_of b) x t.message.items n
  resumed_has n lt = (
    λ set. let one = has_staged n lt set in (one.0, record { area = area; spare = has; staged = one.1 }),
    λ staged. held_has n staged.0 (here n staged.0 staged.1).held,
  )

  just : StagesJust (geometry_of b) y t.message.items t.map.places (has_in_journal t) (bytes_in_journal t b' y)
  just = record {
    dii = dii;
    group = group_y;
    each = λ n lt set. let one = has_staged n lt set in place_y n one.0 one.1;
    no_other = λ n v place. held_has n v (area_held_before area x y order area_is t.message.items n v (here_y n v place).held);
  }

  pub resumed_agrees : KeepsPlaces t b' y
  resumed_agrees = record {
    kept = λ still. subst (λ (q : Geometry). StagesJust q y t.message.items t.map.places (has_in_journal t) (bytes_in_journal t b' y)) (sym same.geometry) just;
    plain = λ never. absurd (never on);
    none = λ never. absurd (never on);
  }

-- ---- the stage has begun the group

pub ready_for : (t : JournalStage) (b b' : Bank) (message : List ℕ) (plan : GroupPlan) → IsOf t message plan → t.total ≡ plan.total → t.keeps ≡ keeps_places b plan.places
    → IsPlanOfMessage (len_of b) message plan → SameBank b b' → plan.total ≤ len_of b → is_begun b' ≡ true → IsBegunFor t b'
ready_for t b b' message plan of total keeps of_message same inside begun = record {
  begun = record {
    planned = subst (λ (n : ℕ). IsPlan t.block_size t.modules.items t.map.places n) (sym total)
        (subst (λ (n : ℕ). IsPlan t.block_size t.modules.items n plan.total) (sym of.places)
        (subst (λ (ms : List ModulePlan). IsPlan t.block_size ms plan.places plan.total) (sym of.modules)
        (subst (λ (n : ℕ). IsPlan n plan.modules.items plan.places plan.total) (sym of.block_size) plan.planned)));
    fits = let len = len_same b b' same in omega (arith, total, inside, len);
    begun = begun;
  };
  keeps = keeps ∙ sym (keeps_same b b' plan.places t.map.places same of.places);
  dii = of_message.dii;
  reads = ap dii_message.of of.message_is ∙ of_message.reads;
  usable = subst (λ (n : ℕ). refusal of_message.dii n ≡ None) (sym (len_same b b' same)) of_message.usable;
  block_size = of.block_size ∙ of_message.lays.block_size;
  modules = of.modules ∙ of_message.lays.modules;
}

-- ---- after calls that only look

pub boot_moved : (h g : Geometry) (z x y : List ℕ) → h ≡ g → z ≡ x → KeepsBoot h z y → KeepsBoot g x y
boot_moved h g z x y geometry same is = subst (λ (q : Geometry). KeepsBoot q x y) geometry (subst (λ (c : List ℕ). KeepsBoot h c y) same is)

pub holds_moved : (h g : Geometry) (z x y : List ℕ) → h ≡ g → z ≡ x → HoldsNoMore h z y → HoldsNoMore g x y
holds_moved h g z x y geometry same is = subst (λ (q : Geometry). HoldsNoMore q x y) geometry (subst (λ (c : List ℕ). HoldsNoMore h c y) same is)

pub staged_moved : (h g : Geometry) (z x y : List ℕ) → h ≡ g → z ≡ x → KeepsStaged h 0 0 z y → KeepsStaged g 0 0 x y
staged_moved h g z x y geometry same is = subst (λ (q : Geometry). KeepsStaged q 0 0 x y) geometry (subst (λ (c : List ℕ). KeepsStaged h 0 0 c y) same is)

pub keeps_moved : (h g : Geometry) (z x y : List ℕ) → h ≡ g → z ≡ x → Keeps h z y → Keeps g x y
keeps_moved h g z x y geometry same is = subst (λ (q : Geometry). Keeps q x y) geometry (subst (λ (c : List ℕ). Keeps h c y) same is)

pub area_moved : (a b : SpareArea) (z x y : List ℕ) → a ≡ b → z ≡ x → SameArea a z y → SameArea b x y
area_moved a b z x y area same is = subst (λ (q : SpareArea). SameArea q x y) area (subst (λ (c : List ℕ). SameArea a c y) same is)

pub kept_moved : (b n : Bank) (places : ℕ) → geometry_of n ≡ geometry_of b → current_of n ≡ current_of b → IsKeptIn b places → IsKeptIn n places
kept_moved b n places geometry current kept = record {
  two = ap (λ (h : Record). h.layout) current ∙ kept.two;
  few = let few = kept.few in let marks = ap mark_count geometry in omega (arith, few, marks);
}

pub marks_moved : (a b : SpareArea) (z x : List ℕ) (k : ℕ) (p : Place) → a ≡ b → z ≡ x → (t : Bool) → t ≡ (is_marked a z k || is_slotted a z p) → t ≡ (is_marked b x k || is_slotted b x p)
marks_moved a b z x k p area same t is = is ∙ (λ i. is_marked (area i) (same i) k || is_slotted (area i) (same i) p)
