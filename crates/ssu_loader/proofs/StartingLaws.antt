-- What a stage keeps where a group begins.
use Rattle.std.proofs.Common.{◌≡◌, ◌↔◌, ⊎_elim, ℕ, ◌<◌, Bool, true, false, List, length, Option, Some, None, refl, sym, ap, ◌∙◌}
use Rattle.std.specs.Prelude.{is_some}
use Rattle.std.proofs.lemmas.Bool.{false≢true}
use Rattle.bank_kept.specs.Contents.{StagesPlace}
use Rattle.bank_kept.proofs.AreaLaws.{area_fits, area_order}
use Rattle.dsmcc_msg.specs.Control.{DiiFields, dii_message}
use Rattle.flash_bank.specs.Bank.{Fits, geometry_of}
use Rattle.flash_bank.specs.declared.bank.Bank.{Bank}
use Rattle.flash_dev.specs.declared.device.Flash.{Ghosts as FlashGhosts}
use Rattle.flash_kept.specs.Places.{place_of}
use Rattle.flash_kept.proofs.AreaLaws.{held_len}
use Rattle.flash_layout.specs.Layout.{Geometry}
use Rattle.flash_stage.specs.Keeping.{IsPlanOfMessage, IsStagedIn}
use Rattle.flash_stage.specs.declared.stage.Stage.{Ghosts as StageGhosts}
use Rattle.group_image.proofs.ImageLaws.{place_below}
use Rattle.ssu_group.specs.Carried.{Fills}
use Rattle.ssu_group.specs.Place.{place_at}
use Rattle.ssu_group.specs.declared.group_plan.GroupPlan.{GroupPlan}
use Rattle.ssu_group.specs.declared.module_plan.ModulePlan.{ModulePlan}
use Rattle.ssu_group.specs.declared.places.Place.{Place}
use Rattle.ssu_loader.specs.Collecting.{HasFilled, HoldsFilling}
use Rattle.ssu_loader.specs.Starting.{KeepsAtStart, KnowsKept}

-- ---- the bytes of a place that is staged

one_dii : (message : List ℕ) (a b : DiiFields) → dii_message.of message ≡ Some a → dii_message.of message ≡ Some b → a ≡ b
one_dii message a b first second = cc

one_place : (o : Option Place) (p q : Place) → o ≡ Some p → o ≡ Some q → p ≡ q
one_place o p q first second = cc

-- a place that is staged of the group is one of its plan
module _ (message : List ℕ) (bank_len : ℕ) (plan : GroupPlan) (of_message : IsPlanOfMessage bank_len message plan) (g : Geometry) (c : List ℕ) (n : ℕ) (b : List ℕ)
    (is : StagesPlace g c message n b) where
  staged_at : place_at plan.block_size plan.modules.items n ≡ Some is.staged.held.place
  staged_at =
      let held = is.staged.held in
      let lays = of_message.lays in
      let same : of_message.dii ≡ held.dii = one_dii message of_message.dii held.dii of_message.reads held.under.reads in
      ap (λ (size : ℕ). place_at size plan.modules.items n) lays.block_size
      ∙ (ap (λ (ms : List ModulePlan). place_at of_message.dii.block_size ms n) lays.modules
      ∙ (ap (λ (d : DiiFields). place_of d n) same ∙ held.is_place))

  pub planned_place : (p : Place) × (place_at plan.block_size plan.modules.items n ≡ Some p)
  planned_place = (is.staged.held.place, staged_at)

-- its bytes are as many as the place has
pub staged_len : (bank : Bank) (c message : List ℕ) (bank_len : ℕ) (plan : GroupPlan) (n : ℕ) (p : Place) (b : List ℕ) → Fits bank c → IsPlanOfMessage bank_len message plan
    → place_at plan.block_size plan.modules.items n ≡ Some p → StagesPlace (geometry_of bank) c message n b → length b ≡ p.len
staged_len bank c message bank_len plan n p b fits of_message at is =
    let held = is.staged.held in
    let own = staged_at message bank_len plan of_message (geometry_of bank) c n b is in
    held_len is.area c message n b held.dii held.place (area_order (geometry_of bank) c is.area bank.limits is.spare)
    (area_fits (geometry_of bank) c is.area bank.limits fits.sound is.spare) held.under held.is_place held.stands
    ∙ ap (λ (q : Place). q.len) (one_place (place_at plan.block_size plan.modules.items n) held.place p own at)

-- ---- what the stage has

-- where it keeps places, the flash tells them
told_kept : {S F : Type 0} (s : StageGhosts S) (f : FlashGhosts F) → KnowsKept s f → s.KEEPS ≡ true → f.tells
told_kept s f known keeps = ⊎_elim (λ none. absurd (false≢true (sym none ∙ keeps))) (λ tells. tells) known

module _ {S F : Type 0} (s : StageGhosts S) (f : FlashGhosts F) (message : List ℕ) (plan : GroupPlan) (fills : Fills) (bank : Bank) (flash : F)
    (start : KeepsAtStart s f message plan fills bank flash) where
  -- the places that are kept, and no other
  pub starts_filled : (stage : S) → KnowsKept s f → (s.KEEPS ≡ false → (n : ℕ) → n < plan.places → s.has stage n ≡ false)
      → (f.tells → s.KEEPS ≡ true → (n : ℕ) → n < plan.places → (s.has stage n ≡ true) ↔ IsStagedIn (geometry_of bank) (f.contents flash) message n)
      → HasFilled s plan fills stage
  starts_filled stage known empty kept n below = by_stage s.KEEPS refl
    where
      by_fill : f.tells → s.KEEPS ≡ true → (o : Option (List ℕ)) → fills n ≡ o → s.has stage n ≡ is_some (fills n)
      by_fill tells keeps (Some b) is = (kept tells keeps n below).1 (b, (start.staged keeps tells n b below).0 is) ∙ sym (ap is_some is)
      by_fill tells keeps None is = by_has (s.has stage n) refl
        where
          by_has : (h : Bool) → s.has stage n ≡ h → s.has stage n ≡ is_some (fills n)
          by_has false without = without ∙ sym (ap is_some is)
          by_has true has =
              let staged = (kept tells keeps n below).0 has in
              let filled = (start.staged keeps tells n staged.0 below).1 staged.1 in
              absurd cc

      by_stage : (k : Bool) → s.KEEPS ≡ k → s.has stage n ≡ is_some (fills n)
      by_stage false is = empty is n below ∙ sym (ap is_some (start.nothing is n below))
      by_stage true is = by_fill (told_kept s f known is) is (fills n) refl

  -- with the bytes that are staged of them
  pub starts_holding : (stage : S) (bank' : Bank) (c : List ℕ) (bank_len : ℕ) → f.tells → Fits bank (f.contents flash) → IsPlanOfMessage bank_len message plan
      → (s.KEEPS ≡ true → (n : ℕ) (b : List ℕ) → StagesPlace (geometry_of bank) (f.contents flash) message n b → s.bytes_at stage bank' c n ≡ b)
      → HoldsFilling s plan fills stage bank' c
  starts_holding stage bank' c bank_len tells fits of_message bytes = record {
    lengths = λ n p b at is.
        let staged = staged_now n b (place_below plan n p at) is in
        staged_len bank (f.contents flash) message bank_len plan n p b fits of_message at staged.1;
    texts = λ n b below is. let staged = staged_now n b below is in bytes staged.0 n b staged.1;
  }
    where
      staged_now : (n : ℕ) (b : List ℕ) → n < plan.places → fills n ≡ Some b → (s.KEEPS ≡ true) × StagesPlace (geometry_of bank) (f.contents flash) message n b
      staged_now n b below is = by_stage s.KEEPS refl
        where
          by_stage : (k : Bool) → s.KEEPS ≡ k → (s.KEEPS ≡ true) × StagesPlace (geometry_of bank) (f.contents flash) message n b
          by_stage false keeps = let none = start.nothing keeps n below in absurd cc
          by_stage true keeps = (keeps, (start.staged keeps tells n b below).0 is)
