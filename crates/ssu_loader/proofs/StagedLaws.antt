-- What a stage that keeps its places has staged, and what goes on of that from one call to the next.
use Rattle.std.proofs.Common.{◌≡◌, inl, inr, ⊎_elim, ℕ, ◌<◌, Bool, true, false, cond, List, [], Option, Some, None, refl, sym, ap, subst, ◌∙◌, arith}
use Rattle.std.specs.Prelude.{is_some, unwrap_or}
use Rattle.std.specs.List.{find}
use Rattle.std.proofs.lemmas.Bool.{eq-eqb}
use Rattle.bank_kept.specs.Contents.{StagesGroup, StagesPlace}
use Rattle.bank_kept.specs.Leaving.{HoldsNoMore, KeepsStaged}
use Rattle.bank_kept.proofs.CallLaws.{kept_joined, kept_weaker}
use Rattle.dsmcc_msg.specs.Block.{DdbFields, ddb}
use Rattle.flash_bank.specs.Bank.{Fits, geometry_of}
use Rattle.flash_bank.specs.Leaving.{KeepsBoot}
use Rattle.flash_bank.specs.declared.bank.Bank.{Bank}
use Rattle.flash_dev.specs.Moments.{LeavesOnly}
use Rattle.flash_dev.specs.declared.device.Flash.{Ghosts as FlashGhosts}
use Rattle.flash_layout.specs.Layout.{Geometry}
use Rattle.flash_stage.specs.Keeping.{HoldsOffered, IsKeptIn, IsPlanOfMessage, KeepsStagedUnlessInstalled, StagesJust, StagesNone}
use Rattle.flash_stage.specs.Leaving.{SameBank}
use Rattle.flash_stage.specs.Outline.{Outline}
use Rattle.flash_stage.specs.declared.stage.Stage.{Ghosts as StageGhosts}
use Rattle.group_image.proofs.ImageLaws.{place_below}
use Rattle.ssu_group.specs.Carried.{Fills, IsWrong, brings, carried_image, is_wrong, missing_places}
use Rattle.ssu_group.specs.Place.{place_of}
use Rattle.ssu_group.specs.declared.group_plan.GroupPlan.{GroupPlan}
use Rattle.ssu_group.specs.declared.module_plan.ModulePlan.{ModulePlan}
use Rattle.ssu_group.specs.declared.wrong.Wrong.{Wrong}
use Rattle.ssu_group.specs.declared.places.Place.{Place}
use Rattle.ssu_group.proofs.Filling.{brings_place}
use Rattle.ssu_route.specs.declared.choice.Choice.{Choice}
use Rattle.ssu_loader.specs.Collecting.{HasFilled, HoldsFilling, Works}
use Rattle.ssu_loader.specs.Settling.{SettlingLeaves}
use Rattle.ssu_loader.specs.Staging.{HoldsWithSection, IsWrongGroup, StagesFills, StagingLeaves}
use Rattle.ssu_loader.proofs.SettlingLaws.{has_wrong, whole_joined, whole_moved}
use Rattle.ssu_loader.proofs.StartingLaws.{planned_place}

-- ---- one call, and one after another

-- where nothing was changed
pub staged_same : (g : Geometry) (x : List ℕ) → KeepsStaged g 0 0 x x
staged_same g x = record {
  margin = λ area message dii spare staged. omega arith;
  group = λ area message dii spare staged enough. record { area = area; spare = spare; staged = staged };
  places = λ area message dii spare staged enough n b is. is;
}

pub leaves_same : (choice : Choice) (fills : Fills) (bank : Bank) (x : List ℕ) → StagingLeaves 0 choice fills bank x x
leaves_same choice fills bank x = inl (staged_same (geometry_of bank) x)

-- after a call that kept all that was staged
pub staging_joined : (n : ℕ) (choice : Choice) (fills : Fills) (bank : Bank) (x y z : List ℕ) → Fits bank x → KeepsBoot (geometry_of bank) x y
    → KeepsStaged (geometry_of bank) 0 0 x y → StagingLeaves 0 choice fills bank y z → StagingLeaves n choice fills bank x z
staging_joined n choice fills bank x y z fits boot staged =
    ⊎_elim
    (λ kept. inl (kept_weaker (geometry_of bank) n n x z (kept_joined (geometry_of bank) 0 0 x y z boot.keeps staged kept)))
    (λ other. inr (⊎_elim (λ wrong. inl wrong) (λ installs. inr (whole_joined choice fills bank x y z fits boot installs)) other))

-- by a bank that is as it was
pub staging_moved : (n : ℕ) (choice : Choice) (fills : Fills) (old new : Bank) (x y : List ℕ) → SameBank old new → StagingLeaves n choice fills new x y
    → StagingLeaves n choice fills old x y
staging_moved n choice fills old new x y same =
    ⊎_elim
    (λ kept. inl (subst (λ (g : Geometry). KeepsStaged g n n x y) same.geometry kept))
    (λ other. inr (⊎_elim (λ wrong. inl wrong) (λ installs. inr (whole_moved choice fills old new x y same installs)) other))

-- what `finish` leaves
pub finish_staging : (choice : Choice) (fills : Fills) (bank : Bank) (x y : List ℕ) → SettlingLeaves choice fills bank x y → KeepsStagedUnlessInstalled (geometry_of bank) x y
    → StagingLeaves 0 choice fills bank x y
finish_staging choice fills bank x y settles staged =
    ⊎_elim (λ boot. inl (staged boot.keeps)) (λ installs. inr (inr installs)) settles

-- of two facts of all that a power loss may leave, both
pub both_left : {F : Type 0} (f : FlashGhosts F) (old new : F) (P Q : List ℕ → Type 0) → LeavesOnly f.moment f.left_since old new P → LeavesOnly f.moment f.left_since old new Q
    → LeavesOnly f.moment f.left_since old new (λ c. P c × Q c)
both_left f old new P Q one two = record {
  later = one.later;
  each = λ c left. (one.each c left, two.each c left);
  before = λ t c le left. ⊎_elim (λ was. inl was) (λ p. ⊎_elim (λ was. inl was) (λ q. inr (p, q)) (two.before t c le left)) (one.before t c le left);
  keeps = one.keeps;
}

-- nothing more is held, by a bank that is as it was
pub no_more_moved : (old new : Bank) (x y : List ℕ) → SameBank old new → HoldsNoMore (geometry_of new) x y → HoldsNoMore (geometry_of old) x y
no_more_moved old new x y same = subst (λ (g : Geometry). HoldsNoMore g x y) same.geometry

-- a module is wrong
pub wrong_group : (choice : Choice) (fills : Fills) (m : ModulePlan) (wrong : Wrong) → missing_places choice.plan fills ≡ 0
    → find (is_wrong (carried_image choice.plan fills)) choice.plan.modules.items ≡ Some m → IsWrong (carried_image choice.plan fills) m wrong
    → IsWrongGroup choice.plan fills
wrong_group choice fills m wrong filled first is = record {
  id = wrong.id;
  want = wrong.want;
  found = wrong.found;
  wrong = has_wrong choice fills m wrong filled first is;
}

-- ---- what a block leaves

pub holds_same : (keeps : Bool) (g : Geometry) (message : List ℕ) (plan : GroupPlan) (section x : List ℕ) → HoldsWithSection keeps g message plan section x x
holds_same keeps g message plan section x other n b holds = inl holds

pub holds_offered : (keeps : Bool) (g : Geometry) (message : List ℕ) (plan : GroupPlan) (section : List ℕ) (d : DdbFields) (p : Place) (x y : List ℕ) → ddb.of section ≡ Some d
    → place_of plan d ≡ Some p → HoldsOffered keeps g message p.number d.bytes x y → HoldsWithSection keeps g message plan section x y
holds_offered false g message plan section d p x y read placed offered other n b holds = inl (offered other n b holds)
holds_offered true g message plan section d p x y read placed offered other n b holds =
    ⊎_elim (λ was. inl was) (λ is. inr (
      refl,
      is.0,
      ap (λ (k : ℕ). brings plan k section) is.1 ∙ own_bytes ∙ ap (λ (bytes : List ℕ). Some bytes) (sym is.2),
    )) (offered other n b holds)
  where
    own_bytes : brings plan p.number section ≡ Some d.bytes
    own_bytes =
        brings_place plan p.number section d p read placed ∙ ap (λ (same : Bool). cond same (Some d.bytes) None) (eq-eqb p.number p.number refl)

pub holds_joined : (keeps : Bool) (g : Geometry) (message : List ℕ) (plan : GroupPlan) (section x y z : List ℕ) → HoldsWithSection keeps g message plan section x y → HoldsNoMore g y z
    → HoldsWithSection keeps g message plan section x z
holds_joined keeps g message plan section x y z first second other n b holds = first other n b (second other n b holds)

-- ---- what is staged while the stage works

-- the laws of a stage
abbrev pub StagesWhatItHas : {S : Type 0} → StageGhosts S → Type 0
StagesWhatItHas {S} s = s.KEEPS ≡ true → (stage : S) (bank : Bank) (held : List ℕ) → s.ready stage bank → s.agrees stage bank held → Fits bank held
    → IsKeptIn bank (s.plan_of stage).places
    → StagesJust (geometry_of bank) held (s.message_of stage) (s.plan_of stage).places (s.has stage) (s.bytes_at stage bank held)

abbrev pub StagesNoOther : {S : Type 0} → StageGhosts S → Type 0
StagesNoOther {S} s = s.KEEPS ≡ true → (stage : S) (bank : Bank) (held : List ℕ) → s.ready stage bank → s.agrees stage bank held → Fits bank held
    → (IsKeptIn bank (s.plan_of stage).places → ⊥) → StagesNone (geometry_of bank) held

module _ {S F : Type 0} (s : StageGhosts S) (f : FlashGhosts F) (plan : GroupPlan) (stage : S) (bank : Bank) (flash : F) (works : Works s f plan stage bank flash) (tells : f.tells)
    (keeps : s.KEEPS ≡ true) where
  abbrev g : Geometry
  g = geometry_of bank

  abbrev c : List ℕ
  c = f.contents flash

  -- just the places that are kept or filled, with their bytes
  pub stages_of : StagesWhatItHas s → (fills : Fills) (message : List ℕ) (bank_len : ℕ) → IsPlanOfMessage bank_len message plan → s.message_of stage ≡ message
      → HasFilled s plan fills stage → HoldsFilling s plan fills stage bank (f.contents flash) → IsKeptIn bank plan.places
      → StagesFills (geometry_of bank) (f.contents flash) message plan fills
  stages_of law fills message bank_len of_message own filled holds kept = record {
    dii = just.dii;
    group = subst (λ (m : List ℕ). StagesGroup g c m just.dii) own just.group;
    each = λ n below is. subst (StagesPlace g c message n) (text_is n below (fills n) refl is)
        (subst (λ (m : List ℕ). StagesPlace g c m n (s.bytes_at stage bank c n)) own (just.each n (below_outline n below) (filled n below ∙ is)));
    no_other = λ n b is.
        let place = planned_place message bank_len plan of_message g c n b is in
        sym (filled n (place_below plan n place.0 place.1)) ∙ just.no_other n b (subst (λ (m : List ℕ). StagesPlace g c m n b) (sym own) is);
  }
    where
      places : (s.plan_of stage).places ≡ plan.places
      places = ap (λ (o : Outline). o.places) works.planned

      below_outline : (n : ℕ) → n < plan.places → n < (s.plan_of stage).places
      below_outline n below = subst (λ (k : ℕ). n < k) (sym places) below

      just : StagesJust g c (s.message_of stage) (s.plan_of stage).places (s.has stage) (s.bytes_at stage bank c)
      just = law keeps stage bank c works.ready (works.agrees tells) (works.lent.fits tells) (subst (IsKeptIn bank) (sym places) kept)

      text_is : (n : ℕ) → n < plan.places → (o : Option (List ℕ)) → fills n ≡ o → is_some (fills n) ≡ true → s.bytes_at stage bank c n ≡ unwrap_or (fills n) []
      text_is n below None is some = absurd cc
      text_is n below (Some b) is some = holds.texts n b below is ∙ sym (ap (λ (o : Option (List ℕ)). unwrap_or o []) is)

  -- a group that is not kept
  pub stages_none : StagesNoOther s → (IsKeptIn bank plan.places → ⊥) → StagesNone (geometry_of bank) (f.contents flash)
  stages_none law other =
      law keeps stage bank (f.contents flash) works.ready (works.agrees tells) (works.lent.fits tells)
      (λ kept. other (subst (IsKeptIn bank) (ap (λ (o : Outline). o.places) works.planned) kept))
