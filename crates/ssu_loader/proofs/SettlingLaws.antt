-- A group of which no place is missing: what its modules are, and what is installed.
use Rattle.std.proofs.Common.{◌≡◌, inl, inr, ⊎_elim, ℕ, zero, suc, ◌+◌, ◌<◌, ◌≤◌, Bool, true, false, eqb, List, [], Option, Some, None, refl, sym, ap, subst, ◌∙◌, arith}
use Rattle.std.specs.Prelude.{Contains, IfSome, MatchOption, is_some, unwrap_or}
use Rattle.std.specs.List.{find}
use Rattle.std.proofs.lemmas.Bool.{eq-eqb, eqb-true}
use Rattle.ts_crc.specs.Crc.{crc_of}
use Rattle.flash_bank.specs.Bank.{Fits, current_of, geometry_of}
use Rattle.flash_bank.specs.Leaving.{Installs, KeepsBoot}
use Rattle.flash_bank.specs.Record.{next_record}
use Rattle.flash_bank.proofs.LeavingLemmas.{keeps_boot_joined}
use Rattle.flash_bank.specs.declared.bank.Bank.{Bank}
use Rattle.flash_bank.specs.declared.record.Record.{Record}
use Rattle.flash_stage.specs.Leaving.{FinishLeaves, SameBank}
use Rattle.flash_stage.specs.Outline.{Outline, group_text, module_text, outline_of}
use Rattle.flash_stage.proofs.TextLaws.{carried_module, joined_same, module_below}
use Rattle.ssu_group.specs.declared.group_plan.GroupPlan.{GroupPlan}
use Rattle.ssu_group.specs.declared.module_plan.ModulePlan.{ModulePlan}
use Rattle.ssu_group.specs.Carried.{Fills, HaveLengths, carried_image, crc_is, is_right, missing_places, module_bytes, wrong_module, HasWrong, IsWrong, is_wrong}
use Rattle.ssu_group.specs.Map.{missing_below}
use Rattle.ssu_group.proofs.MapLaws.{all_marked, missing_same}
use Rattle.ssu_route.specs.declared.choice.Choice.{Choice}
use Rattle.ssu_group.specs.declared.wrong.Wrong.{Wrong}
use Rattle.ssu_answer.specs.declared.verdict.Verdict.{Verdict}
use Rattle.ssu_answer.specs.declared.verdict.Verdict.TheVariants.{Installed, Nothing, Incomplete, BadModule, Unsettled}
use Rattle.ssu_loader.specs.Settling.{InstallsWhole, Settles, SettlingLeaves}
use Rattle.ssu_loader.proofs.FillingLaws.{text_filled}
use Rattle.ssu_loader.proofs.KeepingLaws.{installs_joined, installs_moved, leaves_moved}

-- ---- the places of a plan

module _ (plan : GroupPlan) (fills : Fills) (has : ℕ → Bool) (filled : (n : ℕ) → n < plan.places → has n ≡ is_some (fills n)) where
  -- as many are missing
  pub missing_is : missing_below has plan.places ≡ missing_places plan fills
  missing_is = missing_same (λ (n : ℕ). is_some (fills n)) has plan.places filled

  pub none_missing : missing_below has plan.places ≡ 0 → missing_places plan fills ≡ 0
  none_missing whole = sym missing_is ∙ whole

  module _ (text : ℕ → List ℕ) (long : HaveLengths plan fills) (holds : (n : ℕ) (b : List ℕ) → n < plan.places → fills n ≡ Some b → text n ≡ b) (whole : missing_below has plan.places ≡ 0) where
    pub text_is : (n : ℕ) → n < plan.places → text n ≡ unwrap_or (fills n) []
    text_is n below = text_filled plan fills text holds n below (sym (filled n below) ∙ all_marked has plan.places whole n below)

    -- the bytes of a module
    pub module_is : (m : ModulePlan) → Contains plan.modules.items m → module_bytes (carried_image plan fills) m ≡ module_text text m
    module_is m among =
        carried_module plan fills m long (none_missing whole) among
        ∙ joined_same (λ (k : ℕ). unwrap_or (fills (m.first + k)) []) (λ (k : ℕ). text (m.first + k)) m.blocks
        (λ k below. sym (text_is (m.first + k) (module_below plan.block_size plan.modules.items plan.places plan.total m k plan.planned among below)))

    -- the image
    pub image_is : (outline : Outline) → outline ≡ outline_of plan → group_text text outline ≡ carried_image plan fills
    image_is outline is =
        ap (λ (o : Outline). group_text text o) is
        ∙ joined_same text (λ (n : ℕ). unwrap_or (fills n) []) plan.places text_is

-- Where the places that are filled are staged and some place is not, some place is not filled.
pub some_missing : (plan : GroupPlan) (fills : Fills) (has : ℕ → Bool) → ((n : ℕ) → n < plan.places → is_some (fills n) ≡ true → has n ≡ true)
    → 1 ≤ missing_below has plan.places → 1 ≤ missing_places plan fills
some_missing plan fills has includes some = by_count (missing_places plan fills) refl
  where
    by_count : (k : ℕ) → missing_places plan fills ≡ k → 1 ≤ missing_places plan fills
    by_count zero none =
        let filled = all_marked (λ (n : ℕ). is_some (fills n)) plan.places none in
        let same = missing_same (λ (n : ℕ). is_some (fills n)) has plan.places (λ n below. includes n below (filled n below) ∙ sym (filled n below)) in
        absurd (omega (arith, some, same, none))
    by_count (suc k) more = omega (arith, more)

-- all places of a module are staged
pub module_staged : (plan : GroupPlan) (has : ℕ → Bool) (m : ModulePlan) → missing_below has plan.places ≡ 0 → Contains plan.modules.items m → (k : ℕ) → k < m.blocks → has (m.first + k) ≡ true
module_staged plan has m whole among k below =
    all_marked has plan.places whole (m.first + k) (module_below plan.block_size plan.modules.items plan.places plan.total m k plan.planned among below)

-- ---- a module and its CRC

-- the answer to a module that has a CRC
pub wrong_answer : (image : List ℕ) (m : ModulePlan) (text : List ℕ) (want found : ℕ) (answer : Option Wrong) → m.crc ≡ Some want → found ≡ crc_of text → module_bytes image m ≡ text
    → MatchOption answer (found ≡ want) (λ wrong. (wrong ≡ record { id = m.id; want = want; found = found }) × (found ≡ want → ⊥))
    → MatchOption answer (is_right image m ≡ true) (λ wrong. IsWrong image m wrong)
wrong_answer image m text want found None crc has is same =
    ap (crc_is (module_bytes image m)) crc
    ∙ eq-eqb (crc_of (module_bytes image m)) want (ap crc_of is ∙ sym has ∙ same)
wrong_answer image m text want found (Some wrong) crc has is differs =
    subst (λ (w : Wrong). IsWrong image m w) (sym differs.0) (record {
      own_id = refl;
      wanted = crc;
      has = has ∙ ap crc_of (sym is);
      differs = ap (crc_is (module_bytes image m)) crc ∙ by_test (eqb (crc_of (module_bytes image m)) want) refl;
    })
  where
    by_test : (t : Bool) → eqb (crc_of (module_bytes image m)) want ≡ t → eqb (crc_of (module_bytes image m)) want ≡ false
    by_test false e = e
    by_test true e = absurd (differs.1 (has ∙ ap crc_of (sym is) ∙ eqb-true (crc_of (module_bytes image m)) want e))

-- ---- what is installed

pub installs_whole : (choice : Choice) (fills : Fills) (bank : Bank) (x y : List ℕ) (outline : Outline) (image : List ℕ) → outline ≡ outline_of choice.plan
    → missing_places choice.plan fills ≡ 0 → image ≡ carried_image choice.plan fills → wrong_module choice.plan.modules.items (carried_image choice.plan fills) ≡ None
    → Installs (geometry_of bank) (next_record (current_of bank) outline.total choice.software choice.group) image x y → InstallsWhole choice fills bank x y
installs_whole choice fills bank x y outline image is filled joins right installs = record {
  image = image;
  whole = record {
    filled = filled;
    joins = joins;
    right = subst (λ (bytes : List ℕ). wrong_module choice.plan.modules.items bytes ≡ None) (sym joins) right;
  };
  installs = subst (λ (o : Outline). Installs (geometry_of bank) (next_record (current_of bank) o.total choice.software choice.group) image x y) is installs;
}

pub finish_settles : (choice : Choice) (fills : Fills) (bank : Bank) (x y : List ℕ) (outline : Outline) (image : List ℕ) → outline ≡ outline_of choice.plan
    → missing_places choice.plan fills ≡ 0 → image ≡ carried_image choice.plan fills → wrong_module choice.plan.modules.items (carried_image choice.plan fills) ≡ None
    → FinishLeaves (geometry_of bank) (next_record (current_of bank) outline.total choice.software choice.group) image x y → SettlingLeaves choice fills bank x y
finish_settles choice fills bank x y outline image is filled joins right =
    ⊎_elim (λ keeps. inl keeps) (λ installs. inr (installs_whole choice fills bank x y outline image is filled joins right installs))

-- ---- a bank that is as it was

pub whole_moved : (choice : Choice) (fills : Fills) (old new : Bank) (x y : List ℕ) → SameBank old new → InstallsWhole choice fills new x y → InstallsWhole choice fills old x y
whole_moved choice fills old new x y same installs = record {
  image = installs.image;
  whole = installs.whole;
  installs = installs_moved old new (next_record (current_of old) choice.plan.total choice.software choice.group) installs.image x y same
      (subst (λ (r : Record). Installs (geometry_of new) (next_record r choice.plan.total choice.software choice.group) installs.image x y)
      same.current installs.installs);
}

pub settling_moved : (choice : Choice) (fills : Fills) (old new : Bank) (x y : List ℕ) → SameBank old new → SettlingLeaves choice fills new x y → SettlingLeaves choice fills old x y
settling_moved choice fills old new x y same =
    ⊎_elim (λ keeps. inl (leaves_moved old new x y same keeps)) (λ installs. inr (whole_moved choice fills old new x y same installs))

pub settles_moved : (choice : Choice) (fills : Fills) (old new : Bank) (x y : List ℕ) (verdict : Verdict) → SameBank old new → Settles choice fills new x y verdict → Settles choice fills old x y verdict
settles_moved choice fills old new x y (Installed chosen) same settles = (settles.0, whole_moved choice fills old new x y same settles.1)
settles_moved choice fills old new x y (BadModule id want found) same settles = (settles.0, leaves_moved old new x y same settles.1)
settles_moved choice fills old new x y (Nothing level) same settles = settles
settles_moved choice fills old new x y (Incomplete chosen count) same settles = settles
settles_moved choice fills old new x y Unsettled same settles = settles

pub answer_moved : (choice : Choice) (fills : Fills) (old new : Bank) (x y : List ℕ) (answer : Option Verdict) → SameBank old new
    → IfSome answer (Settles choice fills new x y) → IfSome answer (Settles choice fills old x y)
answer_moved choice fills old new x y None same settles = tt
answer_moved choice fills old new x y (Some verdict) same settles = settles_moved choice fills old new x y verdict same settles

-- a module is wrong
pub has_wrong : (choice : Choice) (fills : Fills) (m : ModulePlan) (wrong : Wrong) → missing_places choice.plan fills ≡ 0
    → find (is_wrong (carried_image choice.plan fills)) choice.plan.modules.items ≡ Some m → IsWrong (carried_image choice.plan fills) m wrong
    → HasWrong choice.plan fills wrong.id wrong.want wrong.found
unfolding wrong_module
has_wrong choice fills m wrong filled first is = record {
  filled = filled;
  module_plan = m;
  first = first;
  own_id = is.own_id;
  wanted = is.wanted;
  has = is.has;
}

-- and none is
pub none_wrong : (choice : Choice) (fills : Fills) → find (is_wrong (carried_image choice.plan fills)) choice.plan.modules.items ≡ None
    → wrong_module choice.plan.modules.items (carried_image choice.plan fills) ≡ None
unfolding wrong_module
none_wrong choice fills none = none

-- ---- after the calls that left the former boot

pub whole_joined : (choice : Choice) (fills : Fills) (bank : Bank) (x y z : List ℕ) → Fits bank x → KeepsBoot (geometry_of bank) x y → InstallsWhole choice fills bank y z → InstallsWhole choice fills bank x z
whole_joined choice fills bank x y z fits leaves installs = record {
  image = installs.image;
  whole = installs.whole;
  installs = installs_joined bank (next_record (current_of bank) choice.plan.total choice.software choice.group) installs.image x y z fits leaves installs.installs;
}

pub settling_joined : (choice : Choice) (fills : Fills) (bank : Bank) (x y z : List ℕ) → Fits bank x → KeepsBoot (geometry_of bank) x y → SettlingLeaves choice fills bank y z → SettlingLeaves choice fills bank x z
settling_joined choice fills bank x y z fits leaves =
    ⊎_elim (λ keeps. inl (keeps_boot_joined (geometry_of bank) x y z leaves keeps)) (λ installs. inr (whole_joined choice fills bank x y z fits leaves installs))

pub settles_joined : (choice : Choice) (fills : Fills) (bank : Bank) (x y z : List ℕ) (answer : Option Verdict) → Fits bank x → KeepsBoot (geometry_of bank) x y
    → IfSome answer (Settles choice fills bank y z) → IfSome answer (Settles choice fills bank x z)
settles_joined choice fills bank x y z None fits leaves settles = tt
settles_joined choice fills bank x y z (Some (Installed chosen)) fits leaves settles = (settles.0, whole_joined choice fills bank x y z fits leaves settles.1)
settles_joined choice fills bank x y z (Some (BadModule id want found)) fits leaves settles = (settles.0, keeps_boot_joined (geometry_of bank) x y z leaves settles.1)
settles_joined choice fills bank x y z (Some (Nothing level)) fits leaves settles = settles
settles_joined choice fills bank x y z (Some (Incomplete chosen count)) fits leaves settles = settles
settles_joined choice fills bank x y z (Some Unsettled) fits leaves settles = settles
