-- The verdict over the sections that a box heard. Lists of sections have the newest first.
use Rattle.std.specs.Prelude.{◌≡◌, ◌≢◌, ℕ, ◌≤◌, Contains, IsTrue, List, [], ◌∷◌, ◌++◌, Option, Some, None}
use Rattle.box_file.specs.declared.file.BoxFile.{BoxFile}
use Rattle.ts_section.specs.Events.{Heard}
use Rattle.ssu_answer.specs.declared.chosen.Chosen.{Chosen}
use Rattle.ssu_compat.specs.declared.rule.SwId.{SwId}
use Rattle.ssu_group.specs.declared.group_plan.GroupPlan.{GroupPlan}
use Rattle.ssu_group.specs.declared.module_plan.ModulePlan.{ModulePlan}
use Rattle.ssu_group.specs.Carried.{filling, missing_places}
use Rattle.route_tables.specs.Values.{Opening, Receiver}
use Rattle.ssu_route.specs.declared.choice.Choice.{Choice}
use Rattle.ssu_route.specs.Queries.{missing}
use Rattle.ssu_route.specs.Windows.{is_one_too_many, standing, window}
use Rattle.ssu_answer.specs.declared.verdict.Verdict.{Verdict}
use Rattle.ssu_answer.specs.declared.verdict.Verdict.TheVariants.{Installed, Nothing, Incomplete, BadModule, Unsettled}
use Rattle.ssu_loader.specs.Decisions.{IsStanding, IsOpen, Reaches, Whole, Wrong, TooMany, chosen_of}
use Rattle.ssu_loader.specs.Opening.{fills_at}

-- The box of this file with a bank of this length, while this software runs, where the flash kept this.
abbrev pub receiver_of : BoxFile → ℕ → SwId → Opening → Receiver
receiver_of file bank_len running opening =
    record { file = file; bank_len = bank_len; running = running; opening = opening }

-- A choice stands, and so many of its places are neither kept nor filled.
pub record IsIncomplete (me : Receiver) (heard : List Heard) (chosen : Chosen) (count : ℕ) : Type 0 where
  pub choice : Choice
  pub standing : IsStanding me heard choice
  pub is : chosen ≡ chosen_of choice
  pub counted : count ≡ missing_places choice.plan (fills_at me heard choice.plan)

-- What comes of the sections: the first decision, or else what stands after them.
abbrev pub IsVerdict : Receiver → List Heard → Verdict → Type 0
IsVerdict me heard (Installed chosen) = (image : List ℕ) × Reaches me heard (Whole chosen image)
IsVerdict me heard (Nothing level) = IsOpen me heard × (standing me heard ≡ None) × (level ≡ missing me heard)
IsVerdict me heard (Incomplete chosen count) = IsOpen me heard × IsIncomplete me heard chosen count
IsVerdict me heard (BadModule id want found) = Reaches me heard (Wrong id want found)
IsVerdict me heard Unsettled = Reaches me heard TooMany

-- ---- whether or not it is known what was kept

-- Where a choice stands, a place of its group is not filled by its window.
abbrev pub LacksPlace : Receiver → List Heard → Type 0
LacksPlace me heard = (choice : Choice) → IsStanding me heard choice → 1 ≤ missing_places choice.plan (filling choice.plan (window me heard))

-- By what was heard alone nothing is decided: at no section was the window of the choice that stood whole, and none brought one choice too many.
unfoldable pub IsUnfilled : Receiver → List Heard → Type 0
IsUnfilled me [] = Unit {0}
IsUnfilled me (item ∷ earlier) =
    IsUnfilled me earlier × ((IsTrue (is_one_too_many me (item ∷ earlier)) → ⊥) × LacksPlace me (item ∷ earlier))

-- By what was heard alone nothing is decided; and where it is known what the flash kept, nothing is decided with that.
pub record IsUndecided (known : Type 0) (me : Receiver) (heard : List Heard) : Type 0 where
  pub unfilled : IsUnfilled me heard
  pub exact : known → IsOpen me heard

-- The first decision: nothing is decided before this section of all that were heard, at which this choice stands; and where it is known what
-- the flash kept, all its places are kept or filled with it.
pub record IsFilled (known : Type 0) (me : Receiver) (heard : List Heard) (choice : Choice) : Type 0 where
  pub later : List Heard
  pub item : Heard
  pub earlier : List Heard
  pub parts : heard ≡ later ++ item ∷ earlier
  pub undecided : IsUndecided known me earlier
  pub standing : IsStanding me (item ∷ earlier) choice
  pub filled : known → missing_places choice.plan (fills_at me (item ∷ earlier) choice.plan) ≡ 0

-- Nothing is decided before this section of all that were heard, which brings one choice too many.
pub record IsTooMany (known : Type 0) (me : Receiver) (heard : List Heard) : Type 0 where
  pub later : List Heard
  pub item : Heard
  pub earlier : List Heard
  pub parts : heard ≡ later ++ item ∷ earlier
  pub undecided : IsUndecided known me earlier
  pub too_many : IsTrue (is_one_too_many me (item ∷ earlier))
  pub reached : known → Reaches me heard TooMany

-- A module of the plan with this id and this CRC in its descriptor, which is not the CRC that its bytes were found to have.
pub record DiffersFrom (plan : GroupPlan) (id want found : ℕ) : Type 0 where
  pub module_plan : ModulePlan
  pub own : Contains plan.modules.items module_plan
  pub own_id : id ≡ module_plan.id
  pub wanted : module_plan.crc ≡ Some want
  pub differs : found ≢ want

-- What an answer says of the group of a choice that is filled, whether or not the flash tells what it holds.
abbrev pub IsOn : Choice → Verdict → Type 0
IsOn choice (Installed chosen) = chosen ≡ chosen_of choice
IsOn choice (BadModule id want found) = DiffersFrom choice.plan id want found
IsOn choice other = ⊥

-- What an answer says of the sections whether or not the flash tells what it holds: which group it is on, and not with which bytes. Where it is
-- known what the flash kept, as it is of a stage that keeps nothing, all places of the group are kept or filled, and nothing is decided before.
abbrev pub IsSeen : Type 0 → Receiver → List Heard → Option Verdict → Type 0
IsSeen known me heard None = IsUndecided known me heard
IsSeen known me heard (Some (Installed chosen)) = (choice : Choice) × (IsFilled known me heard choice × IsOn choice (Installed chosen))
IsSeen known me heard (Some (BadModule id want found)) =
    (choice : Choice) × (IsFilled known me heard choice × IsOn choice (BadModule id want found))
IsSeen known me heard (Some Unsettled) = IsTooMany known me heard
IsSeen known me heard (Some other) = ⊥

-- A choice stands, and no more than so many of its places are not filled by its window.
pub record IsPartial (me : Receiver) (heard : List Heard) (chosen : Chosen) (count : ℕ) : Type 0 where
  pub choice : Choice
  pub standing : IsStanding me heard choice
  pub is : chosen ≡ chosen_of choice
  pub most : count ≤ missing_places choice.plan (filling choice.plan (window me heard))

-- What comes of what was heard if no more comes, whatever was kept.
abbrev pub IsPartialVerdict : Receiver → List Heard → Verdict → Type 0
IsPartialVerdict me heard (Nothing level) = (standing me heard ≡ None) × (level ≡ missing me heard)
IsPartialVerdict me heard (Incomplete chosen count) = IsPartial me heard chosen count
IsPartialVerdict me heard other = ⊥

-- What comes of the sections if no more come: so much, and where it is known what the flash kept, the verdict.
pub record IsLastSeen (known : Type 0) (me : Receiver) (heard : List Heard) (verdict : Verdict) : Type 0 where
  pub undecided : IsUndecided known me heard
  pub partial : IsPartialVerdict me heard verdict
  pub exact : known → IsVerdict me heard verdict

-- The verdict is a decision.
abbrev pub IsReached : Receiver → List Heard → Verdict → Type 0
IsReached me heard (Nothing level) = ⊥
IsReached me heard (Incomplete chosen count) = ⊥
IsReached me heard other = IsVerdict me heard other
