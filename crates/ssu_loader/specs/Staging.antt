-- What becomes of the places that a flash holds and has staged while a group is collected and settled, as the bank of the loader sees it.
use Rattle.std.specs.Prelude.{◌≡◌, ◌⊎◌, ℕ, Bool, true, List, [], Some, is_some, unwrap_or}
use Rattle.bank_kept.specs.Contents.{HoldsPlace, StagesGroup}
use Rattle.bank_kept.specs.Leaving.{KeepsStaged}
use Rattle.dsmcc_msg.specs.Control.{DiiFields}
use Rattle.flash_bank.specs.Bank.{geometry_of}
use Rattle.flash_bank.specs.declared.bank.Bank.{Bank}
use Rattle.flash_layout.specs.Layout.{Geometry}
use Rattle.flash_stage.specs.Keeping.{StagesJust}
use Rattle.ssu_group.specs.Carried.{Fills, HasWrong, brings}
use Rattle.ssu_group.specs.declared.group_plan.GroupPlan.{GroupPlan}
use Rattle.ssu_route.specs.declared.choice.Choice.{Choice}
use Rattle.ssu_loader.specs.Settling.{InstallsWhole}

-- Each place that y holds x holds under the same message and with the same bytes; or the stage keeps its places, and it is the one that the
-- section fills, with its bytes, under the message of the stage.
abbrev pub HoldsWithSection : Bool → Geometry → List ℕ → GroupPlan → List ℕ → List ℕ → List ℕ → Type 0
HoldsWithSection keeps g message plan section x y = (other : List ℕ) (n : ℕ) (b : List ℕ) → HoldsPlace g y other n b
    → HoldsPlace g x other n b ⊎ ((keeps ≡ true) × (other ≡ message) × (brings plan n section ≡ Some b))

-- The group of this message is staged in these contents, just with these places and their bytes.
abbrev pub StagesFills : Geometry → List ℕ → List ℕ → GroupPlan → Fills → Type 0
StagesFills g contents message plan fills = StagesJust g contents message plan.places (λ n. is_some (fills n)) (λ n. unwrap_or (fills n) [])

-- a group of this message is staged
abbrev pub IsStagedGroup : Geometry → List ℕ → List ℕ → Type 0
IsStagedGroup g contents message = (dii : DiiFields) × StagesGroup g contents message dii

-- All places of the group are kept or filled, and a module of it is wrong.
pub record IsWrongGroup (plan : GroupPlan) (fills : Fills) : Type 0 where
  pub id : ℕ
  pub want : ℕ
  pub found : ℕ
  pub wrong : HasWrong plan fills id want found

-- What may be left of x over a stage that keeps its places: all that x has staged is staged, and the margin falls by n at most; or a module
-- of the group is wrong, and the stage forgets it; or the group is installed.
abbrev pub StagingLeaves : ℕ → Choice → Fills → Bank → List ℕ → List ℕ → Type 0
StagingLeaves n choice fills bank x y =
    KeepsStaged (geometry_of bank) n n x y ⊎ (IsWrongGroup choice.plan fills ⊎ InstallsWhole choice fills bank x y)
