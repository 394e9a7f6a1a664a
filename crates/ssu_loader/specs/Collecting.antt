-- What the collector of a group stands for: the sections that the box heard, the newest first. What is staged is seen by the
-- words of the stage, and what the flash holds by those of the flash.
use Rattle.std.specs.Prelude.{◌≡◌, ℕ, ◌<◌, ◌≤◌, List, [], ◌∷◌, ◌++◌, Some, is_some, IsTrue, true, false}
use Rattle.flash_dev.specs.declared.device.Flash.{Ghosts as FlashGhosts}
use Rattle.flash_bank.specs.Bank.{IsLent, current_of, geometry_of, is_begun, len_of}
use Rattle.flash_bank.specs.declared.bank.Bank.{Bank}
use Rattle.flash_stage.specs.declared.stage.Stage.{Ghosts as StageGhosts}
use Rattle.flash_stage.specs.Outline.{outline_of}
use Rattle.ts_section.specs.Events.{Heard}
use Rattle.ssu_group.specs.declared.group_plan.GroupPlan.{GroupPlan}
use Rattle.ssu_group.specs.Carried.{Fills, HaveLengths, filling}
use Rattle.route_tables.specs.Next.{heard_on}
use Rattle.route_tables.specs.Values.{Receiver}
use Rattle.ssu_route.specs.declared.change.Change.{Change}
use Rattle.ssu_route.specs.declared.choice.Choice.{Choice}
use Rattle.ssu_route.specs.Route.{Stands}
use Rattle.ssu_route.specs.Choosing.{level_7}
use Rattle.ssu_route.specs.Windows.{IsChoice, beginnings, change_at, is_one_too_many, window}
use Rattle.ssu_loader.specs.declared.collector.Collector.{Collector}
use Rattle.ssu_loader.specs.Decisions.{IsOpen}
use Rattle.ssu_loader.specs.Opening.{KeepsNothing, fills_at, most_kept}
use Rattle.ssu_loader.specs.Remaining.{StagesLast}
use Rattle.ssu_loader.specs.Starting.{KnowsKept}
use Rattle.ssu_loader.specs.Verdicts.{IsUnfilled}

-- ---- the stage

-- The stage has begun the group of this plan with this bank and flash, and may go on.
pub record Works {S F : Type 0} (s : StageGhosts S) (f : FlashGhosts F) (plan : GroupPlan) (stage : S) (bank : Bank) (flash : F) : Type 0 where
  pub lent : IsLent f.tells f.contents f.block_count f.block_len bank flash
  pub ready : s.ready stage bank
  pub agrees : f.tells → s.agrees stage bank (f.contents flash)
  pub planned : s.plan_of stage ≡ outline_of plan
  pub next_fits : (current_of bank).number < 4294967295

-- The places that are staged are those that are kept or filled.
abbrev pub HasFilled : {S : Type 0} → StageGhosts S → GroupPlan → Fills → S → Type 0
HasFilled s plan fills stage = (n : ℕ) → n < plan.places → s.has stage n ≡ is_some (fills n)

-- All places that these fill are staged, and others may be. So much is known of a stage that keeps places where the flash tells nothing.
abbrev pub IncludesFilled : {S : Type 0} → StageGhosts S → GroupPlan → Fills → S → Type 0
IncludesFilled s plan fills stage = (n : ℕ) → n < plan.places → is_some (fills n) ≡ true → s.has stage n ≡ true

-- For each place that is kept or filled these bytes stand, and they have its length.
pub record HoldsFilling {S : Type 0} (s : StageGhosts S) (plan : GroupPlan) (fills : Fills) (stage : S) (bank : Bank)
    (contents : List ℕ) : Type 0 where
  pub lengths : HaveLengths plan fills
  pub texts : (n : ℕ) (bytes : List ℕ) → n < plan.places → fills n ≡ Some bytes → s.bytes_at stage bank contents n ≡ bytes

-- ---- the collector

-- By what was heard alone nothing is decided, and all places are staged that the window of the choice fills.
pub record KnowsHeard {S : Type 0} (s : StageGhosts S) (me : Receiver) (heard : List Heard) (c : Collector S) : Type 0 where
  pub unfilled : IsUnfilled me heard
  pub counted : c.choices ≡ beginnings me heard
  pub few : c.choices ≤ 16
  pub planned : (choice : Choice) → IsChoice me heard choice → s.plan_of c.stage ≡ outline_of choice.plan
  pub includes : (choice : Choice) → IsChoice me heard choice → IncludesFilled s choice.plan (filling choice.plan (window me heard)) c.stage

-- Nothing is decided by these sections, and the places that are staged are those that the choice keeps or its window fills.
pub record Knows {S : Type 0} (s : StageGhosts S) (me : Receiver) (heard : List Heard) (c : Collector S) : Type 0 where
  pub undecided : IsOpen me heard
  pub filled : (choice : Choice) → IsChoice me heard choice → HasFilled s choice.plan (fills_at me heard choice.plan) c.stage

-- Bank and stage may go on with this flash. By what was heard nothing is decided; nor is it with what the flash kept, where that is known, and
-- then the places that are staged are those that the choice keeps or its window fills; where contents are told, each has the kept bytes or those
-- of the first block that fills it, and a stage that keeps its places has left just them staged. Where a choice began over a stage in the bank,
-- the bank is begun.
pub record Gathers {S F : Type 0} (s : StageGhosts S) (f : FlashGhosts F) (me : Receiver) (heard : List Heard) (c : Collector S)
    (flash : F) : Type 0 where
  pub opens : s.KEEPS ≡ false → KeepsNothing me
  pub most : s.KEEPS ≡ true → me.opening.most ≡ most_kept (geometry_of c.bank) (current_of c.bank)
  pub len : me.bank_len ≡ len_of c.bank
  pub runs : me.running ≡ (current_of c.bank).software
  pub lent : IsLent f.tells f.contents f.block_count f.block_len c.bank flash
  pub made_for : s.most c.stage ≡ len_of c.bank
  pub next_fits : (current_of c.bank).number < 4294967295
  pub hears : KnowsHeard s me heard c
  pub knows : KnowsKept s f → Knows s me heard c
  pub works : (choice : Choice) → IsChoice me heard choice → Works s f choice.plan c.stage c.bank flash
  pub message : s.KEEPS ≡ true → (message : List ℕ) → level_7 me heard ≡ Some message → s.message_of c.stage ≡ message
  pub told : f.tells → (choice : Choice) → IsChoice me heard choice
      → HoldsFilling s choice.plan (fills_at me heard choice.plan) c.stage c.bank (f.contents flash)
  pub staged : s.KEEPS ≡ true → f.tells → StagesLast me heard (geometry_of c.bank) (f.contents flash)
  pub begun : s.IN_BANK ≡ true → 1 ≤ c.choices → is_begun c.bank ≡ true

-- The route stands for these sections too.
pub record Collects {S F : Type 0} (s : StageGhosts S) (f : FlashGhosts F) (me : Receiver) (heard : List Heard) (c : Collector S)
    (flash : F) : Type 0 where
  pub stands : Stands me heard c.route
  pub gathers : Gathers s f me heard c flash

-- The route has heard one section more, at which this changed.
pub record IsAhead {S F : Type 0} (s : StageGhosts S) (f : FlashGhosts F) (me : Receiver) (item : Heard) (heard : List Heard)
    (change : Change) (c : Collector S) (flash : F) : Type 0 where
  pub stands : Stands me (item ∷ heard) c.route
  pub changes : change_at me item heard ≡ change
  pub gathers : Gathers s f me heard c flash

-- It stands for the sections of some box.
pub record IsUsable {S F : Type 0} (s : StageGhosts S) (f : FlashGhosts F) (c : Collector S) (flash : F) : Type 0 where
  pub me : Receiver
  pub heard : List Heard
  pub collects : Collects s f me heard c flash

pub record IsUsableAt {S F : Type 0} (s : StageGhosts S) (f : FlashGhosts F) (change : Change) (c : Collector S) (flash : F) : Type 0 where
  pub me : Receiver
  pub item : Heard
  pub heard : List Heard
  pub ahead : IsAhead s f me item heard change c flash

-- ---- one choice too many

-- The first of these sections, which come on this PID, would begin a choice too many.
abbrev pub BeginsTooMany : Receiver → ℕ → List (List ℕ) → List Heard → Type 0
BeginsTooMany me pid [] heard = ⊥
BeginsTooMany me pid (first ∷ others) heard = IsTrue (is_one_too_many me (heard_on pid first ∷ heard))

-- At one of these sections a choice too many would begin. The flash is as a collector may have left it that stands for the
-- sections before it.
pub record StopsBefore {S F : Type 0} (s : StageGhosts S) (f : FlashGhosts F) (me : Receiver) (heard : List Heard) (flash : F) : Type 0 where
  pub later : List Heard
  pub item : Heard
  pub earlier : List Heard
  pub parts : heard ≡ later ++ item ∷ earlier
  pub too_many : IsTrue (is_one_too_many me (item ∷ earlier))
  pub collector : Collector S
  pub collects : Collects s f me earlier collector flash
