-- How long what a flash has staged stays staged while sections are heard. Lists of sections have the newest first.
use Rattle.std.specs.Prelude.{◌≡◌, ◌≢◌, ◌⊎◌, ℕ, ◌*◌, List, [], ◌∷◌, ◌++◌, length, Option, Some, Result, Ok, Err, IsTrue}
use Rattle.bank_kept.specs.Leaving.{KeepsStaged}
use Rattle.flash_bank.specs.Leaving.{KeepsBoot}
use Rattle.flash_bank.specs.Sound.{Boot, BootOf}
use Rattle.flash_layout.specs.Layout.{Geometry}
use Rattle.flash_stage.specs.Keeping.{HasWholeMargin}
use Rattle.ssu_io.specs.Bytes.{Takes}
use Rattle.ts_section.specs.Events.{Heard}
use Rattle.route_tables.specs.Values.{Receiver}
use Rattle.ssu_route.specs.declared.change.Change.TheVariants.{Chosen}
use Rattle.ssu_route.specs.Choosing.{level_7}
use Rattle.ssu_route.specs.Windows.{change_at, is_one_too_many}
use Rattle.ssu_answer.specs.declared.verdict.Verdict.{Verdict}
use Rattle.ssu_answer.specs.declared.verdict.Verdict.TheVariants.{Nothing, Incomplete}
use Rattle.ssu_loader.specs.declared.fault.LoadFault.{LoadFault}
use Rattle.ssu_loader.specs.declared.fault.LoadFault.TheVariants.{FlashFault}
use Rattle.ssu_loader.specs.Decisions.{Reaches, Wrong}
use Rattle.ssu_loader.specs.Remaining.{StagesLast}
use Rattle.ssu_loader.specs.Replays.{heard_in}
use Rattle.ssu_loader.specs.Staging.{IsStagedGroup}

-- At one of the sections that were heard after these, a choice begins with another message than this. One that is one too many does not begin.
pub record BeginsOther (me : Receiver) (message : List ℕ) (all heard : List Heard) : Type 0 where
  pub newer : List Heard
  pub item : Heard
  pub since : List Heard
  pub parts : all ≡ newer ++ item ∷ (since ++ heard)
  pub chosen : change_at me item (since ++ heard) ≡ Chosen
  pub begins : IsTrue (is_one_too_many me (item ∷ (since ++ heard))) → ⊥
  pub other : level_7 me (item ∷ (since ++ heard)) ≢ Some message

-- The first thing that is decided is that a module is wrong, and then the stage forgets the group.
pub record FindsWrong (me : Receiver) (heard : List Heard) : Type 0 where
  pub id : ℕ
  pub want : ℕ
  pub found : ℕ
  pub reached : Reaches me heard (Wrong id want found)

-- Boot takes of y no longer what it took of x: a record was committed.
abbrev pub BootsOther : Geometry → List ℕ → List ℕ → Type 0
BootsOther g x y = (b : Boot) → BootOf g x b → BootOf g y b → ⊥

-- What may be left of x, which was held when some of the sections had been heard, once all are: the group that x has staged is staged, each
-- place of it with its bytes where the margin was at least n, and the margin falls by n at most. That ends where a choice with another message
-- begins, a module is found wrong, or a record is committed.
abbrev pub Lasts : ℕ → Geometry → Receiver → List Heard → List Heard → List ℕ → List ℕ → Type 0
Lasts n g me all heard x y =
    (message : List ℕ) → IsStagedGroup g x message → KeepsStaged g n n x y ⊎ (BeginsOther me message all heard ⊎ (FindsWrong me all ⊎ BootsOther g x y))

-- At Ok: all that x had staged of the group that y has staged is staged in y, and the margin has not fallen; or the margin is whole, as where the
-- group began anew.
abbrev pub KeepsMargin : Geometry → List ℕ → List ℕ → Type 0
KeepsMargin g x y =
    (message : List ℕ) → IsStagedGroup g y message → (IsStagedGroup g x message × KeepsStaged g 0 0 x y) ⊎ HasWholeMargin g y

-- The answer of a replay is no decision, and the flash did not fail.
abbrev pub IsNoDecision : Result Verdict LoadFault → Type 0
IsNoDecision (Ok (Nothing level)) = Unit {0}
IsNoDecision (Ok (Incomplete chosen count)) = Unit {0}
IsNoDecision (Ok other) = ⊥
IsNoDecision (Err FlashFault) = ⊥
IsNoDecision (Err other) = Unit {0}

-- These bytes were taken, and so y may be left of x, which was held before the first of them.
pub record TakesLasting (n : ℕ) (me : Receiver) (left left_after : Option (List ℕ)) (g : Geometry) (x y : List ℕ) : Type 0 where
  pub taken : List ℕ
  pub takes : Takes left left_after taken
  pub lasts : Lasts n g me (heard_in me taken) [] x y

-- Whole packets were taken. All but the last of them left contents of x of which boot takes what it took, which have staged just the places of
-- the last choice, and with the margin that x had, or a whole one; and of these y may be left so.
pub record BreaksLasting (me : Receiver) (left left_after : Option (List ℕ)) (g : Geometry) (x y : List ℕ) : Type 0 where
  pub count : ℕ
  pub earlier : List ℕ
  pub packet : List ℕ
  pub takes : Takes left left_after (earlier ++ packet)
  pub whole : length earlier ≡ 188 * count
  pub one : length packet ≡ 188
  pub before : List ℕ
  pub keeps : KeepsBoot g x before
  pub margin : KeepsMargin g x before
  pub staged : StagesLast me (heard_in me earlier) g before
  pub lasts : Lasts 1 g me (heard_in me (earlier ++ packet)) (heard_in me earlier) before y
