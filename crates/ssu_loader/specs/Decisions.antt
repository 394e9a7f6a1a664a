-- What a box decides by the sections that it heard and by what its flash kept. Lists of sections have the newest first.
use Rattle.std.specs.Prelude.{◌≡◌, ◌⊎◌, ℕ, List, [], ◌∷◌, IsSome, IsTrue}
use Rattle.ts_section.specs.Events.{Heard}
use Rattle.ssu_answer.specs.declared.chosen.Chosen.{Chosen}
use Rattle.ssu_group.specs.Carried.{CarriesWhole, HasWrong}
use Rattle.route_tables.specs.Values.{Receiver}
use Rattle.ssu_route.specs.declared.choice.Choice.{Choice}
use Rattle.ssu_route.specs.Windows.{IsChoice, is_one_too_many, standing}
use Rattle.ssu_loader.specs.Opening.{fills_at}

-- This choice stands. No more than sixteen begin.
pub record IsStanding (me : Receiver) (heard : List Heard) (choice : Choice) : Type 0 where
  pub stands : IsSome (standing me heard)
  pub chosen : IsChoice me heard choice

abbrev pub chosen_of : Choice → Chosen
chosen_of choice = record { group = choice.group; software = choice.software; bytes = choice.plan.total }

-- The window of the choice that stands carries its group whole with the places that it keeps, as this image.
pub record IsWhole (me : Receiver) (heard : List Heard) (chosen : Chosen) (image : List ℕ) : Type 0 where
  pub choice : Choice
  pub standing : IsStanding me heard choice
  pub is : chosen ≡ chosen_of choice
  pub whole : CarriesWhole choice.plan (fills_at me heard choice.plan) image

-- All places of the choice that stands are kept or filled in its window, and a module of its group is wrong.
pub record IsWrong (me : Receiver) (heard : List Heard) (id want found : ℕ) : Type 0 where
  pub choice : Choice
  pub standing : IsStanding me heard choice
  pub wrong : HasWrong choice.plan (fills_at me heard choice.plan) id want found

-- What is decided: a group is carried whole, with this image; or a module has not the CRC that it should have, with its
-- id, the CRC of its descriptor and that of its bytes; or there was one choice too many.
pub data Decision : Type 0 where
  Whole : Chosen → List ℕ → Decision
  Wrong : ℕ → ℕ → ℕ → Decision
  TooMany : Decision

-- The newest section decides this.
abbrev pub Decides : Receiver → List Heard → Decision → Type 0
Decides me heard (Whole chosen image) = IsWhole me heard chosen image
Decides me heard (Wrong id want found) = IsWrong me heard id want found
Decides me heard TooMany = IsTrue (is_one_too_many me heard)

-- Section by section, this is the first decision.
unfoldable pub Reaches : Receiver → List Heard → Decision → Type 0
Reaches me [] decision = ⊥
Reaches me (item ∷ earlier) decision =
    Reaches me earlier decision
    ⊎ (((other : Decision) → Reaches me earlier other → ⊥) × Decides me (item ∷ earlier) decision)

-- Nothing is decided.
abbrev pub IsOpen : Receiver → List Heard → Type 0
IsOpen me heard = (decision : Decision) → Reaches me heard decision → ⊥
