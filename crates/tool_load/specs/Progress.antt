-- What a search for a group stands for.
use Rattle.std.specs.Prelude.{◌≡◌, ℕ, List, [], None, ◌<◌, Some, is_some, ◌∷◌}
use Rattle.group_image.specs.Image.{image_of, Collected, is_there, bytes_at}
use Rattle.tool_load.specs.declared.blocks.Blocks.{Blocks}
use Rattle.tool_load.specs.declared.progress.Progress.{Progress}
use Rattle.tool_load.specs.declared.progress.Progress.TheVariants.{NoGroup, Wanted, Collecting}
use Rattle.tool_load.specs.Load.{Chooses, IsWanted, first_group, IsReached, sections_of}
use Rattle.ssu_group.specs.declared.group_plan.GroupPlan.{GroupPlan}
use Rattle.ssu_group.specs.Carried.{filling}
use Rattle.ts_section.specs.declared.hearer.Hearer.{Hearer}
use Rattle.ts_section.specs.Events.{Listen, fed}
use Rattle.ts_section.specs.Hearing.{Hears}

-- The places that are there are those that the sections fill, and each has the bytes of the first block that fills it.
pub record Holds (plan : GroupPlan) (image : Collected) (window : List (List ℕ)) : Type 0 where
  pub there : (n : ℕ) → n < plan.places → is_there image n ≡ is_some (filling plan window n)
  pub bytes : (n : ℕ) (b : List ℕ) → n < plan.places → filling plan window n ≡ Some b → bytes_at plan image n ≡ b

-- The group is chosen, and the blocks of its window are in the image.
pub record Collects (blocks : Blocks) (sections : List (List ℕ)) : Type 0 where
  pub window : List (List ℕ)
  pub chooses : Chooses sections blocks.group blocks.plan window
  pub holds : Holds blocks.plan blocks.image window

-- The search has come so far with these sections.
abbrev pub StandsFor : Progress → List (List ℕ) → Type 0
StandsFor NoGroup sections = first_group sections ≡ None
StandsFor (Wanted group) sections = IsWanted group sections
StandsFor (Collecting blocks) sections = Collects blocks sections

-- the bytes that were collected
abbrev pub bytes_in : Progress → List ℕ
bytes_in NoGroup = []
bytes_in (Wanted group) = []
bytes_in (Collecting blocks) = image_of blocks.image

-- These packets came, the oldest first, and this PID is listened to from the first one on. No verdict is reached.
pub record Follows (pid : ℕ) (hearer : Hearer) (progress : Progress) (ps : List (List ℕ)) : Type 0 where
  pub hears : Hears hearer (fed (Listen (pid ∷ []) ∷ []) ps)
  pub stands : StandsFor progress (sections_of pid ps)
  pub not_reached : IsReached (sections_of pid ps) → ⊥
