-- The image of a group while it is collected.
use Rattle.std.specs.Prelude.{◌≡◌, ℕ, ◌<◌, ◌≤◌, Bool, false, List, [], length, take, drop, Option, Some, None}
use Rattle.ssu_group.specs.Map.{Marks, marked, missing_below}
use Rattle.ssu_group.specs.declared.places.Place.{Place}
use Rattle.ssu_group.specs.declared.group_plan.GroupPlan.{GroupPlan}
use Rattle.ssu_group.specs.Place.{place_at, IsPlace}

-- Which places are there, how many bytes the image has, and the bytes that it is collected in, of which those behind
-- the image and those of a missing place say nothing.
pub record Collected : Type 0 where
  pub map : Marks
  pub total : ℕ
  pub buffer : List ℕ

-- Is the place of that number there?
abbrev pub is_there : Collected → ℕ → Bool
is_there image number = marked image.map number

-- how many places are not there
abbrev pub missing_in : Collected → ℕ
missing_in image = missing_below (is_there image) image.map.places

-- the bytes of the image
abbrev pub image_of : Collected → List ℕ
image_of image = take image.total image.buffer

-- the bytes of a place
abbrev pub bytes_of : List ℕ → Option Place → List ℕ
bytes_of buffer None = []
bytes_of buffer (Some p) = take p.len (drop p.at buffer)

-- the bytes that stand at the place of that number
unfoldable pub bytes_at : GroupPlan → Collected → ℕ → List ℕ
bytes_at plan image number = bytes_of image.buffer (place_at plan.block_size plan.modules.items number)

-- The image has the places and the bytes of this plan.
pub record IsFor (plan : GroupPlan) (image : Collected) : Type 0 where
  pub places : image.map.places ≡ plan.places
  pub total : image.total ≡ plan.total

-- None of the places is there.
abbrev pub IsEmpty : Collected → Type 0
IsEmpty image = (number : ℕ) → number < image.map.places → is_there image number ≡ false

-- There is room for the places and the bytes of this plan.
pub record HasRoom (plan : GroupPlan) (image : Collected) : Type 0 where
  pub places : plan.places ≤ image.map.most
  pub total : plan.total ≤ length image.buffer

-- The place is one of the plan that the image has the places and the bytes of.
pub record TakesPlace (image : Collected) (place : Place) : Type 0 where
  pub plan : GroupPlan
  pub is_for : IsFor plan image
  pub is_place : IsPlace plan place
