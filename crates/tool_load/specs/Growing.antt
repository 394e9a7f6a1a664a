-- The image that is collected, whose bytes end behind the last place that came.
use Rattle.std.specs.Prelude.{◌≡◌, ℕ, ◌+◌, ◌-◌, ◌<◌, ◌≤◌, true, false, ◌||◌, ◌==◌}
use Rattle.std.specs.Prelude.{List, ◌++◌, length, take, drop, replicate}
use Rattle.ts_crc.specs.Crc.{after_bytes, crc_of}
use Rattle.crc_join.specs.Block.{block_of}
use Rattle.ssu_group.specs.declared.places.Place.{Place}
use Rattle.ssu_group.specs.declared.group_plan.GroupPlan.{GroupPlan}
use Rattle.ssu_group.specs.Place.{IsPlace}
use Rattle.group_image.specs.Image.{Collected, is_there}
use Rattle.tool_load.specs.declared.sums.Sum.{Sum}

-- the bytes with these from place `at` on, and 0 in a gap before them
abbrev pub laid : List ℕ → ℕ → List ℕ → List ℕ
laid buffer at bytes = take at (buffer ++ replicate (at - length buffer) 0) ++ bytes ++ drop (at + length bytes) buffer

-- The bytes reach to the end of each place that is there.
abbrev pub Reaches : GroupPlan → Collected → Type 0
Reaches plan image = (p : Place) → IsPlace plan p → is_there image p.number ≡ true → p.at + p.len ≤ length image.buffer

-- The bytes come in a section before its CRC.
pub record Carries (section bytes : List ℕ) : Type 0 where
  pub right : crc_of section ≡ 0
  pub long : length bytes + 4 ≤ length section
  pub own : bytes ≡ block_of (length bytes) section

-- A place of the plan that was missing gets these bytes.
pub record Fills (plan : GroupPlan) (old : Collected) (place : Place) (bytes : List ℕ) (new : Collected) : Type 0 where
  pub is_place : IsPlace plan place
  pub long : length bytes ≡ place.len
  pub missing : is_there old place.number ≡ false
  pub there : (number : ℕ) → is_there new number ≡ (number == place.number || is_there old number)
  pub filled : new.buffer ≡ laid old.buffer place.at bytes

-- The part goes on with the bytes of a place that begins where it ends.
pub record IsLonger (part : Sum) (place : Place) (bytes : List ℕ) (longer : Sum) : Type 0 where
  pub joins : part.end ≡ place.at
  pub at : longer.at ≡ part.at
  pub end : longer.end ≡ place.at + place.len
  pub register : longer.register ≡ after_bytes part.register bytes

-- The register is the CRC of the bytes from `at` to `end`. A place that is missing ends before them or begins behind them.
pub record IsSum (plan : GroupPlan) (image : Collected) (sum : Sum) : Type 0 where
  pub ordered : sum.at ≤ sum.end
  pub inside : sum.end ≤ length image.buffer
  pub settled : (p : Place) → IsPlace plan p → is_there image p.number ≡ false → sum.at < p.at + p.len → sum.end ≤ p.at
  pub own : sum.register ≡ crc_of (take (sum.end - sum.at) (drop sum.at image.buffer))

-- The register is the CRC of the bytes from `at` to `end`.
abbrev pub IsCrcIn : List ℕ → Sum → Type 0
IsCrcIn buffer sum = sum.register ≡ crc_of (take (sum.end - sum.at) (drop sum.at buffer))
