-- Where logical blocks, spares and the map stand in the inner flash. The logical blocks come first, the spares behind
-- them, and the last block is the map.
use Rattle.std.specs.Prelude.{ℕ, ◌+◌, ◌-◌, ◌*◌, ◌/◌, ◌^◌, ◌<◌, ◌≤◌, min}

-- the number of logical blocks and of spares, and the length of a block in bytes
pub record Geometry : Type 0 where
  pub logical : ℕ
  pub spares : ℕ
  pub block_len : ℕ

-- so many blocks, of which so many are spares
abbrev pub geometry_in : ℕ → ℕ → ℕ → Geometry
geometry_in blocks spares block_len = record { logical = blocks - 1 - spares; spares = spares; block_len = block_len }

-- the number of blocks in all
abbrev pub blocks_in : Geometry → ℕ
blocks_in g = g.logical + g.spares + 1

-- the block that is the spare with this number, counted from 0
abbrev pub spare_block : Geometry → ℕ → ℕ
spare_block g spare = g.logical + spare

-- where the map begins, and where its slot with this number
abbrev pub map_place : Geometry → ℕ
map_place g = (g.logical + g.spares) * g.block_len

abbrev pub slot_place : Geometry → ℕ → ℕ
slot_place g slot = map_place g + 16 * slot

-- the number of its slots
abbrev pub slots_in : Geometry → ℕ
slots_in g = g.block_len / 16

-- how many replacements are left, where these are the next spare and the next slot
abbrev pub left_from : Geometry → ℕ → ℕ → ℕ
left_from g spare slot = min (g.spares - spare) (slots_in g - slot)

-- a flash of so many blocks can have so many spares
pub record IsInLimits (blocks spares : ℕ) : Type 0 where
  pub some : 1 ≤ spares
  pub few : spares ≤ 255
  pub least : spares + 5 ≤ blocks
  pub most : blocks ≤ spares + 65537

-- the same of what it is parted into, with addresses that fit
pub record IsLaidOut (g : Geometry) : Type 0 where
  pub some : 1 ≤ g.spares
  pub few : g.spares ≤ 255
  pub least : 4 ≤ g.logical
  pub most : g.logical ≤ 65536
  pub addressable : blocks_in g * g.block_len < 2 ^ 32
