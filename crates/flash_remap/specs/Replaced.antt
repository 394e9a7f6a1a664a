-- What is left of the inner flash while spares are tried for a block.
use Rattle.std.specs.Prelude.{◌≡◌, ◌≢◌, ◌⊎◌, ℕ, ◌+◌, ◌*◌, ◌<◌, ◌≤◌, List, length, slice_index}
use Rattle.flash_remap.specs.Added.{AddsFor}
use Rattle.flash_remap.specs.Change.{wanted}
use Rattle.flash_remap.specs.Layout.{Geometry, map_place, slots_in, spare_block}
use Rattle.flash_remap.specs.Map.{next_spare, place_of}
use Rattle.flash_remap.specs.declared.change.Change.{Change}

-- any byte may stand where any stood
abbrev pub Anything : ℕ → ℕ → ℕ → Type 0
Anything k old new = Unit {0}

-- the map is erased from this slot on
pub record IsBlankFrom (g : Geometry) (contents : List ℕ) (slot : ℕ) : Type 0 where
  pub each : (k : ℕ) → 16 * slot ≤ k → k < 16 * slots_in g → slice_index contents (map_place g + k) ≡ 255

-- a block holds, byte for byte, what the change is to make of another one
pub record IsFilled (g : Geometry) (change : Change) (from : ℕ) (old : List ℕ) (block : ℕ) (new : List ℕ) : Type 0 where
  pub each : (k : ℕ) → k < g.block_len → slice_index new (block * g.block_len + k) ≡ wanted g.block_len change old from k

-- a spare from one number up to another stands for the block, and holds what the change is to make of it
pub record IsReplaced (g : Geometry) (block from : ℕ) (change : Change) (first next : ℕ) (x y : List ℕ) : Type 0 where
  pub spare : ℕ
  pub least : first ≤ spare
  pub most : spare < next
  pub stands : place_of g y block ≡ spare_block g spare
  pub filled : IsFilled g change from x (spare_block g spare) y

-- Of x, y may be left once spares from one number up to another were tried for a block that stands at `from`: all blocks before
-- these spares are as they were, the same block stands for each other logical one, and for this one the same as before or one of
-- these spares, which is filled. The map was only added to.
pub record Replaces (g : Geometry) (block from : ℕ) (change : Change) (first next : ℕ) (x y : List ℕ) : Type 0 where
  pub size : length y ≡ length x
  pub same : (k : ℕ) → k < spare_block g first * g.block_len → slice_index y k ≡ slice_index x k
  pub others : (other : ℕ) → other ≢ block → place_of g y other ≡ place_of g x other
  pub this : (place_of g y block ≡ place_of g x block) ⊎ IsReplaced g block from change first next x y
  pub below : next_spare g y ≤ next
  pub adds : AddsFor g block x y
