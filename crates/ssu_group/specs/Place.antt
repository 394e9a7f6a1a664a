-- The places of a plan, and the block that fills one.
use Rattle.std.specs.Prelude.{◌≡◌, ℕ, ◌+◌, ◌-◌, ◌*◌, ◌<◌, ◌≤◌, min, Bool, ◌&&◌, ◌==◌, nat_lt, List, [], ◌∷◌, length, Option, Some, None, IsSome, if◌then◌else◌}
use Rattle.std.specs.List.{find}
use Rattle.std.specs.Option.{option_and_then}
use Rattle.dsmcc_msg.specs.Block.{DdbFields}
use Rattle.ssu_group.specs.declared.module_plan.ModulePlan.{ModulePlan}
use Rattle.ssu_group.specs.declared.places.Place.{Place}
use Rattle.ssu_group.specs.declared.group_plan.GroupPlan.{GroupPlan}

-- the bytes of a block of a module: as many as a block has, or what is left of the module
abbrev pub block_length : ℕ → ℕ → ℕ → ℕ
block_length block_size size block = min block_size (size - block * block_size)

-- the place of a block of a module
abbrev pub place_in : ℕ → ModulePlan → ℕ → Place
place_in block_size m block = record {
  number = m.first + block;
  at = m.at + block * block_size;
  len = block_length block_size m.size block;
}

-- the place of that number
unfoldable pub place_at : ℕ → List ModulePlan → ℕ → Option Place
place_at block_size [] number = None
place_at block_size (m ∷ ms) number =
    if nat_lt number (m.first + m.blocks) then Some (place_in block_size m (number - m.first))
    else place_at block_size ms number

-- a place of the plan
abbrev pub IsPlace : GroupPlan → Place → Type 0
IsPlace plan p = place_at plan.block_size plan.modules.items p.number ≡ Some p

-- The places lie one behind the other and fill the image.
pub record FillImage (block_size : ℕ) (modules : List ModulePlan) (places total : ℕ) : Type 0 where
  pub there : (n : ℕ) → n < places → IsSome (place_at block_size modules n)
  pub no_more : (n : ℕ) → places ≤ n → place_at block_size modules n ≡ None
  pub numbered : (n : ℕ) (p : Place) → place_at block_size modules n ≡ Some p → p.number ≡ n
  pub not_empty : (n : ℕ) (p : Place) → place_at block_size modules n ≡ Some p → (0 < p.len) × (p.len ≤ block_size)
  pub begins : (p : Place) → place_at block_size modules 0 ≡ Some p → p.at ≡ 0
  pub goes_on : (n : ℕ) (p next : Place) → place_at block_size modules n ≡ Some p → place_at block_size modules (n + 1) ≡ Some next → next.at ≡ p.at + p.len
  pub ends : (n : ℕ) (p : Place) → place_at block_size modules n ≡ Some p → n + 1 ≡ places → p.at + p.len ≡ total

-- ---- the block that fills a place

abbrev pub is_module_of : DdbFields → ModulePlan → Bool
is_module_of d m = m.id == d.module_id && m.version == d.version

-- The module has such a block, of just so many bytes.
abbrev pub has_block : ℕ → DdbFields → ModulePlan → Bool
has_block block_size d m = nat_lt d.block m.blocks && length d.bytes == block_length block_size m.size d.block

abbrev pub block_place : ℕ → DdbFields → ModulePlan → Option Place
block_place block_size d m = if has_block block_size d m then Some (place_in block_size m d.block) else None

-- The place that a DDB fills: downloadId, moduleId, moduleVersion and blockNumber are the place's, and so is the
-- number of bytes.
unfoldable pub place_of : GroupPlan → DdbFields → Option Place
place_of plan d =
    if d.download == plan.download
    then option_and_then (block_place plan.block_size d) (find (is_module_of d) plan.modules.items)
    else None
