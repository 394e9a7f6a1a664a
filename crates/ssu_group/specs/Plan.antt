-- The plan of a group (ETSI TS 102 006; ETSI EN 301 192, 8.1): its image is its modules joined in the order of the DII,
-- and each module comes in blocks of one size, of which the last may be shorter.
use Rattle.std.specs.Prelude.{◌≡◌, ℕ, ◌+◌, ◌^◌, ◌<◌, ◌≤◌, Bool, true, ◌&&◌, not, ◌==◌, nat_le}
use Rattle.std.specs.Prelude.{List, [], ◌∷◌, length, Option, Some, None, IsTrue, sum_by}
use Rattle.std.specs.Prelude.{if◌then◌else◌}
use Rattle.std.specs.List.{list_any, list_all}
use Rattle.std.specs.Option.{option_and_then, is_some}
use Rattle.std.specs.Int.{div_ceil}
use Rattle.wire.specs.Number.{number_of}
use Rattle.si_desc.specs.Descriptors.{first_body}
use Rattle.dsmcc_msg.specs.Control.{ModuleFields}
use Rattle.ssu_group.specs.declared.module_plan.ModulePlan.{ModulePlan}

-- ---- what the descriptors of a module say

abbrev pub crc32_tag : ℕ
crc32_tag = 0x05

abbrev pub compressed_module_tag : ℕ
compressed_module_tag = 0x09

abbrev pub four_bytes : List ℕ → Option ℕ
four_bytes body = if length body == 4 then Some (number_of body) else None

-- The CRC of the module: the first CRC32 descriptor counts if it has four bytes.
abbrev pub module_crc : List ℕ → Option ℕ
module_crc info = option_and_then four_bytes (first_body crc32_tag info)

abbrev pub is_compressed : ModuleFields → Bool
is_compressed m = is_some (first_body compressed_module_tag m.info)

-- ---- where the modules stand

-- how many blocks a module has: none, where it has no byte
abbrev pub blocks_of : ℕ → ModuleFields → ℕ
blocks_of block_size m = div_ceil m.size block_size

-- a module that begins at byte `at` of the image and has `first` blocks before it
abbrev pub module_at : ℕ → ℕ → ℕ → ModuleFields → ModulePlan
module_at block_size at first m = record {
  id = m.id;
  version = m.version;
  size = m.size;
  at = at;
  first = first;
  blocks = blocks_of block_size m;
  crc = module_crc m.info;
}

-- The modules one after the other, from there on.
unfoldable pub laid_out : ℕ → ℕ → ℕ → List ModuleFields → List ModulePlan
laid_out block_size at first [] = []
laid_out block_size at first (m ∷ ms) =
    module_at block_size at first m ∷ laid_out block_size (at + m.size) (first + blocks_of block_size m) ms

abbrev pub size_of : ModulePlan → ℕ
size_of m = m.size

abbrev pub block_count : ModulePlan → ℕ
block_count m = m.blocks

-- ---- what every plan keeps

-- each module begins where the one before it ends, in bytes and in blocks
unfoldable pub are_joined : ℕ → ℕ → ℕ → List ModulePlan → Bool
are_joined block_size at first [] = true
are_joined block_size at first (m ∷ ms) =
    m.at == at && m.first == first && m.blocks == div_ceil m.size block_size
    && are_joined block_size (at + m.size) (first + m.blocks) ms

-- no id stands twice
unfoldable pub are_distinct : List ModulePlan → Bool
are_distinct [] = true
are_distinct (m ∷ ms) = not (list_any (λ n. n.id == m.id) ms) && are_distinct ms

abbrev pub few_blocks : ModulePlan → Bool
few_blocks m = nat_le m.blocks 65536

pub record IsPlan (block_size : ℕ) (modules : List ModulePlan) (places total : ℕ) : Type 0 where
  pub least : 1 ≤ block_size
  pub most : block_size ≤ 4066
  pub few_modules : length modules ≤ 506
  pub few : IsTrue (list_all few_blocks modules)
  pub distinct : IsTrue (are_distinct modules)
  pub joined : IsTrue (are_joined block_size 0 0 modules)
  pub all_places : places ≡ sum_by block_count modules
  pub all_bytes : total ≡ sum_by size_of modules
  pub some : 1 ≤ total
  pub most_places : places ≤ 33161216
  pub most_bytes : total < 2 ^ 32
