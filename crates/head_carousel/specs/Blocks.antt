-- The data blocks of a carousel: ISO/IEC 13818-6, 7.3; ETSI EN 301 192, 8.1.
use Rattle.std.specs.Prelude.{ℕ, ◌-◌, ◌*◌, ◌≤◌, List, map, length, take, drop}
use Rattle.std.specs.List.{flat_map, range_with_len}
use Rattle.std.specs.Int.{div_ceil}
use Rattle.dsmcc_msg.specs.Block.{DdbFields}
use Rattle.dsmcc_msg.specs.Written.{ddb_bytes}
use Rattle.head_carousel.specs.GroupFiles.{GroupFiles, modules_of}

-- how many blocks of this size a file needs: none, where it has no byte
abbrev pub block_count : ℕ → List ℕ → ℕ
block_count size file = div_ceil (length file) size

-- A block of a file: so many bytes, or what is left of the file.
abbrev pub block_of : ℕ → List ℕ → ℕ → List ℕ
block_of size file k = take size (drop (k * size) file)

-- The fields of a data block. The download id is that of the DII, which is the group's.
abbrev pub ddb_fields : GroupFiles → ℕ × List ℕ → ℕ → DdbFields
ddb_fields g m k = record {
  download = g.id;
  module_id = m.0;
  version = g.group.module_version;
  block = k;
  bytes = block_of g.group.block_size m.1 k;
}

-- The sections of a module's blocks, from block 0 on.
unfoldable pub module_blocks : GroupFiles → ℕ × List ℕ → List (List ℕ)
module_blocks g m =
    let count = block_count g.group.block_size m.1 in
    map (λ k. ddb_bytes (ddb_fields g m k) (count - 1)) (range_with_len 0 count)

-- The sections of a group's blocks, module by module.
unfoldable pub group_blocks : GroupFiles → List (List ℕ)
group_blocks g = flat_map (module_blocks g) (modules_of g)

-- The sections of all blocks, group by group.
abbrev pub all_blocks : List GroupFiles → List (List ℕ)
all_blocks gs = flat_map group_blocks gs

-- a group of at most 65,536 blocks
abbrev pub IsShort : GroupFiles → Type 0
IsShort g = length (group_blocks g) ≤ 65536
