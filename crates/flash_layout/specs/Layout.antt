-- Where records, banks and journals stand. Blocks 0 and 1 hold the records in their first 64 bytes. Behind them stand two areas, each of
-- half of the other blocks; an odd last block is unused. In layout 1 an area is a bank. In layout 2 its last blocks are a journal, and
-- the blocks before them are the bank.
use Rattle.std.specs.Prelude.{◌≡◌, ℕ, ◌+◌, ◌-◌, ◌*◌, ◌/◌, ◌%◌, ◌≤◌, ◌==◌, if◌then◌else◌, List}
use Rattle.flash_dev.specs.declared.device.Flash.{Ghosts as FlashGhosts}
use Rattle.flash_layout.specs.Pairs.{part}

-- the number of blocks, and the length of a block in bytes
pub record Geometry : Type 0 where
  pub blocks : ℕ
  pub block_len : ℕ

-- the number and the length of the blocks of a flash
abbrev pub blocks_of : {F : Type 0} → FlashGhosts F → F → Geometry
blocks_of f flash = record { blocks = f.block_count flash; block_len = f.block_len flash }

-- block length and number of blocks are such that a flash can have a layout
pub record IsInLimits (g : Geometry) : Type 0 where
  pub page : g.block_len % 256 ≡ 0
  pub least_len : 256 ≤ g.block_len
  pub most_len : g.block_len ≤ 65536
  pub least_blocks : 4 ≤ g.blocks
  pub most_blocks : g.blocks ≤ 65536
  pub most_bytes : g.blocks * g.block_len ≤ 268435456

-- ---- records and areas

-- where record block r begins
abbrev pub record_place : Geometry → ℕ → ℕ
record_place g r = r * g.block_len

-- the number of blocks of an area, its bytes, and where area k begins
abbrev pub area_blocks : Geometry → ℕ
area_blocks g = (g.blocks - 2) / 2

abbrev pub area_len : Geometry → ℕ
area_len g = area_blocks g * g.block_len

abbrev pub area_place : Geometry → ℕ → ℕ
area_place g k = (2 + k * area_blocks g) * g.block_len

-- ---- journals

-- so many pieces of this length hold n bytes
unfoldable pub rounded_up : ℕ → ℕ → ℕ
rounded_up n len = (n + (len - 1)) / len

-- there is room for journals: layout 2 exists
abbrev pub HasJournals : Geometry → Type 0
HasJournals g = 1048576 ≤ area_len g

-- the number of marks of a journal
abbrev pub mark_count : Geometry → ℕ
mark_count g = area_len g / 512 + 512

-- Where the slots of a journal begin: behind header and marks, which end in a page of 256 bytes, and in a block of their own.
abbrev pub slots_at : Geometry → ℕ
slots_at g = rounded_up (8448 + rounded_up (2 * mark_count g) 256 * 256) g.block_len * g.block_len

-- the blocks of a journal, and its bytes
abbrev pub journal_blocks : Geometry → ℕ
journal_blocks g = rounded_up (slots_at g + 69632) g.block_len

abbrev pub journal_len : Geometry → ℕ
journal_len g = journal_blocks g * g.block_len

-- the bytes of an area before its journal: those of a bank of layout 2
abbrev pub short_len : Geometry → ℕ
short_len g = (area_blocks g - journal_blocks g) * g.block_len

-- where the journal of area k begins
abbrev pub journal_place : Geometry → ℕ → ℕ
journal_place g k = area_place g k + short_len g

-- the bytes of a bank of layout 1 or 2
abbrev pub bank_len : Geometry → ℕ → ℕ
bank_len g layout = if layout == 2 then short_len g else area_len g

-- ---- what stands there

-- the 64 bytes of record block r, the bytes of area k, and those of its journal
abbrev pub record_bytes : Geometry → List ℕ → ℕ → List ℕ
record_bytes g contents r = part contents (record_place g r) 64

abbrev pub area_bytes : Geometry → List ℕ → ℕ → List ℕ
area_bytes g contents k = part contents (area_place g k) (area_len g)

abbrev pub journal_bytes : Geometry → List ℕ → ℕ → List ℕ
journal_bytes g contents k = part contents (journal_place g k) (journal_len g)
