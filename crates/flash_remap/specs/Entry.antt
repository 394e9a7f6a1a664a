-- An entry of the map: 8 bytes that stand as 16, in pairs, each byte b as b and 255 - b. By bytes: 0 and 1 are 0x42 and
-- 0x4D, 2 and 3 the logical block, 4 and 5 the spare, 6 and 7 are zero.
use Rattle.std.specs.Prelude.{ℕ, zero, suc, ◌+◌, ◌-◌, ◌*◌, ◌/◌, ◌%◌, Bool, true, ◌&&◌, ◌==◌, if◌then◌else◌, List, []}
use Rattle.std.specs.Prelude.{◌∷◌, slice_index, Option, Some, None}
use Rattle.flash_remap.specs.declared.entry.Entry.{Entry}

-- the sum of the pair numbered i, from 0
abbrev pub pair_sum : List ℕ → ℕ → ℕ
pair_sum bytes i = slice_index bytes (2 * i) + slice_index bytes (2 * i + 1)

-- each of the first n pairs sums to 255
unfoldable pub are_whole : ℕ → List ℕ → Bool
are_whole zero bytes = true
are_whole (suc n) bytes = are_whole n bytes && (pair_sum bytes n == 255)

-- the byte that the pair numbered i stands for, and the number of two bytes from it on
abbrev pub byte_at : List ℕ → ℕ → ℕ
byte_at bytes i = slice_index bytes (2 * i)

abbrev pub half_at : List ℕ → ℕ → ℕ
half_at bytes i = 256 * byte_at bytes i + byte_at bytes (i + 1)

-- the bytes that are the same in each entry are right
abbrev pub are_fixed : List ℕ → Bool
are_fixed bytes = (byte_at bytes 0 == 0x42) && ((byte_at bytes 1 == 0x4D) && ((byte_at bytes 6 == 0) && (byte_at bytes 7 == 0)))

-- the entry in the bytes of a slot, where its pairs are whole and its fixed bytes are right
unfoldable pub entry_in : List ℕ → Option Entry
entry_in bytes =
    if are_whole 8 bytes && are_fixed bytes then Some (record { block = half_at bytes 2; spare = half_at bytes 4 }) else None

-- the 8 bytes of an entry
abbrev pub spelled : Entry → List ℕ
spelled e = 0x42 ∷ 0x4D ∷ (e.block / 256) ∷ (e.block % 256) ∷ (e.spare / 256) ∷ (e.spare % 256) ∷ 0 ∷ 0 ∷ []

-- each byte with its complement behind it
abbrev pub paired : List ℕ → List ℕ
paired [] = []
paired (byte ∷ bytes) = byte ∷ (255 - byte) ∷ paired bytes

-- the 16 bytes that are programmed for an entry
abbrev pub written : Entry → List ℕ
written e = paired (spelled e)
