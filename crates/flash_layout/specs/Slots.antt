-- A slot: 4352 bytes, a head of 8 bytes in pairs, and from 256 on the bytes for a place of the bank, as they are. By bytes of the head: 0
-- and 1 `SP`, 2 to 5 the place in the bank, 6 and 7 the number of bytes.
use Rattle.std.specs.Prelude.{ℕ, zero, suc, ◌+◌, ◌*◌, ◌/◌, ◌%◌, Bool, true, false, ◌&&◌, ◌==◌, nat_le, if◌then◌else◌, List, [], ◌∷◌, take, slice_index}
use Rattle.flash_dev.specs.Calls.{changed_in}
use Rattle.flash_layout.specs.Pairs.{half_at, paired, part, word_at}

-- the place in the bank, and the number of bytes
abbrev pub slot_at : List ℕ → ℕ
slot_at slot = word_at slot 2

abbrev pub slot_len : List ℕ → ℕ
slot_len slot = half_at slot 6

-- each pair of these bytes sums to 255
unfoldable pub are_pairs_whole : List ℕ → Bool
are_pairs_whole [] = true
are_pairs_whole (a ∷ []) = false
are_pairs_whole (a ∷ b ∷ rest) = (a + b == 255) && are_pairs_whole rest

-- The slot is valid, for a bank of n bytes: the pairs of its head are whole, it begins with `SP`, has 1 to 4,066 bytes, and these lie in
-- the bank.
abbrev pub is_slot : ℕ → List ℕ → Bool
is_slot n slot =
    are_pairs_whole (take 16 slot) && (half_at slot 0 == 0x5350) && nat_le 1 (slot_len slot) && nat_le (slot_len slot) 4066
    && nat_le (slot_at slot + slot_len slot) n

-- the bytes of a bank, with those of the slot in their place where it is valid
abbrev pub laid_one : ℕ → List ℕ → List ℕ → List ℕ
laid_one n slot bank =
    if is_slot n slot then changed_in (slot_at slot) (slot_len slot) (λ k byte. slice_index slot (256 + k)) bank else bank

-- the same with the first so many slots, one after the other
unfoldable pub laid : ℕ → List ℕ → List ℕ → ℕ → List ℕ
laid n slots bank zero = bank
laid n slots bank (suc s) = laid_one n (part slots (4352 * s) 4352) (laid n slots bank s)

-- the 8 bytes of a head, and the 16 that are programmed for them
abbrev pub slot_spelled : ℕ → ℕ → List ℕ
slot_spelled at len =
    0x53 ∷ 0x50 ∷ (at / 16777216) ∷ (at / 65536 % 256) ∷ (at / 256 % 256) ∷ (at % 256) ∷ (len / 256) ∷ (len % 256) ∷ []

abbrev pub slot_written : ℕ → ℕ → List ℕ
slot_written at len = paired (slot_spelled at len)
