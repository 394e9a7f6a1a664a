-- What a block leaves of a register, by a section that carries it.
use Rattle.std.proofs.Common.{◌≡◌, ℕ, ◌+◌, ◌-◌, ◌*◌, ◌^◌, ◌<◌, ◌≤◌, List, ◌++◌, length, take, drop, sym, ap, ◌∙◌, arith, bit_xor}
use Rattle.std.proofs.lemmas.List.{take-append-drop, length-take-le, length-drop, drop-drop}
use Rattle.std.specs.Int.{to_be_bytes, w32}
use lib.Bits.{xor_assoc, xor_self, xor_zero_r}
use Rattle.ts_crc.specs.Crc.{after_bytes, crc_of}
use Rattle.ts_crc.proofs.CrcLaws.{after_join, crc_join, after_small, crc_small}
use Rattle.crc_join.specs.Block.{block_of}
use Rattle.crc_join.specs.Columns.{zero_bits}
use Rattle.crc_join.proofs.Linear.{apart}
use Rattle.crc_join.proofs.Back.{own_back}

-- (m + h) + h = m
twice_none : (m h : ℕ) → bit_xor (bit_xor m h) h ≡ m
twice_none m h = xor_assoc m h h ∙ ap (bit_xor m) (xor_self h) ∙ xor_zero_r m

-- A section is a head, a block and its CRC.
pub joined_parts : (m c : ℕ) (head block : List ℕ) → c < 2 ^ 32 → crc_of (head ++ (block ++ to_be_bytes w32 c)) ≡ 0
    → after_bytes m block ≡ bit_xor (zero_bits (8 * length block) (bit_xor m (crc_of head))) c
joined_parts m c head block fits right =
    let h = crc_of head in
    let none : after_bytes (after_bytes h block) (to_be_bytes w32 c) ≡ 0 =
    sym (after_join h block (to_be_bytes w32 c)) ∙ sym (crc_join head (block ++ to_be_bytes w32 c)) ∙ right in
    let own : after_bytes h block ≡ c = own_back (after_bytes h block) c (after_small h block (crc_small head)) fits none in
    ap (λ r. after_bytes r block) (sym (twice_none m h))
    ∙ apart (bit_xor m h) h block
    ∙ ap (bit_xor (zero_bits (8 * length block) (bit_xor m h))) own

-- The same by the lengths.
pub joined_is : (m c len : ℕ) (section : List ℕ) → c < 2 ^ 32 → len + 4 ≤ length section → to_be_bytes w32 c ≡ drop (length section - 4) section → crc_of section ≡ 0
    → after_bytes m (block_of len section) ≡ bit_xor (zero_bits (8 * len) (bit_xor m (crc_of (take (length section - 4 - len) section)))) c
joined_is m c len section fits long own right =
    let n = length section - 4 - len in
    let rest = drop n section in
    let block = take len rest in
    let end : drop len rest ≡ drop (length section - 4) section = drop-drop len n section ∙ ap (λ k. drop k section) (omega (arith, long)) in
    let split : take n section ++ (block ++ to_be_bytes w32 c) ≡ section =
    ap (λ xs. take n section ++ (block ++ xs)) (own ∙ sym end)
    ∙ ap (λ xs. take n section ++ xs) (take-append-drop len rest)
    ∙ take-append-drop n section in
    let size : length block ≡ len = length-take-le len rest (omega (arith, length-drop n section, long)) in
    joined_parts m c (take n section) block fits (ap crc_of split ∙ right)
    ∙ ap (λ k. bit_xor (zero_bits (8 * k) (bit_xor m (crc_of (take n section)))) c) size
