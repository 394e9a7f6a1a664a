-- CRC_32: ISO/IEC 13818-1, annex A. A register of 32 bits that takes the highest bit of each byte first; there is no
-- reflection and no exclusive or at the end.
use Rattle.std.specs.Prelude.{ℕ, ◌/◌, ◌%◌, ◌*◌, ◌^◌, if◌then◌else◌, ◌==◌, List, [], ◌∷◌, bit_xor, fold, zero, suc}

-- x^26 + x^23 + x^22 + x^16 + x^12 + x^11 + x^10 + x^8 + x^7 + x^5 + x^4 + x^2 + x + 1; the term x^32 is left out
abbrev pub polynomial : ℕ
polynomial = 0x04C11DB7

-- What the register holds before the first bit.
abbrev pub start : ℕ
start = 0xFFFFFFFF

-- The register doubles modulo 2 ^ 32. Where its former highest bit differs from the bit that comes, the polynomial is
-- exclusive-ored in.
unfoldable pub after_bit : ℕ → ℕ → ℕ
after_bit register bit =
    if register / 2 ^ 31 % 2 == bit then register * 2 % 2 ^ 32
    else bit_xor (register * 2 % 2 ^ 32) polynomial

-- The bits of a byte, the highest first.
abbrev pub bits_of : ℕ → List ℕ
bits_of byte =
    (byte / 128 % 2) ∷ (byte / 64 % 2) ∷ (byte / 32 % 2) ∷ (byte / 16 % 2)
    ∷ (byte / 8 % 2) ∷ (byte / 4 % 2) ∷ (byte / 2 % 2) ∷ (byte % 2) ∷ []

unfoldable pub after_byte : ℕ → ℕ → ℕ
after_byte register byte = fold after_bit register (bits_of byte)

-- What the register holds after these bytes.
unfoldable pub after_bytes : ℕ → List ℕ → ℕ
after_bytes register bytes = fold after_byte register bytes

-- The CRC of a text.
unfoldable pub crc_of : List ℕ → ℕ
crc_of bytes = after_bytes start bytes

-- A register of 0 after a byte and so many bytes 0 behind it: sixteen tables of it let sixteen bytes go in at once.
unfoldable pub lane : ℕ → ℕ → ℕ
lane zero byte = after_byte 0 byte
lane (suc zeros) byte = after_byte (lane zeros byte) 0
