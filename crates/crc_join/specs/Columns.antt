-- A register of CRC_32 over zeros.
use Rattle.std.specs.Prelude.{◌≡◌, ℕ, zero, suc, ◌*◌, ◌<◌, ◌^◌, List, length, get_or}
use Rattle.ts_crc.specs.Crc.{after_bit}

-- a register after so many bits 0
unfoldable pub zero_bits : ℕ → ℕ → ℕ
zero_bits zero register = register
zero_bits (suc n) register = after_bit (zero_bits n register) 0

-- What each of the 32 bits of a register becomes over so many bytes 0, the lowest first.
pub record AreColumns (len : ℕ) (columns : List ℕ) : Type 0 where
  pub all : length columns ≡ 32
  pub each : (i : ℕ) → i < 32 → get_or columns i 0 ≡ zero_bits (8 * len) (2 ^ i)
