-- Pairs that are read from a flash.
use Rattle.std.specs.Prelude.{◌≡◌, ℕ, ◌+◌, ◌*◌, ◌<◌, ◌≤◌, Bool, true, false, List, slice_index}
use Rattle.flash_layout.specs.Pairs.{AreWhole, byte_at, half_at, part, word_at}

-- two bytes sum to 255 at least, or exactly
abbrev pub IsPair : Bool → ℕ → Type 0
IsPair exact sum = (255 ≤ sum) × (exact ≡ true → sum ≤ 255)

-- so do each two of the n pairs from `at` on
pub record ArePairs (exact : Bool) (contents : List ℕ) (at n : ℕ) : Type 0 where
  pub each : (i : ℕ) → i < n → IsPair exact (slice_index contents (at + 2 * i) + slice_index contents (at + 2 * i + 1))

-- no pair of the heads of the first so many slots is below 255
pub record AreHeads (contents : List ℕ) (slots n : ℕ) : Type 0 where
  pub each : (s : ℕ) → s < n → ArePairs false contents (slots + 4352 * s) 8

-- the fixed part of a valid header, in its 32 bytes
pub record IsFixedPart (bytes : List ℕ) : Type 0 where
  pub whole : AreWhole bytes 16
  pub magic : word_at bytes 0 ≡ 0x5353554A
  pub some : 1 ≤ half_at bytes 8
  pub few : half_at bytes 8 ≤ 4084
  pub zeros : (i : ℕ) → 10 ≤ i → i < 16 → byte_at bytes i ≡ 0

-- a valid header from `place` on
pub record HasHeader (contents : List ℕ) (place : ℕ) : Type 0 where
  pub fixed : IsFixedPart (part contents place 32)
  pub message : ArePairs true contents (place + 256) (half_at (part contents place 32) 8)
