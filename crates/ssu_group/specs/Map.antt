-- A map of the places of a plan: which of them are marked.
use Rattle.std.specs.Prelude.{◌≡◌, ℕ, zero, suc, ◌+◌, ◌*◌, ◌/◌, ◌%◌, ◌≤◌, Bool, ◌==◌, List, length, slice_index, if◌then◌else◌}
use Rattle.std.specs.Int.{bit_at}

-- bit n % 8 of byte n / 8 stands for number n
abbrev pub is_set : List ℕ → ℕ → Bool
is_set bits n = bit_at (slice_index bits (n / 8)) (n % 8) == 1

-- Which of the first `places` numbers are marked, and the most places that there is room for. Bits past the places say
-- nothing.
pub record Marks : Type 0 where
  pub most : ℕ
  pub places : ℕ
  pub bits : List ℕ

abbrev pub marked : Marks → ℕ → Bool
marked m number = is_set m.bits number

-- how many numbers below n are not marked
unfoldable pub missing_below : (ℕ → Bool) → ℕ → ℕ
missing_below marked zero = 0
missing_below marked (suc n) = missing_below marked n + (if marked n then 0 else 1)

pub record IsMap (bits : List ℕ) (most places missing : ℕ) : Type 0 where
  pub room : most ≤ 8 * length bits
  pub within : places ≤ most
  pub counted : missing ≡ missing_below (is_set bits) places
