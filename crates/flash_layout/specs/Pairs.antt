-- Bytes in pairs: a byte b stands as b and 255 - b, so a whole pair sums to 255. A torn erase or program only
-- raises bytes, so it raises the sum of each pair that it changes.
use Rattle.std.specs.Prelude.{◌≡◌, ℕ, ◌+◌, ◌-◌, ◌*◌, ◌<◌, ◌≤◌, List, [], ◌∷◌, take, drop, slice_index}

-- the n bytes from `at` on
abbrev pub part : List ℕ → ℕ → ℕ → List ℕ
part contents at n = take n (drop at contents)

-- each byte with its complement behind it
abbrev pub paired : List ℕ → List ℕ
paired [] = []
paired (byte ∷ bytes) = byte ∷ (255 - byte) ∷ paired bytes

-- the sum of the pair numbered i, from 0
abbrev pub pair_sum : List ℕ → ℕ → ℕ
pair_sum bytes i = slice_index bytes (2 * i) + slice_index bytes (2 * i + 1)

-- none of the first n pairs sums to less than 255
pub record NoneBelow (bytes : List ℕ) (n : ℕ) : Type 0 where
  pub each : (i : ℕ) → i < n → 255 ≤ pair_sum bytes i

-- each of the first n pairs is whole
pub record AreWhole (bytes : List ℕ) (n : ℕ) : Type 0 where
  pub each : (i : ℕ) → i < n → pair_sum bytes i ≡ 255

-- the byte that the pair numbered i stands for, and the numbers of two and four bytes from it on
abbrev pub byte_at : List ℕ → ℕ → ℕ
byte_at bytes i = slice_index bytes (2 * i)

abbrev pub half_at : List ℕ → ℕ → ℕ
half_at bytes i = 256 * byte_at bytes i + byte_at bytes (i + 1)

abbrev pub word_at : List ℕ → ℕ → ℕ
word_at bytes i = 65536 * half_at bytes i + half_at bytes (i + 2)
