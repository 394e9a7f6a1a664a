-- Numbers on the wire, highest byte first, and fields of some of their bits.
use Rattle.std.specs.Prelude.{ℕ, ◌+◌, ◌*◌, ◌%◌, ◌^◌, List, fold}
use Rattle.std.specs.Int.{bytes_high_first}
use Rattle.wire.specs.Format.{Front, word, reads}

-- the number that bytes stand for, the highest first
abbrev pub number_of : List ℕ → ℕ
number_of bytes = fold (λ high byte. high * 256 + byte) 0 bytes

-- the k bytes of a number, the highest first
abbrev pub bytes_of : ℕ → ℕ → List ℕ
bytes_of k n = bytes_high_first k n

-- k bytes that stand for a number
abbrev pub number : ℕ → Front ℕ
number k = word k number_of

-- the low w bits of k bytes: the bits above them are reserved
abbrev pub low : ℕ → ℕ → Front ℕ
low k w = reads (λ n. n % 2 ^ w) (number k)

-- 4 reserved bits, which are ones, and a length of 12
abbrev pub length_bytes : ℕ → List ℕ
length_bytes n = bytes_of 2 (15 * 2 ^ 12 + n)
