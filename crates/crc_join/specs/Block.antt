-- The block of a section.
use Rattle.std.specs.Prelude.{ℕ, ◌-◌, List, length, take, drop}

-- the last `len` bytes before the four bytes of the CRC
abbrev pub block_of : ℕ → List ℕ → List ℕ
block_of len section = take len (drop (length section - 4 - len) section)
