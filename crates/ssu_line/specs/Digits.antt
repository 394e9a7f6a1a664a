-- Hexadecimal digits, and texts that are set to the right.
use Rattle.std.specs.Prelude.{ℕ, ◌+◌, ◌-◌, ◌/◌, ◌%◌, List, [], ◌∷◌, ◌++◌, length, replicate, nat_le, if◌then◌else◌}

-- 48 is '0', and 87 is ten below 'a'
abbrev pub hex_digit : ℕ → ℕ
hex_digit n = if nat_le n 9 then 48 + n else 87 + n

-- two digits
abbrev pub hex_byte : ℕ → List ℕ
hex_byte n = hex_digit (n / 16) ∷ hex_digit (n % 16) ∷ []

-- four digits of a number below 65,536
abbrev pub hex_half : ℕ → List ℕ
hex_half n = hex_byte (n / 256) ++ hex_byte (n % 256)

-- eight digits of a number below 4,294,967,296
abbrev pub hex_word : ℕ → List ℕ
hex_word n = hex_byte (n / 16777216) ++ hex_byte (n / 65536 % 256) ++ hex_byte (n / 256 % 256) ++ hex_byte (n % 256)

-- the text with spaces before it up to the width
abbrev pub right : ℕ → List ℕ → List ℕ
right width text = replicate (width - length text) 32 ++ text
