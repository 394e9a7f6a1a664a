-- The names of files: 1 to 64 letters, digits, `.`, `_` or `-` of ASCII, of which the first is not `.`.
use Rattle.std.specs.Prelude.{ℕ, Bool, not, ◌&&◌, ◌||◌, ◌==◌, List, length, slice_index, Option, Some, None, nat_le, if◌then◌else◌}
use Rattle.std.specs.List.{list_all}

-- a letter, a digit, or 46 `.`, 95 `_`, 45 `-`
abbrev pub is_file_character : ℕ → Bool
is_file_character c =
    (nat_le 65 c && nat_le c 90) || (nat_le 97 c && nat_le c 122) || (nat_le 48 c && nat_le c 57)
    || (c == 46) || (c == 95) || (c == 45)

abbrev pub is_file_name : List ℕ → Bool
is_file_name text =
    (nat_le 1 (length text) && nat_le (length text) 64) && not (slice_index text 0 == 46) && list_all is_file_character text

-- the text, if it is a file's name
abbrev pub file_name_of : List ℕ → Option (List ℕ)
file_name_of text = if is_file_name text then Some text else None
