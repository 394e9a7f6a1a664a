-- What is read from a file: a value, or the name of the first bad field.
use Rattle.std.specs.Prelude.{ℕ, List, ◌++◌, codes, decimal, Option, Some, None, option_map, Result, Ok, Err, if◌then◌else◌}
use Rattle.arrayvec.specs.ArrayString.{ArrayString}
use Rattle.std.specs.Str.{is_utf8}
use Rattle.toml.specs.Data.{Members}
use Rattle.toml.specs.Parse.{parse_document}

-- a value, or the name of the first bad field
abbrev pub Reading : Type 0 → Type 0
Reading T = Result T (List ℕ)

-- the second reading comes after the first, and only where that is not bad
infixl 10 ◌>>=◌
abbrev pub ◌>>=◌ : {A B : Type 0} → Reading A → (A → Reading B) → Reading B
Ok x >>= next = next x
Err name >>= next = Err name

-- the value, if there is one; else the field of that name is bad
abbrev pub or_bad : {T : Type 0} → List ℕ → Option T → Reading T
or_bad name None = Err name
or_bad name (Some x) = Ok x

-- what `take` makes of the value, if there is one; where `take` refuses it, the field of that name is bad
abbrev pub checked : {A B : Type 0} → (A → Option B) → List ℕ → Option A → Reading (Option B)
checked take name None = Ok None
checked take name (Some x) = or_bad name (option_map Some (take x))

-- what a call answers, with its value as `view` sees it
abbrev pub seen : {A B : Type 0} → (A → B) → Result A ArrayString → Reading B
seen view (Ok x) = Ok (view x)
seen view (Err name) = Err name.bytes

-- what a call answers
abbrev pub named : {T : Type 0} → Result T ArrayString → Reading T
named = seen (λ x. x)

-- what stands before the names of the fields of an array's table at an index, as group.0.
abbrev pub item_prefix : List ℕ → ℕ → List ℕ
item_prefix array index = array ++ codes "." ++ decimal index ++ codes "."

-- the table of a text in UTF-8 that is a TOML document
abbrev pub document_of : List ℕ → Option Members
document_of text = if is_utf8 text then parse_document text else None
