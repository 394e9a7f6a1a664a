-- What a shelf holds: files, each with a name and bytes, or None where the shelf does not tell them.
use Rattle.std.specs.Prelude.{◌≡◌, ◌↔◌, ℕ, List, [], ◌∷◌, Option, Some, None, Result, Err, bytes_eq, if◌then◌else◌}
use Rattle.std.specs.Option.{option_or}
use Rattle.ssu_io.specs.declared.shelf.ShelfError.{ShelfError}
use Rattle.ssu_io.specs.declared.shelf.ShelfError.TheVariants.{Absent}

pub record File : Type 0 where
  -- the text of the name, in UTF-8
  pub name : List ℕ
  pub bytes : List ℕ

-- what is told of a shelf's files where they are not told
abbrev pub untold : Option (List File)
untold = None

-- the bytes of a name: those of the last file that has it, or None where no file has it
abbrev pub bytes_of : List File → List ℕ → Option (List ℕ)
bytes_of [] name = None
bytes_of (file ∷ later) name = option_or (bytes_of later name) (if bytes_eq file.name name then Some file.bytes else None)

-- the shelf has a file of this name with these bytes, where it tells its files
abbrev pub Has : Option (List File) → List ℕ → List ℕ → Type 0
Has (Some files) name bytes = bytes_of files name ≡ Some bytes
Has None name bytes = Unit {0}

-- the answer is Absent exactly where the shelf has no file of this name, where it tells its files
abbrev pub IsAbsentExactly : {T : Type 0} → Option (List File) → List ℕ → Result T ShelfError → Type 0
IsAbsentExactly (Some files) name result = (result ≡ Err Absent) ↔ (bytes_of files name ≡ None)
IsAbsentExactly None name result = Unit {0}
