-- What a command is told of a file.
use Rattle.std.specs.Prelude.{◌≡◌, ◌↔◌, ℕ, List, Option, Some, None, Result, Ok, Err}
use Rattle.arrayvec.specs.ArrayString.{ArrayString}
use Rattle.ssu_io.specs.Files.{File, bytes_of}
use Rattle.ssu_io.specs.declared.shelf.ShelfError.{ShelfError}
use Rattle.ssu_io.specs.declared.shelf.ShelfError.TheVariants.{Absent as NoFile, Failed, Memory}
use Rattle.ssu_status.specs.declared.status.Status.{Status}
use Rattle.ssu_status.specs.declared.status.Status.TheVariants.{Absent, NoMemory, ShelfFault}

abbrev pub refusal_of : ShelfError → ArrayString → Status
refusal_of NoFile name = Absent name
refusal_of Failed name = ShelfFault
refusal_of Memory name = NoMemory

-- a file was not had for one of these reasons
abbrev pub IsFetchRefusal : Status → Type 0
IsFetchRefusal (Absent name) = Unit {0}
IsFetchRefusal ShelfFault = Unit {0}
IsFetchRefusal NoMemory = Unit {0}
IsFetchRefusal other = ⊥

abbrev pub IsAbsent : Status → Type 0
IsAbsent (Absent name) = Unit {0}
IsAbsent other = ⊥

-- the answer is an error, of which this holds
abbrev pub IsErrWith : {T : Type 0} → (Status → Type 0) → Result T Status → Type 0
IsErrWith P (Ok value) = ⊥
IsErrWith P (Err status) = P status

-- the shelf has no file of this name, where it tells its files
abbrev pub Lacks : Option (List File) → List ℕ → Type 0
Lacks (Some files) name = bytes_of files name ≡ None
Lacks None name = Unit {0}

-- the answer is Absent exactly where the shelf has no file of this name, where it tells its files
abbrev pub TellsAbsence : {T : Type 0} → Option (List File) → List ℕ → Result T Status → Type 0
TellsAbsence (Some files) name result = IsErrWith IsAbsent result ↔ (bytes_of files name ≡ None)
TellsAbsence None name result = Unit {0}

-- the shelf tells its files and has none of this name
abbrev pub HasNone : Option (List File) → List ℕ → Type 0
HasNone (Some files) name = bytes_of files name ≡ None
HasNone None name = ⊥

-- the answer is Absent with this name
abbrev pub SaysAbsent : List ℕ → Status → Type 0
SaysAbsent name (Absent told) = told.bytes ≡ name
SaysAbsent name other = ⊥

-- the same, where no fault and no want of memory came before
abbrev pub SaysAbsentOrFails : List ℕ → Status → Type 0
SaysAbsentOrFails name ShelfFault = Unit {0}
SaysAbsentOrFails name NoMemory = Unit {0}
SaysAbsentOrFails name other = SaysAbsent name other

-- the answer is this value, or that of a fault of the shelf or of want of memory
abbrev pub IsValueOrFails : {T : Type 0} → T → Result T Status → Type 0
IsValueOrFails value (Ok found) = found ≡ value
IsValueOrFails value (Err ShelfFault) = Unit {0}
IsValueOrFails value (Err NoMemory) = Unit {0}
IsValueOrFails value (Err other) = ⊥
