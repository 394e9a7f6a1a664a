-- The bytes of a name on a shelf that got one more file.
use Rattle.std.proofs.Common.{◌≡◌, ◌≢◌, ℕ, Bool, true, false, List, [], ◌∷◌, ◌++◌, Option, Some, None, ◌+◌, ◌<◌, length, take, get_or, refl, ap, sym, ◌∙◌}
use Rattle.std.proofs.lemmas.List.{take_more}
use Rattle.std.specs.Prelude.{bytes_eq, if◌then◌else◌}
use Rattle.std.specs.Option.{option_or}
use Rattle.std.proofs.lemmas.Slice.Eq.{bytes_eq-Decides}
use Rattle.ssu_io.specs.Files.{File, bytes_of}

or_if : (test : Bool) (bytes : List ℕ) (rest other : Option (List ℕ)) → option_or (if test then Some bytes else rest) other ≡ (if test then Some bytes else option_or rest other)
or_if true bytes rest other = refl
or_if false bytes rest other = refl

-- the added file counts where it has the name, and the others where it does not
pub bytes_of_more : (files : List File) (file : File) (name : List ℕ) → bytes_of (files ++ file ∷ []) name ≡ (if bytes_eq file.name name then Some file.bytes else bytes_of files name)
bytes_of_more [] file name = refl
bytes_of_more (first ∷ files) file name =
    let own : Option (List ℕ) = if bytes_eq first.name name then Some first.bytes else None in
    ap (λ (found : Option (List ℕ)). option_or found own) (bytes_of_more files file name)
    ∙ or_if (bytes_eq file.name name) file.bytes (bytes_of files name) own

if_true : (test : Bool) (a b : Option (List ℕ)) → test ≡ true → (if test then a else b) ≡ a
if_true test a b is = ap (λ (t : Bool). if t then a else b) is

if_false : (test : Bool) (a b : Option (List ℕ)) → test ≢ true → (if test then a else b) ≡ b
if_false true a b is = absurd (is refl)
if_false false a b is = refl

-- the name of the file that came has its bytes
pub bytes_of_added : (files : List File) (file : File) (name bytes : List ℕ) → file.name ≡ name → file.bytes ≡ bytes → bytes_of (files ++ file ∷ []) name ≡ Some bytes
bytes_of_added files file name bytes named held =
    bytes_of_more files file name
    ∙ if_true (bytes_eq file.name name) (Some file.bytes) (bytes_of files name) ((bytes_eq-Decides file.name name).1 named)
    ∙ ap (λ (b : List ℕ). Some b) held

-- each other name has the bytes that it had
pub bytes_of_others : (files : List File) (file : File) (name other : List ℕ) → file.name ≡ name → other ≢ name → bytes_of (files ++ file ∷ []) other ≡ bytes_of files other
bytes_of_others files file name other named differs =
    bytes_of_more files file other
    ∙ if_false (bytes_eq file.name other) (Some file.bytes) (bytes_of files other) (λ is. differs (sym ((bytes_eq-Decides file.name other).0 is) ∙ named))

-- one more file was looked at
pub bytes_of_next : (files : List File) (i : ℕ) (file : File) (name : List ℕ) → i < length files → bytes_of (take (i + 1) files) name ≡ (if bytes_eq (get_or files i file).name name then Some (get_or files i file).bytes else bytes_of (take i files) name)
bytes_of_next files i file name within =
    ap (λ (front : List File). bytes_of front name) (take_more files i file within)
    ∙ bytes_of_more (take i files) (get_or files i file) name

-- it has the name
pub bytes_of_found : (files : List File) (i : ℕ) (file : File) (name : List ℕ) (found : Option (List ℕ)) → i < length files → get_or files i file ≡ file → bytes_eq file.name name ≡ true → found ≡ Some file.bytes → found ≡ bytes_of (take (i + 1) files) name
bytes_of_found files i file name found within is same found_is =
    found_is
    ∙ sym (if_true (bytes_eq file.name name) (Some file.bytes) (bytes_of (take i files) name) same)
    ∙ sym (ap (λ (f : File). if bytes_eq f.name name then Some f.bytes else bytes_of (take i files) name) is)
    ∙ sym (bytes_of_next files i file name within)

-- it has another name
pub bytes_of_passed : (files : List File) (i : ℕ) (file : File) (name : List ℕ) (found : Option (List ℕ)) → i < length files → get_or files i file ≡ file → bytes_eq file.name name ≢ true → found ≡ bytes_of (take i files) name → found ≡ bytes_of (take (i + 1) files) name
bytes_of_passed files i file name found within is differs found_is =
    found_is
    ∙ sym (if_false (bytes_eq file.name name) (Some file.bytes) (bytes_of (take i files) name) differs)
    ∙ sym (ap (λ (f : File). if bytes_eq f.name name then Some f.bytes else bytes_of (take i files) name) is)
    ∙ sym (bytes_of_next files i file name within)
