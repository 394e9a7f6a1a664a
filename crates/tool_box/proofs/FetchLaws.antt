-- What an answer says of a file that a shelf has, where it tells its files.
use Rattle.std.proofs.Common.{◌≡◌, ◌∙◌, ℕ, List, ap, sym}
use Rattle.std.specs.Prelude.{Option, Some, None, IsSome, Result, Ok, Err, IfOk, IfErr}
use Rattle.box_file.specs.BoxText.{box_of}
use Rattle.box_file.specs.declared.file.BoxFile.{BoxFile}
use Rattle.ssu_io.specs.Files.{File, Has, bytes_of}
use Rattle.ssu_status.specs.Status.{OnBoxRefused}
use Rattle.ssu_status.specs.declared.status.Status.{Status}
use Rattle.ssu_status.specs.declared.status.Status.TheVariants.{Absent, BoxRefused, NoMemory, ShelfFault}
use Rattle.tool_box.specs.Boxes.{IsTextRefusal, TellsBox, box_name}
use Rattle.tool_box.specs.Fetching.{IsFetchRefusal, IsValueOrFails, TellsAbsence}

abbrev some : List ℕ → Option (List ℕ)
some x = Some x

none_some : (o : Option (List ℕ)) (x : List ℕ) → o ≡ None → o ≡ Some x → ⊥
none_some o x none is = cc

-- a file that is there is not told absent
pub value_not_fetched : (T V : Type 0) (held : Option (List File)) (name text : List ℕ) (value : V) (s : Status) → IsSome held
    → Has held name text → IsFetchRefusal s → TellsAbsence {T = T} held name (Err s) → IsValueOrFails value (Err s)
value_not_fetched T V None name text value s told has is absence = absurd cc
value_not_fetched T V (Some files) name text value (Absent x) told has is absence = absurd (none_some (bytes_of files name) text (absence.0 tt) has)
value_not_fetched T V (Some files) name text value ShelfFault told has is absence = tt
value_not_fetched T V (Some files) name text value NoMemory told has is absence = tt
value_not_fetched T V (Some files) name text value other told has is absence = absurd is

-- a name has the bytes of one file
pub one_text : (held : Option (List File)) (name first second : List ℕ) → IsSome held → Has held name first → Has held name second → first ≡ second
one_text None name first second told one two = absurd cc
one_text (Some files) name first second told one two = same first second (sym one ∙ two)
  where
    same : (a b : List ℕ) → some a ≡ some b → a ≡ b
    same a b e = cc

abbrev good : BoxFile → Result BoxFile (List ℕ)
good b = Ok b

one_box : (a b : BoxFile) → good a ≡ good b → a ≡ b
one_box a b e = cc

good_bad : (a : BoxFile) (field : List ℕ) → good a ≡ Err field → ⊥
good_bad a field e = cc

-- the box that the shelf tells is read
pub box_read : (held : Option (List File)) (b : BoxFile) (text : List ℕ) (r : Result BoxFile Status) → IsSome held → TellsBox held b
    → Has held box_name text → IfOk r (λ q. box_of text ≡ Ok q) → IfErr r (λ s. OnBoxRefused s (λ field. box_of text ≡ Err field))
    → IfErr r IsTextRefusal → IsValueOrFails b r
box_read held b text (Ok q) told tells has found refused is =
    let same = one_text held box_name text tells.text told has tells.has in
    one_box q b (sym found ∙ ap box_of same ∙ tells.read)
box_read held b text (Err NoMemory) told tells has found refused is = tt
box_read held b text (Err (BoxRefused field)) told tells has found refused is =
    let same = one_text held box_name tells.text text told tells.has has in
    absurd (good_bad b field.bytes (sym tells.read ∙ ap box_of same ∙ refused))
box_read held b text (Err other) told tells has found refused is = absurd is
