-- What a command is told of the box file.
use Rattle.std.specs.Prelude.{◌≡◌, ℕ, List, Option, codes, Ok, Err}
use Rattle.box_file.specs.BoxText.{box_of}
use Rattle.box_file.specs.declared.file.BoxFile.{BoxFile}
use Rattle.box_file.specs.declared.file.BoxFault.{BoxFault}
use Rattle.box_file.specs.declared.file.BoxFault.TheVariants.{Field, Memory}
use Rattle.ssu_io.specs.Files.{File, Has}
use Rattle.ssu_status.specs.declared.status.Status.{Status}
use Rattle.ssu_status.specs.declared.status.Status.TheVariants.{BoxRefused, NoMemory}
use Rattle.tool_box.specs.Fetching.{IsFetchRefusal}

abbrev pub box_name : List ℕ
box_name = codes "box.toml"

-- the shelf has a box file that tells of this box
pub record TellsBox (held : Option (List File)) (box_file : BoxFile) : Type 0 where
  pub text : List ℕ
  pub has : Has held box_name text
  pub read : box_of text ≡ Ok box_file

-- the shelf has a box file whose first bad field is this one
pub record RefusesBox (held : Option (List File)) (field : List ℕ) : Type 0 where
  pub text : List ℕ
  pub has : Has held box_name text
  pub read : box_of text ≡ Err field

-- a box was not had for one of these reasons
abbrev pub IsBoxRefusal : Status → Type 0
IsBoxRefusal (BoxRefused field) = Unit {0}
IsBoxRefusal other = IsFetchRefusal other

-- the text of a box file gave no box for one of these reasons
abbrev pub IsTextRefusal : Status → Type 0
IsTextRefusal (BoxRefused field) = Unit {0}
IsTextRefusal NoMemory = Unit {0}
IsTextRefusal other = ⊥

abbrev pub text_refusal : BoxFault → Status
text_refusal (Field field) = BoxRefused field
text_refusal Memory = NoMemory
