-- What `find` and `show` answer.
use Rattle.std.specs.Prelude.{◌≡◌, ◌⊎◌, ℕ, Bool, true, List, Option}
use Rattle.box_file.specs.declared.file.BoxFile.{BoxFile}
use Rattle.ssu_io.specs.Files.{File}
use Rattle.ssu_status.specs.Answers.{IsEndOfInput}
use Rattle.ssu_status.specs.declared.status.Status.{Status}
use Rattle.ssu_status.specs.declared.status.Status.TheVariants.{BoxRefused, Absent, WriteFault, NoMemory, ShelfFault}
use Rattle.ts_input.specs.Puts.{PutsPrefix}
use Rattle.tool_box.specs.Boxes.{TellsBox}
use Rattle.route_tables.specs.Values.{Receiver}
use Rattle.ts_input.specs.Packets.{IsAtEnd}
use Rattle.tool_find.specs.Lines.{receiver_of, text_of, whole_text}

-- what the commands answer, and nothing else
abbrev pub IsAnswer : Status → Type 0
IsAnswer (BoxRefused field) = Unit {0}
IsAnswer (Absent name) = Unit {0}
IsAnswer WriteFault = Unit {0}
IsAnswer NoMemory = Unit {0}
IsAnswer ShelfFault = Unit {0}
IsAnswer other = IsEndOfInput other

-- the fact, where no packet was taken: the box was not had, or there was no memory
abbrev pub NoneWalked : Status → Type 0 → Type 0
NoneWalked (BoxRefused field) fact = fact
NoneWalked (Absent name) fact = fact
NoneWalked NoMemory fact = fact
NoneWalked ShelfFault fact = fact
NoneWalked other fact = Unit {0}

-- The shelf told a box, and this holds of it.
pub record ForBox (held : Option (List File)) (Fact : Receiver → Type 0) : Type 0 where
  pub box_file : BoxFile
  pub tells : TellsBox held box_file
  pub fact : Fact (receiver_of box_file)

-- The output got only a prefix: of the lines of sections, where they are shown, or, at the end of the input, of all lines.
abbrev pub PutsPart : Bool → Receiver → Option (List ℕ) → Option (List ℕ) → Option (List ℕ) → Option (List ℕ) → Type 0
PutsPart shows me left left_after got got_after =
    ((shows ≡ true) × PutsPrefix (text_of shows me) left left_after got got_after)
    ⊎ (PutsPrefix (whole_text shows me) left left_after got got_after × IsAtEnd left_after)
