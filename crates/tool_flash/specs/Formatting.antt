-- What `format` is told, and what it does.
use Rattle.std.specs.Prelude.{◌≡◌, ◌↔◌, ◌⊎◌, ℕ, ◌<◌, List, length, Option}
use Rattle.box_file.specs.declared.file.BoxFile.{BoxFile}
use Rattle.flash_bank.specs.Format.{Formats, first_record, layout_for}
use Rattle.flash_layout.specs.Layout.{Geometry as Shape, IsInLimits, bank_len}
use Rattle.flash_bank.specs.Seen.{FlashSeen}
use Rattle.ssu_compat.specs.declared.rule.SwId.{SwId}
use Rattle.ssu_line.specs.Lines.{formatted_line}
use Rattle.ssu_io.specs.Files.{File, Has}
use Rattle.ssu_io.specs.Seen.{SinkSeen}
use Rattle.ssu_status.specs.declared.status.Status.{Status}
use Rattle.ssu_status.specs.declared.status.Status.TheVariants.{Done, Absent, BoxRefused, FlashFault, Geometry, NoFit}
use Rattle.ssu_status.specs.declared.status.Status.TheVariants.{NoMemory, ShelfFault, WriteFault}
use Rattle.tool_box.specs.Boxes.{TellsBox, box_name}
use Rattle.tool_box.specs.Fetching.{Lacks}

-- the shelf has a box file with this software, and a file of this name with the image
pub record TellsFiles (held : Option (List File)) (name : List ℕ) (software : SwId) (image : List ℕ) : Type 0 where
  pub box_file : BoxFile
  pub tells : TellsBox held box_file
  pub software_is : software ≡ box_file.software
  pub has : Has held name image

-- the first of the two files that the shelf does not have
abbrev pub IsFirstAbsent : Option (List File) → List ℕ → List ℕ → Type 0
IsFirstAbsent held name told =
    ((told ≡ box_name) × Lacks held box_name)
    ⊎ ((told ≡ name) × ((box_file : BoxFile) × TellsBox held box_file) × Lacks held name)

-- the answer for an image: exactly where the flash is out of the limits, and exactly where the image is longer than a bank
pub record Judged (g : Shape) (image : List ℕ) (status : Status) : Type 0 where
  pub geometry : (status ≡ Geometry) ↔ (IsInLimits g → ⊥)
  pub no_fit : (status ≡ NoFit) ↔ (IsInLimits g × (bank_len g (layout_for g) < length image))

pub record Judges (held : Option (List File)) (name : List ℕ) (g : Shape) (status : Status) : Type 0 where
  pub software : SwId
  pub image : List ℕ
  pub told : TellsFiles held name software image
  pub judged : Judged g image status

-- The flash is formatted with this software and image, and of the line this was printed.
pub record Puts (Prints : Option (List ℕ) → Option (List ℕ) → List ℕ → Type 0) (software : SwId) (image : List ℕ)
    (flash : FlashSeen) (out : SinkSeen) : Type 0 where
  pub formats : flash.tells
      → Formats flash.blocks (first_record (layout_for flash.blocks) (length image) software) image flash.contents flash.contents_after
  pub prints : Prints out.got out.got_after (formatted_line (length image))

-- The flash is formatted with the files of the shelf.
pub record FormatsFile (Prints : Option (List ℕ) → Option (List ℕ) → List ℕ → Type 0) (held : Option (List File))
    (name : List ℕ) (flash : FlashSeen) (out : SinkSeen) : Type 0 where
  pub software : SwId
  pub image : List ℕ
  pub told : TellsFiles held name software image
  pub puts : Puts Prints software image flash out

-- the files were not read for one of these reasons
abbrev pub IsFilesRefusal : Status → Type 0
IsFilesRefusal (Absent name) = Unit {0}
IsFilesRefusal (BoxRefused field) = Unit {0}
IsFilesRefusal ShelfFault = Unit {0}
IsFilesRefusal NoMemory = Unit {0}
IsFilesRefusal other = ⊥

-- and this came behind them
abbrev pub IsPutAnswer : Status → Type 0
IsPutAnswer Done = Unit {0}
IsPutAnswer Geometry = Unit {0}
IsPutAnswer NoFit = Unit {0}
IsPutAnswer FlashFault = Unit {0}
IsPutAnswer WriteFault = Unit {0}
IsPutAnswer other = ⊥
