-- A flash that was formatted, the line of it, and the files that it was formatted with.
use Rattle.std.proofs.Common.{◌≡◌, ℕ, List, length, ap, refl, subst, ◌∙◌}
use Rattle.std.specs.Prelude.{Option, Some, None, IsSome, Ok, Err}
use Rattle.box_file.specs.declared.file.BoxFile.{BoxFile}
use Rattle.flash_bank.specs.Format.{Formats, first_record, layout_for}
use Rattle.flash_bank.specs.Seen.{FlashSeen}
use Rattle.flash_bank.specs.declared.record.Record.{Record}
use Rattle.ssu_compat.specs.declared.rule.SwId.{SwId}
use Rattle.ssu_io.specs.Files.{File}
use Rattle.ssu_io.specs.Seen.{SinkSeen}
use Rattle.ssu_line.specs.Lines.{formatted_line}
use Rattle.ssu_status.specs.Status.{OnAbsent}
use Rattle.ssu_status.specs.declared.status.Status.{Status}
use Rattle.ssu_status.specs.declared.status.Status.TheVariants.{Absent, NoMemory, ShelfFault}
use Rattle.tool_box.specs.Fetching.{HasNone, IsValueOrFails, SaysAbsentOrFails, TellsAbsence}
use Rattle.tool_flash.specs.Formatting.{Puts}

pub puts : (Prints : Option (List ℕ) → Option (List ℕ) → List ℕ → Type 0) (software : SwId) (slice image : List ℕ)
    (flash : FlashSeen) (out : SinkSeen) (head : Record) (line : List ℕ)
    → slice ≡ image → head ≡ first_record (layout_for flash.blocks) (length slice) software → line ≡ formatted_line head.length
    → (flash.tells → Formats flash.blocks head slice flash.contents flash.contents_after) → Prints out.got out.got_after line
    → Puts Prints software image flash out
puts Prints software slice image flash out head line same is printed formats prints =
    subst (λ (bytes : List ℕ). Puts Prints software bytes flash out) same record {
      formats = λ told. subst (λ (h : Record). Formats flash.blocks h slice flash.contents flash.contents_after) is (formats told);
      prints = subst (Prints out.got out.got_after) (printed ∙ ap (λ (h : Record). formatted_line h.length) is) prints;
    }

-- ---- a file that a shelf does not have, where it tells its files

pub is_told : (held : Option (List File)) (name : List ℕ) → HasNone held name → IsSome held
is_told None name none = absurd none
is_told (Some files) name none = refl

-- no file was read before it
pub box_or_fails : (b : BoxFile) (name : List ℕ) (s : Status) → IsValueOrFails b (Err s) → SaysAbsentOrFails name s
box_or_fails b name ShelfFault is = tt
box_or_fails b name NoMemory is = tt
box_or_fails b name other is = absurd is

pub file_absent : (T : Type 0) (held : Option (List File)) (name : List ℕ) (s : Status) → HasNone held name
    → TellsAbsence {T = T} held name (Err s) → OnAbsent s (λ told. told ≡ name) → SaysAbsentOrFails name s
file_absent T None name s none tells is = absurd none
file_absent T (Some files) name (Absent x) none tells is = is
file_absent T (Some files) name ShelfFault none tells is = tt
file_absent T (Some files) name NoMemory none tells is = tt
file_absent T (Some files) name other none tells is = absurd (tells.1 none)

pub file_there : {T : Type 0} (held : Option (List File)) (name : List ℕ) (x : T) → TellsAbsence held name (Ok x) → HasNone held name → ⊥
file_there None name x tells none = none
file_there (Some files) name x tells none = tells.1 none
