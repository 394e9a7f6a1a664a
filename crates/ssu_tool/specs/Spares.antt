-- The words `spares S` at the end of a command line.
use Rattle.std.specs.Prelude.{◌≡◌, ℕ, ◌≤◌, List, [], ◌∷◌, ◌++◌, Option, IfSome, Some, codes, decimal, option_map}
use Rattle.ssu_status.specs.Words.{IsCommandLine, Task, ToHear, ToLoad, ToFind, ToShow, ToBuild, ToBlank, ToFormat, ToBoot}
use Rattle.ssu_status.specs.Words.{ToMigrate, ToReplay, ToAir, ToAudit, ToAuditWithNotice, ToSample, file_made_by, task_of}
use Rattle.ssu_status.specs.declared.command.Command.{Command}

-- the words end in `spares S`, with S from 1 to 255, and these stand before them
pub record EndsInSpares (words front : List (List ℕ)) (spares : ℕ) : Type 0 where
  pub spelled : words ≡ front ++ codes "spares" ∷ decimal spares ∷ []
  pub some : 1 ≤ spares
  pub few : spares ≤ 255

-- what works on the flash
abbrev pub IsOnFlash : Task → Type 0
IsOnFlash (ToHear pid) = ⊥
IsOnFlash (ToLoad pid) = ⊥
IsOnFlash ToFind = ⊥
IsOnFlash ToShow = ⊥
IsOnFlash ToBuild = ⊥
IsOnFlash (ToBlank blocks) = ⊥
IsOnFlash (ToFormat name) = Unit {0}
IsOnFlash ToBoot = Unit {0}
IsOnFlash ToMigrate = Unit {0}
IsOnFlash ToReplay = Unit {0}
IsOnFlash ToAir = ⊥
IsOnFlash (ToAudit pid) = ⊥
IsOnFlash (ToAuditWithNotice pid notice) = ⊥
IsOnFlash (ToSample number) = ⊥

-- the words are a command line that asks for work on the flash
pub record AsksOfFlash (words : List (List ℕ)) (task : Task) : Type 0 where
  pub line : IsCommandLine words task
  pub flash : IsOnFlash task

-- The words ask for what this command does to the flash, and where it is none, they are no command line of that kind.
pub record IsFlashCommand (words : List (List ℕ)) (command : Option Command) : Type 0 where
  pub found : IfSome command (λ c. AsksOfFlash words (task_of c))
  pub only : (task : Task) → AsksOfFlash words task → option_map task_of command ≡ Some task

-- a command line of the flash with `spares S` behind it
pub record AsksSpared (words : List (List ℕ)) (task : Task) : Type 0 where
  pub front : List (List ℕ)
  pub spares : ℕ
  pub ends : EndsInSpares words front spares
  pub asks : AsksOfFlash front task

-- The words make this file in the folder, with or without `spares S` at their end, or they make none.
pub record MakesFile (words : List (List ℕ)) (name : List ℕ) : Type 0 where
  pub made : (task : Task) → IsCommandLine words task → name ≡ file_made_by task
  pub spared : (task : Task) → AsksSpared words task → name ≡ file_made_by task
  pub none : ((task : Task) → IsCommandLine words task → ⊥) → ((task : Task) → AsksSpared words task → ⊥) → name ≡ []
