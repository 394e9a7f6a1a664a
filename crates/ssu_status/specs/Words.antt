-- The words of the command line: a folder, a command and its arguments. A number is written in decimal digits, without
-- a sign and without a leading zero but in 0.
use Rattle.std.specs.Prelude.{◌≡◌, ◌≢◌, ℕ, ◌<◌, ◌≤◌, List, [], ◌∷◌, IsTrue, codes, decimal}
use Rattle.ssu_io.specs.FileName.{is_file_name}
use Rattle.ssu_status.specs.declared.command.Command.{Command}
use Rattle.ssu_status.specs.declared.command.Command.TheVariants.{Hear, Load, Find, Show, Build, Blank, Format, Boot}
use Rattle.ssu_status.specs.declared.command.Command.TheVariants.{Migrate, Replay, Air, Audit, AuditWithNotice, Sample}

-- What the words ask for. A file is given by its name.
pub data Task : Type 0 where
  ToHear : ℕ → Task
  ToLoad : ℕ → Task
  ToFind : Task
  ToShow : Task
  ToBuild : Task
  ToBlank : ℕ → Task
  ToFormat : List ℕ → Task
  ToBoot : Task
  ToMigrate : Task
  ToReplay : Task
  ToAir : Task
  ToAudit : ℕ → Task
  ToAuditWithNotice : ℕ → ℕ → Task
  ToSample : ℕ → Task

abbrev pub task_of : Command → Task
task_of (Hear pid) = ToHear pid
task_of (Load pid) = ToLoad pid
task_of Find = ToFind
task_of Show = ToShow
task_of Build = ToBuild
task_of (Blank blocks) = ToBlank blocks
task_of (Format name) = ToFormat name.bytes
task_of Boot = ToBoot
task_of Migrate = ToMigrate
task_of Replay = ToReplay
task_of Air = ToAir
task_of (Audit pid) = ToAudit pid
task_of (AuditWithNotice pid notice) = ToAuditWithNotice pid notice
task_of (Sample number) = ToSample number

-- the words behind the folder
abbrev pub words_of : Task → List (List ℕ)
words_of (ToHear pid) = codes "hear" ∷ decimal pid ∷ []
words_of (ToLoad pid) = codes "load" ∷ decimal pid ∷ []
words_of ToFind = codes "find" ∷ []
words_of ToShow = codes "show" ∷ []
words_of ToBuild = codes "build" ∷ []
words_of (ToBlank blocks) = codes "blank" ∷ decimal blocks ∷ []
words_of (ToFormat name) = codes "format" ∷ name ∷ []
words_of ToBoot = codes "boot" ∷ []
words_of ToMigrate = codes "migrate" ∷ []
words_of ToReplay = codes "replay" ∷ []
words_of ToAir = codes "air" ∷ []
words_of (ToAudit pid) = codes "audit" ∷ decimal pid ∷ []
words_of (ToAuditWithNotice pid notice) = codes "audit" ∷ decimal pid ∷ decimal notice ∷ []
words_of (ToSample number) = codes "sample" ∷ decimal number ∷ []

-- PIDs are below 8192, a flash has 4 to 65,536 blocks, the number of a sample is at most 999,999, and the name of a file has its
-- form. A notice is not on the PID of its carousel.
abbrev pub IsInRange : Task → Type 0
IsInRange (ToHear pid) = pid < 8192
IsInRange (ToLoad pid) = pid < 8192
IsInRange ToFind = Unit {0}
IsInRange ToShow = Unit {0}
IsInRange ToBuild = Unit {0}
IsInRange (ToBlank blocks) = (4 ≤ blocks) × (blocks ≤ 65536)
IsInRange (ToFormat name) = IsTrue (is_file_name name)
IsInRange ToBoot = Unit {0}
IsInRange ToMigrate = Unit {0}
IsInRange ToReplay = Unit {0}
IsInRange ToAir = Unit {0}
IsInRange (ToAudit pid) = pid < 8192
IsInRange (ToAuditWithNotice pid notice) = (pid < 8192) × ((notice < 8192) × (pid ≢ notice))
IsInRange (ToSample number) = number ≤ 999999

-- the words are a folder and what asks for this
pub record IsCommandLine (words : List (List ℕ)) (task : Task) : Type 0 where
  pub folder : List ℕ
  pub spelled : words ≡ folder ∷ words_of task
  pub in_range : IsInRange task

-- the name of the file that is made in the folder, or nothing where none is made
abbrev pub file_made_by : Task → List ℕ
file_made_by (ToHear pid) = []
file_made_by (ToLoad pid) = codes "group.bin"
file_made_by ToFind = []
file_made_by ToShow = []
file_made_by ToBuild = codes "air.ts"
file_made_by (ToBlank blocks) = codes "flash.bin"
file_made_by (ToFormat name) = []
file_made_by ToBoot = codes "image.bin"
file_made_by ToMigrate = []
file_made_by ToReplay = []
file_made_by ToAir = codes "aired.ts"
file_made_by (ToAudit pid) = []
file_made_by (ToAuditWithNotice pid notice) = []
file_made_by (ToSample number) = []

-- the words are a command line that makes this file, or they make none
pub record MakesFile (words : List (List ℕ)) (name : List ℕ) : Type 0 where
  pub made : (task : Task) → IsCommandLine words task → name ≡ file_made_by task
  pub none : ((task : Task) → IsCommandLine words task → ⊥) → name ≡ []
