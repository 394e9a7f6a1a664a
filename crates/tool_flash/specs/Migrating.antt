-- What `migrate` does, and prints.
use Rattle.std.specs.Prelude.{◌≡◌, ◌⊎◌, ℕ, List, Option}
use Rattle.flash_bank.specs.Migrate.{CanMigrate, IsMigrated, IsWornOut, LacksRoom, Migrates}
use Rattle.flash_bank.specs.Seen.{FlashSeen}
use Rattle.flash_bank.specs.Sound.{IsSound}
use Rattle.flash_bank.specs.declared.migration.Migrated.{Migrated}
use Rattle.flash_bank.specs.declared.migration.Migrated.TheVariants.{Now, Already}
use Rattle.flash_bank.specs.declared.record.Record.{Record}
use Rattle.flash_layout.specs.Layout.{Geometry as Shape}
use Rattle.ssu_io.specs.Seen.{SinkSeen}
use Rattle.ssu_line.specs.Lines.{already_line, migrated_line}
use Rattle.ssu_status.specs.declared.status.Status.{Status}
use Rattle.ssu_status.specs.declared.status.Status.TheVariants.{Done, FlashFault, Foreign, NoFit, Worn, WriteFault}

abbrev pub migrated_text : Migrated → List ℕ
migrated_text (Now head) = migrated_line head.length head.number
migrated_text (Already head) = already_line head.number

-- The flash has layout 2 now, under this record over the former image. Or it had it already under this one, and was only read.
abbrev pub HasLayoutTwo : FlashSeen → Migrated → Type 0
HasLayoutTwo flash (Now new) = flash.tells → Migrates flash.blocks new flash.contents flash.contents_after
HasLayoutTwo flash (Already head) = (flash.tells → IsMigrated flash.blocks flash.contents head) × flash.only_reads

-- So it is, and of the line of it this was printed.
pub record MigratesFlash (Prints : Option (List ℕ) → Option (List ℕ) → List ℕ → Type 0) (flash : FlashSeen) (out : SinkSeen)
    : Type 0 where
  pub migrated : Migrated
  pub has : HasLayoutTwo flash migrated
  pub prints : Prints out.got out.got_after (migrated_text migrated)

-- it is this answer, or the flash failed
abbrev pub IsOrFails : Status → Status → Type 0
IsOrFails wanted status = (status ≡ wanted) ⊎ (status ≡ FlashFault)

-- the line was put, or `out` or the flash failed
abbrev pub IsPutOrFails : Status → Type 0
IsPutOrFails Done = Unit {0}
IsPutOrFails WriteFault = Unit {0}
IsPutOrFails FlashFault = Unit {0}
IsPutOrFails other = ⊥

-- The cause of an answer brings it about, unless the flash or `out` failed.
pub record MigrateDecides (g : Shape) (contents : List ℕ) (status : Status) : Type 0 where
  pub foreign : (IsSound g contents → ⊥) → IsOrFails Foreign status
  pub worn : (head : Record) → IsWornOut g contents head → IsOrFails Worn status
  pub no_fit : (head : Record) → LacksRoom g contents head → IsOrFails NoFit status
  pub done : (head : Record) → IsMigrated g contents head ⊎ CanMigrate g contents head → IsPutOrFails status
