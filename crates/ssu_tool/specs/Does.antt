-- What each command does, by what the words ask for. An object that a command has no use for is as it was. The places of a
-- group that `replay` collects are staged in the spare bank, and in layout 2 a later replay finds those of a group that fits its journal.
use Rattle.std.specs.Prelude.{true, false, Some, None}
use Rattle.flash_bank.specs.Seen.{FlashSeen}
use Rattle.ssu_io.specs.Seen.{ShelfSeen, SinkSeen, SourceSeen}
use Rattle.ssu_status.specs.declared.status.Status.{Status}
use Rattle.ssu_status.specs.Words.{Task, ToHear, ToLoad, ToFind, ToShow, ToBuild, ToBlank, ToFormat, ToBoot, ToMigrate}
use Rattle.ssu_status.specs.Words.{ToReplay, ToAir, ToAudit, ToAuditWithNotice, ToSample}
use Rattle.tool_hear.specs.Does.{HearDoes}
use Rattle.tool_load.specs.Does.{LoadDoes}
use Rattle.tool_find.specs.Does.{FindDoes}
use Rattle.tool_build.specs.Does.{BuildDoes}
use Rattle.tool_flash.specs.Does.{BlankDoes, BootDoes, FormatDoes, MigrateDoes}
use Rattle.tool_replay.specs.Replay.{Replays}
use Rattle.tool_air.specs.Does.{AirDoes}
use Rattle.tool_audit.specs.Does.{AuditDoes}
use Rattle.tool_sample.specs.Does.{SampleDoes}

abbrev pub Does : Task → Status → ShelfSeen → SourceSeen → FlashSeen → SinkSeen → SinkSeen → Type 0
Does (ToHear pid) result shelf air flash made out =
    HearDoes pid result air out × (shelf.same × (flash.same × made.same))
Does (ToLoad pid) result shelf air flash made out =
    LoadDoes pid result air made out × (shelf.same × flash.same)
Does ToFind result shelf air flash made out =
    FindDoes false result shelf air out × (flash.same × made.same)
Does ToShow result shelf air flash made out =
    FindDoes true result shelf air out × (flash.same × made.same)
Does ToBuild result shelf air flash made out =
    BuildDoes result shelf made out × (air.same × flash.same)
Does (ToBlank blocks) result shelf air flash made out =
    BlankDoes blocks result made out × (shelf.same × (air.same × flash.same))
Does (ToFormat name) result shelf air flash made out =
    FormatDoes name result shelf flash out × (air.same × made.same)
Does ToBoot result shelf air flash made out =
    BootDoes result flash made out × (shelf.same × air.same)
Does ToMigrate result shelf air flash made out =
    MigrateDoes result flash out × (shelf.same × (air.same × made.same))
Does ToReplay result shelf air flash made out =
    Replays true true result shelf air flash out × made.same
Does ToAir result shelf air flash made out =
    AirDoes result shelf air made out × flash.same
Does (ToAudit pid) result shelf air flash made out =
    AuditDoes pid None result air out × (shelf.same × (flash.same × made.same))
Does (ToAuditWithNotice pid notice) result shelf air flash made out =
    AuditDoes pid (Some notice) result air out × (shelf.same × (flash.same × made.same))
Does (ToSample number) result shelf air flash made out =
    SampleDoes number result out × (shelf.same × (air.same × (flash.same × made.same)))
