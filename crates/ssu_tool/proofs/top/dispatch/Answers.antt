use Rattle.std.proofs.Common.{refl, subst}
use Rattle.ssu_status.specs.Words.{IsInRange, task_of}
use Rattle.ssu_status.specs.declared.command.Command.{Command}
use Rattle.ssu_tool.proofs.top.dispatch.Goals as goal

pub returns-in-Hear-clause-does : goal.returns-in-Hear-clause-does
returns-in-Hear-clause-does g c = rw c.in-Hear.is (c.hear.ensures.does, (refl, (refl, refl)))

pub returns-in-Load-clause-does : goal.returns-in-Load-clause-does
returns-in-Load-clause-does g c = rw c.in-Load.is (c.load.ensures.does, (refl, refl))

pub returns-in-Find-clause-does : goal.returns-in-Find-clause-does
returns-in-Find-clause-does g c = rw c.in-Find.is (c.find.ensures.does, (refl, refl))

pub returns-in-Show-clause-does : goal.returns-in-Show-clause-does
returns-in-Show-clause-does g c = rw c.in-Show.is (c.show.ensures.does, (refl, refl))

pub returns-in-Build-clause-does : goal.returns-in-Build-clause-does
returns-in-Build-clause-does g c = rw c.in-Build.is (c.build.ensures.does, (refl, refl))

pub returns-in-Blank-clause-does : goal.returns-in-Blank-clause-does
returns-in-Blank-clause-does g c = rw c.in-Blank.is (c.blank.ensures.does, (refl, (refl, refl)))

pub returns-in-Format-clause-does : goal.returns-in-Format-clause-does
returns-in-Format-clause-does g c = rw c.in-Format.is (c.format.ensures.does, (refl, refl))

pub returns-in-Boot-clause-does : goal.returns-in-Boot-clause-does
returns-in-Boot-clause-does g c = rw c.in-Boot.is (c.boot.ensures.does, (refl, refl))

pub returns-in-Migrate-clause-does : goal.returns-in-Migrate-clause-does
returns-in-Migrate-clause-does g c = rw c.in-Migrate.is (c.migrate.ensures.does, (refl, (refl, refl)))

pub returns-in-Replay-clause-does : goal.returns-in-Replay-clause-does
returns-in-Replay-clause-does g c = rw c.in-Replay.is (c.replay.ensures.replays, refl)

pub returns-in-Air-clause-does : goal.returns-in-Air-clause-does
returns-in-Air-clause-does g c = rw c.in-Air.is (c.air.ensures.does, refl)

pub returns-in-Audit-clause-does : goal.returns-in-Audit-clause-does
returns-in-Audit-clause-does g c = rw c.in-Audit.is (c.audit.ensures.does, (refl, (refl, refl)))

pub returns-in-AuditWithNotice-clause-does : goal.returns-in-AuditWithNotice-clause-does
returns-in-AuditWithNotice-clause-does g c = rw c.in-AuditWithNotice.is (c.audit-in-AuditWithNotice.ensures.does, (refl, (refl, refl)))

pub sample-requires : goal.sample-requires
sample-requires g c = subst (λ (command : Command). IsInRange (task_of command)) c.in-Sample.is c.requires

pub returns-in-Sample-clause-does : goal.returns-in-Sample-clause-does
returns-in-Sample-clause-does g c = rw c.in-Sample.is (c.sample.ensures.does, (refl, (refl, (refl, refl))))
