use Rattle.std.proofs.Common.{arith}
use Rattle.flash_dev.specs.Planned.{planned}
use Rattle.flash_dev.proofs.PlannedLemmas.{still_over}
use Rattle.flash_dev.proofs.schedule.Schedule.next_change.Goals as goal

pub returns-clause-over : goal.returns-clause-over
returns-clause-over c is = still_over (planned c.args.self.now) c.saturating_add-self.result (omega arith) is
