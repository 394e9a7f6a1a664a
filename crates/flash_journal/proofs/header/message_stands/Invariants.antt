use Rattle.std.proofs.Common.{◌+◌, ◌-◌, ◌≤◌, length}
use Rattle.flash_bank.specs.Bank.{IsLent, spare_journal}
use Rattle.flash_journal.specs.Looks.{Looks}
use Rattle.flash_journal.proofs.PairedLaws.{FrontStands}
use Rattle.flash_journal.proofs.header.message_stands.Given as goal

abbrev pub invariant-loop-done : goal.invariant-loop-done
invariant-loop-done g l = record {
  fits : l.done ≤ length l.message;
  lent : IsLent g.F.Flash.tells g.F.Flash.contents g.F.Flash.block_count g.F.Flash.block_len l.bank l.flash;
  so_far : g.F.Flash.tells → FrontStands (g.F.Flash.contents l.fn.flash) (spare_journal l.fn.bank + 256) l.message l.done;
  looks : Looks g.F.Flash.tells g.F.Flash.contents g.F.Flash.block_count g.F.Flash.block_len g.F.Flash.moment g.F.Flash.left_since l.fn.flash l.fn.bank l.flash l.bank;
  faults : g.F.Flash.faults l.fn.flash ≤ g.F.Flash.faults l.flash;
}

abbrev pub decreases-loop-done : goal.decreases-loop-done
decreases-loop-done g l = length l.message - l.done
