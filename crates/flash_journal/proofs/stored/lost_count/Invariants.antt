use Rattle.std.proofs.Common.{◌≡◌, ◌-◌, ◌≤◌}
use Rattle.bank_kept.specs.Bank.{area_of_bank}
use Rattle.flash_bank.specs.Bank.{IsLent}
use Rattle.flash_journal.specs.Looks.{Looks}
use Rattle.flash_journal.proofs.LostLaws.{lost_below}
use Rattle.flash_journal.proofs.stored.lost_count.Given as goal

abbrev pub invariant-loop-number : goal.invariant-loop-number
invariant-loop-number g l = record {
  fits : l.number ≤ l.plan.places;
  few : l.count ≤ l.number;
  lent : IsLent g.F.Flash.tells g.F.Flash.contents g.F.Flash.block_count g.F.Flash.block_len l.bank l.flash;
  so_far : g.F.Flash.tells → l.count ≡ lost_below (area_of_bank l.fn.bank) l.plan (g.F.Flash.contents l.fn.flash) l.number;
  looks : Looks g.F.Flash.tells g.F.Flash.contents g.F.Flash.block_count g.F.Flash.block_len g.F.Flash.moment g.F.Flash.left_since l.fn.flash l.fn.bank l.flash l.bank;
  faults : g.F.Flash.faults l.fn.flash ≤ g.F.Flash.faults l.flash;
}

abbrev pub decreases-loop-number : goal.decreases-loop-number
decreases-loop-number g l = l.plan.places - l.number
