use Rattle.std.proofs.Common.{◌+◌, ◌-◌, ◌≤◌}
use Rattle.flash_bank.specs.Bank.{IsLent}
use Rattle.flash_dev.specs.Changes.{IsBlank}
use Rattle.flash_journal.specs.Looks.{Looks}
use Rattle.flash_journal.specs.Side.{side_place}
use Rattle.flash_journal.proofs.blank.is_blank.Given as goal

abbrev pub invariant-loop-done : goal.invariant-loop-done
invariant-loop-done g l = record {
  fits : l.done ≤ l.len;
  lent : IsLent g.F.Flash.tells g.F.Flash.contents g.F.Flash.block_count g.F.Flash.block_len l.bank l.flash;
  so_far : g.F.Flash.tells → IsBlank (g.F.Flash.contents l.fn.flash) (side_place l.side l.fn.bank + l.at) l.done;
  looks : Looks g.F.Flash.tells g.F.Flash.contents g.F.Flash.block_count g.F.Flash.block_len g.F.Flash.moment g.F.Flash.left_since l.fn.flash l.fn.bank l.flash l.bank;
  faults : g.F.Flash.faults l.fn.flash ≤ g.F.Flash.faults l.flash;
}

abbrev pub decreases-loop-done : goal.decreases-loop-done
decreases-loop-done g l = l.len - l.done
