use Rattle.std.proofs.Common.{◌≡◌, ◌+◌, ◌-◌, ◌≤◌}
use Rattle.ts_crc.specs.Crc.{crc_of}
use Rattle.flash_bank.specs.Bank.{IsLent, is_begun, spare_bank}
use Rattle.flash_layout.specs.Pairs.{part}
use Rattle.flash_bank.specs.Runs.{OnlyReads}
use Rattle.flash_stage.specs.Leaving.{SameBank}
use Rattle.flash_stage.proofs.read_back.crc_of_range.Given as goal

abbrev pub invariant-loop-done : goal.invariant-loop-done
invariant-loop-done g l = record {
  fits : l.done ≤ l.len;
  lent : IsLent g.F.Flash.tells g.F.Flash.contents g.F.Flash.block_count g.F.Flash.block_len l.bank l.flash;
  crc : g.F.Flash.tells → l.register ≡ crc_of (part (g.F.Flash.contents l.fn.flash) (spare_bank l.fn.bank + l.at) l.done);
  reads : OnlyReads g.F.Flash.tells g.F.Flash.contents g.F.Flash.block_count g.F.Flash.block_len g.F.Flash.moment g.F.Flash.left_since l.fn.flash l.flash;
  begun : is_begun l.bank ≡ is_begun l.fn.bank;
  same_bank : SameBank l.fn.bank l.bank;
  faults : g.F.Flash.faults l.fn.flash ≤ g.F.Flash.faults l.flash;
}

abbrev pub decreases-loop-done : goal.decreases-loop-done
decreases-loop-done g l = l.len - l.done
