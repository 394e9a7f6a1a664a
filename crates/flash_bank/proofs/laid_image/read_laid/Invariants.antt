use Rattle.std.proofs.Common.{◌≡◌, ◌-◌, ◌≤◌, length}
use Rattle.flash_dev.specs.Changes.{Holds}
use Rattle.flash_bank.specs.Laid.{laid_from}
use Rattle.flash_bank.specs.Runs.{OnlyReads}
use Rattle.flash_bank.proofs.laid_image.read_laid.Given as goal

abbrev pub invariant-loop-slot : goal.invariant-loop-slot
invariant-loop-slot g l = record {
  most : l.slot ≤ 16;
  size : length l.piece ≡ length l.fn.piece;
  bytes : g.F.Flash.tells → Holds (laid_from (g.F.Flash.contents l.fn.flash) l.bank.place l.bank.len l.bank.slots l.slot) l.at l.piece;
  reads : OnlyReads g.F.Flash.tells g.F.Flash.contents g.F.Flash.block_count g.F.Flash.block_len g.F.Flash.moment g.F.Flash.left_since l.fn.flash l.flash;
  faults : g.F.Flash.faults l.fn.flash ≤ g.F.Flash.faults l.flash;
}

abbrev pub decreases-loop-slot : goal.decreases-loop-slot
decreases-loop-slot g l = 16 - l.slot
