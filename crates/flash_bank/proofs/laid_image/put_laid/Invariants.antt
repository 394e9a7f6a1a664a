use Rattle.std.proofs.Common.{◌-◌, ◌≤◌}
use Rattle.flash_layout.specs.Pairs.{part}
use Rattle.flash_bank.specs.Laid.{laid_text}
use Rattle.flash_bank.specs.Runs.{OnlyReads}
use Rattle.ssu_io.specs.Bytes.{Gains}
use Rattle.flash_bank.proofs.laid_image.put_laid.Given as goal

abbrev pub invariant-loop-done : goal.invariant-loop-done
invariant-loop-done g l = record {
  fits : l.done ≤ l.len;
  put : g.F.Flash.tells → Gains (g.W.Sink.contents l.fn.sink) (g.W.Sink.contents l.sink) (part (laid_text l.bank (g.F.Flash.contents l.fn.flash)) 0 l.done);
  reads : OnlyReads g.F.Flash.tells g.F.Flash.contents g.F.Flash.block_count g.F.Flash.block_len g.F.Flash.moment g.F.Flash.left_since l.fn.flash l.flash;
  faults : g.F.Flash.faults l.fn.flash ≤ g.F.Flash.faults l.flash;
  sink_faults : g.W.Sink.faults l.fn.sink ≤ g.W.Sink.faults l.sink;
}

abbrev pub decreases-loop-done : goal.decreases-loop-done
decreases-loop-done g l = l.len - l.done
