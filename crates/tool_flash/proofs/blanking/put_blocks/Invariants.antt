use Rattle.std.proofs.Common.{◌≤◌}
use Rattle.ssu_io.specs.Bytes.{Gains}
use Rattle.tool_flash.specs.Blank.{blank_bytes}
use Rattle.tool_flash.proofs.blanking.put_blocks.Given as goal

abbrev pub invariant-loop-k : goal.invariant-loop-k
invariant-loop-k g l = record {
  put : Gains (g.W.Sink.contents l.fn.made) (g.W.Sink.contents l.made) (blank_bytes l._k);
  faults : g.W.Sink.faults l.fn.made ≤ g.W.Sink.faults l.made;
}
