use Rattle.std.proofs.Common.{◌≤◌, take}
use Rattle.std.specs.List.{concat}
use Rattle.ssu_io.specs.SinkBuffer.{MovesOn}
use Rattle.tool_hear.proofs.hearing.put_sections.Given as goal

abbrev pub invariant-loop-k : goal.invariant-loop-k
invariant-loop-k g l = record {
  moves : MovesOn (g.T.Sink.contents l.initial.out) (g.T.Sink.contents l.out) l.initial.waiting (concat (take l.k l.each)) l.waiting;
  later : g.T.Sink.faults l.initial.out ≤ g.T.Sink.faults l.out;
}
