use Rattle.std.proofs.Common.{◌≤◌, take, map}
use Rattle.std.specs.List.{concat}
use Rattle.ssu_io.specs.SinkBuffer.{MovesOn}
use Rattle.tool_find.specs.Lines.{section_line}
use Rattle.tool_find.proofs.lines.put_sections.Given as goal

abbrev pub invariant-loop-k : goal.invariant-loop-k
invariant-loop-k g l = record {
  moves : MovesOn (g.T.Sink.contents l.initial.out) (g.T.Sink.contents l.out) l.initial.waiting
      (concat (take l.k (map (section_line l.fn.number l.fn.pid) l.each))) l.waiting;
  later : g.T.Sink.faults l.initial.out ≤ g.T.Sink.faults l.out;
}
