use Rattle.std.proofs.Common.{◌≤◌}
use Rattle.std.specs.List.{concat}
use Rattle.ts_section.specs.Cut.{packets_left, cut_packets}
use Rattle.head_mux.proofs.Underway.{Underway}
use Rattle.head_mux.proofs.packing.put_section.Given as goal

-- Of all packets those that the iterator has are left.
abbrev pub invariant-loop-packet : goal.invariant-loop-packet
invariant-loop-packet g l = record {
  under : Underway (g.W.Sink.contents l.fn.sink) (g.W.Sink.contents l.sink) l.fn.buffer l.buffer
      (concat (packets_left l.packet-iterator)) (concat (cut_packets l.fn.section l.fn.pid l.fn.counter));
  later : g.W.Sink.faults l.fn.sink ≤ g.W.Sink.faults l.sink;
}
