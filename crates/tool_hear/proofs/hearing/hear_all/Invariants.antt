use Rattle.std.proofs.Common.{◌-◌, ◌≤◌}
use Rattle.ts_input.specs.Packets.{most_packets}
use Rattle.tool_hear.proofs.HearLemmas.{HeardSoFar}
use Rattle.tool_hear.proofs.hearing.hear_all.Given as goal

abbrev pub invariant-loop-hearer : goal.invariant-loop-hearer
invariant-loop-hearer g l = record {
  heard : HeardSoFar l.fn.pid l.input.count l.hearer (g.A.Source.left l.fn.air) (g.A.Source.left l.air) (g.T.Sink.contents l.fn.out) (g.T.Sink.contents l.out) l.waiting;
  within : l.input.count ≤ most_packets;
  air_later : g.A.Source.faults l.fn.air ≤ g.A.Source.faults l.air;
  out_later : g.T.Sink.faults l.fn.out ≤ g.T.Sink.faults l.out;
}

abbrev pub decreases-loop-hearer : goal.decreases-loop-hearer
decreases-loop-hearer g l = most_packets - l.input.count
