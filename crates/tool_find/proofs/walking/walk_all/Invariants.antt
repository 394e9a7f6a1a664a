use Rattle.std.proofs.Common.{ℕ, ◌-◌, ◌≤◌, []}
use Rattle.route_tables.specs.Values.{Receiver}
use Rattle.ts_input.specs.Packets.{most_packets}
use Rattle.tool_find.specs.Lines.{Walks}
use Rattle.tool_find.proofs.Printing.{WalkedSoFar}
use Rattle.tool_find.proofs.walking.walk_all.Given as goal

abbrev pub invariant-loop-walk : goal.invariant-loop-walk
invariant-loop-walk g l = record {
  walked : (me : Receiver) → Walks me l.fn.walk [] → WalkedSoFar l.fn.shows me l.input.count l.walk
      (g.A.Source.left l.fn.air) (g.A.Source.left l.air) (g.T.Sink.contents l.fn.out) (g.T.Sink.contents l.out) l.waiting;
  within : l.input.count ≤ most_packets;
  air_later : g.A.Source.faults l.fn.air ≤ g.A.Source.faults l.air;
  out_later : g.T.Sink.faults l.fn.out ≤ g.T.Sink.faults l.out;
}

abbrev pub decreases-loop-walk : goal.decreases-loop-walk
decreases-loop-walk g l = most_packets - l.input.count
