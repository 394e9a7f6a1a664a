use Rattle.std.proofs.Common.{◌-◌, ◌≤◌}
use Rattle.ts_input.specs.Packets.{most_packets}
use Rattle.tool_load.proofs.PacketLaws.{SoFar}
use Rattle.tool_load.proofs.collect.collect.Given as goal

abbrev pub invariant-loop-alloc : goal.invariant-loop-alloc
invariant-loop-alloc g l = record {
  so_far : SoFar l.fn.pid l.input.count l.hearer l.progress (g.A.Source.left l.fn.air) (g.A.Source.left l.air);
  within : l.input.count ≤ most_packets;
  later : g.A.Source.faults l.fn.air ≤ g.A.Source.faults l.air;
}

abbrev pub decreases-loop-alloc : goal.decreases-loop-alloc
decreases-loop-alloc g l = most_packets - l.input.count
