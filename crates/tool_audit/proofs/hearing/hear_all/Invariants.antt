use Rattle.std.proofs.Common.{◌-◌, ◌≤◌}
use Rattle.ts_input.specs.Packets.{most_packets}
use Rattle.tool_audit.proofs.PacketLaws.{SoFar}
use Rattle.tool_audit.proofs.hearing.hear_all.Given as goal

abbrev pub invariant-loop-pid : goal.invariant-loop-pid
invariant-loop-pid g l = record {
  so_far : SoFar l.fn.pid l.fn.notice l.input.count l.hearer l.audit (g.A.Source.left l.fn.air) (g.A.Source.left l.air);
  within : l.input.count ≤ most_packets;
  later : g.A.Source.faults l.fn.air ≤ g.A.Source.faults l.air;
}

abbrev pub decreases-loop-pid : goal.decreases-loop-pid
decreases-loop-pid g l = most_packets - l.input.count
