use Rattle.std.proofs.Common.{◌≤◌, ◌-◌, ◌*◌, IsSome}
use Rattle.ts_input.specs.Packets.{most_packets}
use Rattle.air_channel.proofs.AirLemmas.{AirSoFar}
use Rattle.air_channel.proofs.channel.air.Given as goal

abbrev pub invariant-loop-input : goal.invariant-loop-input
invariant-loop-input g l = record {
  aired : AirSoFar l.fn.script l.input.count l.on_air.kept l.on_air.count (g.A.Source.left l.fn.air) (g.A.Source.left l.air) (g.W.Sink.contents l.fn.sink) (g.W.Sink.contents l.sink) l.on_air.waiting;
  first : IsSome l.on_air.kept → 1 ≤ l.input.count;
  few : l.on_air.count ≤ 4 * l.input.count;
  within : l.input.count ≤ most_packets;
  air_later : g.A.Source.faults l.fn.air ≤ g.A.Source.faults l.air;
  sink_later : g.W.Sink.faults l.fn.sink ≤ g.W.Sink.faults l.sink;
}

abbrev pub decreases-loop-input : goal.decreases-loop-input
decreases-loop-input g l = most_packets - l.input.count
