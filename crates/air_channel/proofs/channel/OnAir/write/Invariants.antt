use Rattle.std.proofs.Common.{◌≡◌, ◌+◌, ◌≤◌, replicate}
use Rattle.std.specs.List.{concat}
use Rattle.ssu_io.specs.SinkBuffer.{MovesOn}
use Rattle.air_channel.proofs.channel.OnAir.write.Given as goal

abbrev pub invariant-loop : goal.invariant-loop
invariant-loop g l = record {
  moves : MovesOn (g.W.Sink.contents l.initial.sink) (g.W.Sink.contents l.sink) l.initial.self.waiting (concat (replicate l.counter l.packet)) l.self.waiting;
  kept : l.self.kept ≡ l.initial.self.kept;
  count : l.self.count ≡ l.initial.self.count + l.counter;
  later : g.W.Sink.faults l.initial.sink ≤ g.W.Sink.faults l.sink;
}
