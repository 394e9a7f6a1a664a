use Rattle.std.proofs.Common.{◌≡◌, ℕ, ◌*◌, ◌<◌, ◌≤◌, [], map, Some, length}
use Rattle.std.specs.List.{concat}
use Rattle.ssu_io.specs.SinkBuffer.{MovesOn}
use Rattle.head_mux.specs.Sent.{dues_before, section_of_turn, sent}
use Rattle.head_mux.proofs.Order.{Counted}
use Rattle.head_mux.proofs.sending.send_turns.Given as goal

-- What the turns before this one sent, and how they left the due numbers and the counters.
abbrev pub invariant-loop-t : goal.invariant-loop-t
invariant-loop-t g l = record {
  moved : MovesOn (g.W.Sink.contents l.fn.sink) (g.W.Sink.contents l.sink) [] (concat (sent l.list l.t)) l.buffer;
  count : l.count ≡ length (sent l.list l.t);
  few : l.count ≤ 23 * l.t;
  dues : l.wheel.dues ≡ map (λ due. Some due) (dues_before l.list l.t);
  pids : length l.counters ≡ 8192;
  counted : Counted l.list l.t l.counters;
  bounds : (t : ℕ) → t < l.t → (section_of_turn l.list t).pid < 8192;
  later : g.W.Sink.faults l.fn.sink ≤ g.W.Sink.faults l.sink;
}
