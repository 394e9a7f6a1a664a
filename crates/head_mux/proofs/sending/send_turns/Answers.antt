use Rattle.std.proofs.Common.{◌<◌, refl, ap, ◌∙◌, arith, length, below_more}
use Rattle.std.proofs.lemmas.List.{length-set}
use Rattle.head_mux.proofs.Underway.{on_any_err}
use Rattle.head_mux.proofs.Order.{counted_below, moved_none, count_none, dues_none, counted_none, packets_are, turn_moved, turn_failed, count_are, counted_are}
use Rattle.head_mux.specs.Sent.{dues_before}
use Rattle.head_mux.proofs.Queue.{all_in}
use Rattle.head_mux.proofs.sending.send_turns.Goals as goal

pub loop-t-init : goal.loop-t-init
loop-t-init g c = record {
  moved = moved_none (g.W.Sink.contents c.args.sink.now) c.args.list.now c.args.buffer.now c.requires.waiting;
  count = count_none c.args.list.now;
  few = omega arith;
  dues = c.requires.dues ∙ ap all_in (dues_none c.args.list.now _ refl);
  pids = c.requires.pids;
  counted = counted_none c.args.list.now c.args.counters.now c.requires.counters;
  bounds = λ t h. absurd (omega arith);
  later = omega arith;
}

pub send_turn-requires-clause-counters : goal.send_turn-requires-clause-counters
send_turn-requires-clause-counters g c = counted_below c.args.list.now c.loop-t.t c.loop-t.counters c.loop-t.invariant.counted

pub loop-t-preserved : goal.loop-t-preserved
loop-t-preserved g c =
    let list = c.args.list.now in
    let t = c.loop-t.t in
    let before = c.loop-t.invariant in
    let got = g.W.Sink.contents in
    let packets = packets_are list t (dues_before list t) c.loop-t.counters refl before.counted c.send_turn.ensures.pid in
    record {
      moved = turn_moved (got c.args.sink.now) (got c.loop-t.sink) (got c.send_turn.new.sink) list t _ _ _ packets before.moved c.in_ok-packets.ensures.ok;
      count = count_are list t c.loop-t.count c.in_ok-packets.packets _ packets before.count c.in_ok-packets.ensures.count;
      few = omega (arith, before.few, c.in_ok-packets.ensures.few);
      dues = c.in_ok-packets.ensures.due;
      pids = ap length c.in_ok-packets.ensures.counted ∙ length-set c.loop-t.counters _ _ ∙ before.pids;
      counted = counted_are list t (dues_before list t) c.loop-t.counters _ refl before.counted before.pids c.send_turn.ensures.pid c.in_ok-packets.ensures.counted;
      bounds = below_more _ _ before.bounds c.send_turn.ensures.pid;
      later = omega (arith, before.later, c.send_turn.ensures.cause.later);
    }

pub returns-in_err-packets-clause-failed : goal.returns-in_err-packets-clause-failed
returns-in_err-packets-clause-failed g c =
    let list = c.args.list.now in
    let t = c.loop-t.t in
    let before = c.loop-t.invariant in
    let got = g.W.Sink.contents in
    let packets = packets_are list t (dues_before list t) c.loop-t.counters refl before.counted c.send_turn.ensures.pid in
    let h : t < c.args.turns = omega arith in
    on_any_err c.from_residual.result
    (turn_failed (got c.args.sink.now) (got c.loop-t.sink) (got c.send_turn.new.sink) list t c.args.turns _ _ h packets before.moved c.in_err-packets.ensures.failed)
