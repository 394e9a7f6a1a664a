use Rattle.std.proofs.Common.{◌≡◌, ◌∙◌, ◌-◌, ◌<◌, length, arith, ap, inl, inr, refl, sym}
use Rattle.std.proofs.lemmas.Result.{err_from_is_err_and}
use Rattle.ssu_io.specs.Bytes.{Takes}
use Rattle.ts_packet.specs.Packet.{pid_of}
use Rattle.ts_input.proofs.Runs.{run_ended, run_failed, run_too_long}
use Rattle.tool_find.specs.Lines.{text_of}
use Rattle.tool_find.proofs.Printing.{StandsFor, none_left, rest_still, walk_begin, walk_done, walk_done_failed, walk_step, walk_step_failed, went}
use Rattle.tool_find.proofs.walking.walk_all.Goals as goal

pub loop-walk-init : goal.loop-walk-init
loop-walk-init g c = record {
  walked = λ me walks. rw c.new-input.ensures (walk_begin c.args.shows me c.args.walk.now (g.A.Source.left c.args.air.now) (g.T.Sink.contents c.args.out.now) c.args.waiting.now c.requires.none_waits walks);
  within = omega (arith, c.new-input.ensures);
  air_later = omega arith;
  out_later = omega arith;
}

pub loop-walk-preserved : goal.loop-walk-preserved
loop-walk-preserved g c =
    let left = g.A.Source.left in
    let got = g.T.Sink.contents in
    let l = c.loop-walk in
    let takes : Takes (left l.air) (left c.next.new.air) c.packet.result.now = rw c.packet.ensures (c.loop-walk-test.ensures.packet refl) in
    let one : length c.packet.result.now ≡ 188 = rw c.packet.ensures c.next.ensures.len in
    let few : l.input.count < 16777216 = omega (arith, c.next.ensures.within, (c.loop-walk-test.ensures.count refl)) in
    let number : c.count-number.result - 1 ≡ l.input.count = omega (arith, c.count-number.ensures, c.loop-walk-test.ensures.count refl) in
    let pid : c.pid_of.result ≡ pid_of c.packet.result.now = c.pid_of.ensures ∙ ap pid_of (c.packet-in-loop-walk.ensures ∙ sym c.packet.ensures) in
    record {
      walked = λ me walks. rw (c.loop-walk-test.ensures.count refl)
          (walk_step c.args.shows me l.input.count l.walk c.take.new.self (left c.args.air.now) (left l.air) (left c.next.new.air)
          (got c.args.out.now) (got l.out) (got c.put_if.new.out) l.waiting c.put_if.new.waiting c.packet.result.now c.take.new.self.each
          (l.invariant.walked me walks) takes one (c.take.ensures.stands me) (c.take.ensures.heard me) (rw (number, pid) at c.in_ok-put_if.ensures.ok));
      within = c.next.ensures.within;
      air_later = omega (arith, l.invariant.air_later, c.next.ensures.later);
      out_later = omega (arith, l.invariant.out_later, c.put_if.ensures.cause.later);
    }

pub returns-in_err-put_if-clause-write_fault : goal.returns-in_err-put_if-clause-write_fault
returns-in_err-put_if-clause-write_fault g c = λ me walks.
    let left = g.A.Source.left in
    let got = g.T.Sink.contents in
    let l = c.loop-walk in
    let takes : Takes (left l.air) (left c.next.new.air) c.packet.result.now = rw c.packet.ensures (c.loop-walk-test.ensures.packet refl) in
    let one : length c.packet.result.now ≡ 188 = rw c.packet.ensures c.next.ensures.len in
    let few : l.input.count < 16777216 = omega (arith, c.next.ensures.within, (c.loop-walk-test.ensures.count refl)) in
    let number : c.count-number.result - 1 ≡ l.input.count = omega (arith, c.count-number.ensures, c.loop-walk-test.ensures.count refl) in
    let pid : c.pid_of.result ≡ pid_of c.packet.result.now = c.pid_of.ensures ∙ ap pid_of (c.packet-in-loop-walk.ensures ∙ sym c.packet.ensures) in
    let p = err_from_is_err_and c.from_residual.result c.from_residual.ensures.1 in
    rw p.1
    (inl (
      c.in_err-put_if.ensures.only_shown,
      walk_step_failed c.args.shows me l.input.count l.walk (left c.args.air.now) (left l.air) (left c.next.new.air)
          (got c.args.out.now) (got l.out) (got c.put_if.new.out) l.waiting c.packet.result.now c.take.new.self.each
          (l.invariant.walked me walks) takes one (c.take.ensures.heard me) (rw (number, pid) at c.in_err-put_if.ensures.failed) few,
    ))

pub returns-in_err-flush_if-clause-write_fault : goal.returns-in_err-flush_if-clause-write_fault
returns-in_err-flush_if-clause-write_fault g c = λ me walks.
    let left = g.A.Source.left in
    let got = g.T.Sink.contents in
    let l = c.loop-walk in
    let p = err_from_is_err_and c.from_residual-in_err-flush_if.result c.from_residual-in_err-flush_if.ensures.1 in
    rw p.1
    (inl (
      c.in_err-flush_if.ensures.only_shown,
      run_failed (text_of c.args.shows me) (StandsFor me l.walk) l.input.count (left c.args.air.now) (left l.air) (left c.next.new.air)
          (got c.args.out.now) (got l.out) (got c.flush_if.new.out) l.waiting
          (l.invariant.walked me walks) (c.loop-walk-test.ensures.rest refl) c.in_err-flush_if.ensures.failed,
    ))

pub returns-in_err-finish-in-End-clause-write_fault : goal.returns-in_err-finish-in-End-clause-write_fault
returns-in_err-finish-in-End-clause-write_fault g c = λ me walks.
    let left = g.A.Source.left in
    let got = g.T.Sink.contents in
    let l = c.loop-walk in
    let gains = went c.args.shows me l.input.count l.walk (left c.args.air.now) (left l.air) (got c.args.out.now) (got l.out) (got c.flush_if.new.out) l.waiting
    (l.invariant.walked me walks) c.in_ok-flush_if.ensures.ok (λ e. ap got (c.flush_if.ensures.unwritten e)) in
    let none = none_left c.args.shows me l.input.count l.walk (left c.args.air.now) (left l.air) (got c.args.out.now) (got l.out) l.waiting c.flush_if.new.waiting
    (l.invariant.walked me walks) c.flush_if.ensures.empty c.flush_if.ensures.unmoved in
    let rest = rest_still l.input.count (left l.air) (left c.next.new.air) (left c.ended.new.air) (c.loop-walk-test.ensures.rest refl) c.in-End.ensures.nothing in
    let p = err_from_is_err_and c.from_residual-in_err-finish-in-End.result c.from_residual-in_err-finish-in-End.ensures.1 in
    rw p.1
    (inr (
      walk_done_failed c.args.shows me l.input.count l.walk (left c.args.air.now) (left l.air) (left c.ended.new.air)
          (got c.args.out.now) (got l.out) (got c.flush_if.new.out) (got c.finish.new.out) l.waiting c.flush_if.new.waiting
          (l.invariant.walked me walks) rest gains none (c.in_err-finish-in-End.ensures.failed me),
      c.in-End.ensures.end c.next.ensures.end,
    ))

pub returns-in_ok-finish-in-End-clause-done : goal.returns-in_ok-finish-in-End-clause-done
returns-in_ok-finish-in-End-clause-done g c = λ me walks.
    let left = g.A.Source.left in
    let got = g.T.Sink.contents in
    let l = c.loop-walk in
    let gains = went c.args.shows me l.input.count l.walk (left c.args.air.now) (left l.air) (got c.args.out.now) (got l.out) (got c.flush_if.new.out) l.waiting
    (l.invariant.walked me walks) c.in_ok-flush_if.ensures.ok (λ e. ap got (c.flush_if.ensures.unwritten e)) in
    let none = none_left c.args.shows me l.input.count l.walk (left c.args.air.now) (left l.air) (got c.args.out.now) (got l.out) l.waiting c.flush_if.new.waiting
    (l.invariant.walked me walks) c.flush_if.ensures.empty c.flush_if.ensures.unmoved in
    let rest = rest_still l.input.count (left l.air) (left c.next.new.air) (left c.ended.new.air) (c.loop-walk-test.ensures.rest refl) c.in-End.ensures.nothing in
    walk_done c.args.shows me l.input.count l.walk (left c.args.air.now) (left l.air) (left c.ended.new.air)
    (got c.args.out.now) (got l.out) (got c.flush_if.new.out) (got c.finish.new.out) l.waiting c.flush_if.new.waiting
    (l.invariant.walked me walks) rest gains none (c.in_ok-finish-in-End.ensures.ok me)

pub returns-in-Failed-clause-read_fault : goal.returns-in-Failed-clause-read_fault
returns-in-Failed-clause-read_fault g c = λ me walks.
    let left = g.A.Source.left in
    let got = g.T.Sink.contents in
    let l = c.loop-walk in
    let gains = went c.args.shows me l.input.count l.walk (left c.args.air.now) (left l.air) (got c.args.out.now) (got l.out) (got c.flush_if.new.out) l.waiting
    (l.invariant.walked me walks) c.in_ok-flush_if.ensures.ok (λ e. ap got (c.flush_if.ensures.unwritten e)) in
    run_ended (text_of c.args.shows me) (StandsFor me l.walk) l.input.count (left c.args.air.now) (left l.air) (left c.ended.new.air)
    (got c.args.out.now) (got l.out) (got c.flush_if.new.out) l.waiting (l.invariant.walked me walks)
    (rest_still l.input.count (left l.air) (left c.next.new.air) (left c.ended.new.air) (c.loop-walk-test.ensures.rest refl) c.in-Failed.ensures.nothing) gains

pub returns-in-TooLong-clause-too_long : goal.returns-in-TooLong-clause-too_long
returns-in-TooLong-clause-too_long g c = λ me walks.
    let left = g.A.Source.left in
    let got = g.T.Sink.contents in
    let l = c.loop-walk in
    let gains = went c.args.shows me l.input.count l.walk (left c.args.air.now) (left l.air) (got c.args.out.now) (got l.out) (got c.flush_if.new.out) l.waiting
    (l.invariant.walked me walks) c.in_ok-flush_if.ensures.ok (λ e. ap got (c.flush_if.ensures.unwritten e)) in
    run_too_long (text_of c.args.shows me) (StandsFor me l.walk) l.input.count (left c.args.air.now) (left l.air) (left c.next.new.air) (left c.ended.new.air)
    (got c.args.out.now) (got l.out) (got c.flush_if.new.out) l.waiting (l.invariant.walked me walks) (c.loop-walk-test.ensures.rest refl) gains
    (sym (c.loop-walk-test.ensures.same refl) ∙ c.in-TooLong.ensures.most) c.in-TooLong.ensures.too_long
