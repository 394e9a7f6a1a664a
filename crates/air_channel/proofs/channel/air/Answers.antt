use Rattle.std.proofs.Common.{◌≡◌, ◌+◌, ◌-◌, length, arith, refl, rules, sym, ◌∙◌}
use Rattle.ssu_io.specs.Bytes.{Takes}
use Rattle.air_channel.proofs.AirLemmas.{air_begin, air_end, air_end_failed, air_step, air_step_failed, air_too_long}
use Rattle.air_channel.proofs.channel.air.Goals as goal

pub loop-input-init : goal.loop-input-init
loop-input-init g c =
    let left = g.A.Source.left in
    let got = g.W.Sink.contents in
    record {
      aired = rw c.new-input.ensures
          (air_begin c.args.script.now c.new-on_air.result.kept c.new-on_air.result.count (left c.args.air.now) (got c.args.sink.now) c.new-on_air.result.waiting c.new-on_air.ensures.waiting c.new-on_air.ensures.kept c.new-on_air.ensures.count);
      first = search rules;
      few = omega (arith, c.new-on_air.ensures.count);
      within = omega (arith, c.new-input.ensures);
      air_later = omega arith;
      sink_later = omega arith;
    }

pub returns-in_err-pass-clause-write_fault : goal.returns-in_err-pass-clause-write_fault
returns-in_err-pass-clause-write_fault g c =
    let left = g.A.Source.left in
    let got = g.W.Sink.contents in
    let n : c.count.result - 1 ≡ c.loop-input.input.count = omega (arith, c.count.ensures, (c.loop-input-test.ensures.count refl)) in
    let takes : Takes (left c.loop-input.air) (left c.next.new.air) c.packet.result.now = rw c.packet.ensures (c.loop-input-test.ensures.packet refl) in
    let one : length c.packet.result.now ≡ 188 = rw c.packet.ensures c.next.ensures.len in
    λ fault.
    air_step_failed c.args.script.now c.loop-input.input.count c.loop-input.on_air.kept c.loop-input.on_air.count (left c.args.air.now) (left c.loop-input.air) (left c.next.new.air)
    (got c.args.sink.now) (got c.loop-input.sink) (got c.pass.new.sink) c.loop-input.on_air.waiting c.packet.result.now
    c.in_err-pass.ensures.apart c.loop-input.invariant.aired takes one (rw n at c.in_err-pass.ensures.failed)
    (omega (arith, c.next.ensures.within, (c.loop-input-test.ensures.count refl)))

pub loop-input-preserved : goal.loop-input-preserved
loop-input-preserved g c =
    let left = g.A.Source.left in
    let got = g.W.Sink.contents in
    let kept = c.loop-input.invariant in
    let n : c.count.result - 1 ≡ c.loop-input.input.count = omega (arith, c.count.ensures, (c.loop-input-test.ensures.count refl)) in
    let takes : Takes (left c.loop-input.air) (left c.next.new.air) c.packet.result.now = rw c.packet.ensures (c.loop-input-test.ensures.packet refl) in
    let one : length c.packet.result.now ≡ 188 = rw c.packet.ensures c.next.ensures.len in
    record {
      aired = rw (c.loop-input-test.ensures.count refl)
          (air_step c.args.script.now c.loop-input.input.count c.loop-input.on_air.kept c.pass.new.self.kept c.loop-input.on_air.count c.pass.new.self.count (left c.args.air.now) (left c.loop-input.air) (left c.next.new.air)
          (got c.args.sink.now) (got c.loop-input.sink) (got c.pass.new.sink) c.loop-input.on_air.waiting c.pass.new.self.waiting c.packet.result.now
          c.in_ok-pass.ensures.apart kept.aired takes one (rw n at c.in_ok-pass.ensures.ok) (rw n at c.in_ok-pass.ensures.kept) (rw n at c.in_ok-pass.ensures.count));
      first = λ some. omega (arith, (c.loop-input-test.ensures.count refl));
      few = omega (arith, kept.few, c.in_ok-pass.ensures.more, (c.loop-input-test.ensures.count refl));
      within = c.next.ensures.within;
      air_later = omega (arith, kept.air_later, c.next.ensures.later);
      sink_later = omega (arith, kept.sink_later, c.pass.ensures.cause.later);
    }

pub returns-in_err-written-clause-write_fault : goal.returns-in_err-written-clause-write_fault
returns-in_err-written-clause-write_fault g c =
    let left = g.A.Source.left in
    let got = g.W.Sink.contents in
    let n : c.count-2.result ≡ c.loop-input.input.count = c.count-2.ensures ∙ c.loop-input-test.ensures.same refl in
    λ fault.
    air_end_failed c.args.script.now c.loop-input.input.count c.loop-input.on_air.kept c.loop-input.on_air.count (left c.args.air.now) (left c.loop-input.air) (left c.next.new.air)
    (got c.args.sink.now) (got c.loop-input.sink) (got c.end.new.sink) c.loop-input.on_air.waiting
    c.loop-input.invariant.aired (c.loop-input-test.ensures.rest refl) (rw n at c.in_err-written.ensures.failed)

pub returns-in-End-clause-done : goal.returns-in-End-clause-done
returns-in-End-clause-done g c =
    let left = g.A.Source.left in
    let got = g.W.Sink.contents in
    let n : c.count-2.result ≡ c.loop-input.input.count = c.count-2.ensures ∙ c.loop-input-test.ensures.same refl in
    air_end c.args.script.now c.loop-input.input.count c.loop-input.on_air.kept c.loop-input.on_air.count c.in_ok-written.written (left c.args.air.now) (left c.loop-input.air) (left c.next.new.air) (left c.ended.new.air)
    (got c.args.sink.now) (got c.loop-input.sink) (got c.end.new.sink) c.loop-input.on_air.waiting
    c.loop-input.invariant.aired (c.loop-input-test.ensures.rest refl) (rw n at c.in_ok-written.ensures.ok) (rw n at c.in_ok-written.ensures.count) c.in-End.ensures.nothing

pub returns-in-Failed-clause-read_fault : goal.returns-in-Failed-clause-read_fault
returns-in-Failed-clause-read_fault g c =
    let left = g.A.Source.left in
    let got = g.W.Sink.contents in
    let n : c.count-2.result ≡ c.loop-input.input.count = c.count-2.ensures ∙ c.loop-input-test.ensures.same refl in
    λ fault.
    (air_end c.args.script.now c.loop-input.input.count c.loop-input.on_air.kept c.loop-input.on_air.count c.in_ok-written.written (left c.args.air.now) (left c.loop-input.air) (left c.next.new.air) (left c.ended.new.air)
    (got c.args.sink.now) (got c.loop-input.sink) (got c.end.new.sink) c.loop-input.on_air.waiting
    c.loop-input.invariant.aired (c.loop-input-test.ensures.rest refl) (rw n at c.in_ok-written.ensures.ok) (rw n at c.in_ok-written.ensures.count) c.in-Failed.ensures.nothing).puts

pub returns-in-TooLong-clause-too_long : goal.returns-in-TooLong-clause-too_long
returns-in-TooLong-clause-too_long g c =
    let left = g.A.Source.left in
    let got = g.W.Sink.contents in
    let n : c.count-2.result ≡ c.loop-input.input.count = c.count-2.ensures ∙ c.loop-input-test.ensures.same refl in
    λ fault.
    air_too_long c.args.script.now c.loop-input.input.count c.loop-input.on_air.kept c.loop-input.on_air.count (left c.args.air.now) (left c.loop-input.air) (left c.next.new.air) (left c.ended.new.air)
    (got c.args.sink.now) (got c.loop-input.sink) (got c.end.new.sink) c.loop-input.on_air.waiting
    c.loop-input.invariant.aired (c.loop-input-test.ensures.rest refl) (rw n at c.in_ok-written.ensures.ok)
    (sym (c.loop-input-test.ensures.same refl) ∙ c.in-TooLong.ensures.most) c.in-TooLong.ensures.too_long
