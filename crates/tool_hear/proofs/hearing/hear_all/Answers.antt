use Rattle.std.proofs.Common.{◌≡◌, ◌<◌, [], ◌∷◌, length, arith, refl, sym, ◌∙◌}
use Rattle.std.proofs.lemmas.Result.{err_from_is_err_and}
use Rattle.ssu_io.specs.Bytes.{Takes}
use Rattle.ts_input.proofs.Runs.{run_ended, run_failed, run_still, run_too_long}
use Rattle.ts_section.specs.Events.{Listen, hear}
use Rattle.ts_section.specs.Hearing.{Hears}
use Rattle.tool_hear.proofs.HearLemmas.{StandsFor, heard_begin, heard_step, heard_step_failed}
use Rattle.tool_hear.proofs.hearing.hear_all.Goals as goal

pub loop-hearer-init : goal.loop-hearer-init
loop-hearer-init g c =
    let stands : Hears c.listen.new.self (Listen (c.args.pid ∷ []) ∷ []) = rw (← c.only.ensures) (c.listen.ensures.stands [] c.requires.fresh) in
    record {
      heard = rw c.new-input.ensures (heard_begin c.args.pid c.listen.new.self (g.A.Source.left c.args.air.now) (g.T.Sink.contents c.args.out.now) c.args.waiting.now c.requires.none_waits stands);
      within = omega (arith, c.new-input.ensures);
      air_later = omega arith;
      out_later = omega arith;
    }

pub loop-hearer-preserved : goal.loop-hearer-preserved
loop-hearer-preserved g c =
    let left = g.A.Source.left in
    let got = g.T.Sink.contents in
    let takes : Takes (left c.loop-hearer.air) (left c.next.new.air) c.packet.result.now = rw c.packet.ensures (c.loop-hearer-test.ensures.packet refl) in
    let one : length c.packet.result.now ≡ 188 = rw c.packet.ensures c.next.ensures.len in
    record {
      heard = rw (c.loop-hearer-test.ensures.count refl)
          (heard_step c.args.pid c.loop-hearer.input.count c.loop-hearer.hearer c.feed.new.self (left c.args.air.now) (left c.loop-hearer.air) (left c.next.new.air)
          (got c.args.out.now) (got c.loop-hearer.out) (got c.put_sections.new.out) c.loop-hearer.waiting c.put_sections.new.waiting c.packet.result.now c.feed.new.each
          c.loop-hearer.invariant.heard takes one c.feed.ensures.stands c.feed.ensures.heard c.in_ok-put_sections.ensures.ok);
      within = c.next.ensures.within;
      air_later = omega (arith, c.loop-hearer.invariant.air_later, c.next.ensures.later);
      out_later = omega (arith, c.loop-hearer.invariant.out_later, c.put_sections.ensures.cause.later);
    }

pub returns-in_err-put_sections-clause-write_fault : goal.returns-in_err-put_sections-clause-write_fault
returns-in_err-put_sections-clause-write_fault g c =
    let left = g.A.Source.left in
    let got = g.T.Sink.contents in
    let takes : Takes (left c.loop-hearer.air) (left c.next.new.air) c.packet.result.now = rw c.packet.ensures (c.loop-hearer-test.ensures.packet refl) in
    let one : length c.packet.result.now ≡ 188 = rw c.packet.ensures c.next.ensures.len in
    let few : c.loop-hearer.input.count < 16777216 = omega (arith, c.next.ensures.within, (c.loop-hearer-test.ensures.count refl)) in
    let p = err_from_is_err_and c.from_residual.result c.from_residual.ensures.1 in
    rw p.1
    (heard_step_failed c.args.pid c.loop-hearer.input.count c.loop-hearer.hearer (left c.args.air.now) (left c.loop-hearer.air) (left c.next.new.air)
    (got c.args.out.now) (got c.loop-hearer.out) (got c.put_sections.new.out) c.loop-hearer.waiting c.packet.result.now c.feed.new.each
    c.loop-hearer.invariant.heard takes one c.feed.ensures.heard c.in_err-put_sections.ensures.failed few)

pub returns-in_err-flush-clause-write_fault : goal.returns-in_err-flush-clause-write_fault
returns-in_err-flush-clause-write_fault g c =
    let left = g.A.Source.left in
    let got = g.T.Sink.contents in
    let p = err_from_is_err_and c.from_residual-in_err-flush.result c.from_residual-in_err-flush.ensures.1 in
    rw p.1
    (run_failed (hear c.args.pid) (StandsFor c.args.pid c.loop-hearer.hearer) c.loop-hearer.input.count (left c.args.air.now) (left c.loop-hearer.air) (left c.next.new.air)
    (got c.args.out.now) (got c.loop-hearer.out) (got c.flush.new.sink) c.loop-hearer.waiting
    c.loop-hearer.invariant.heard (c.loop-hearer-test.ensures.rest refl) c.in_err-flush.ensures.failed)

pub returns-in-End-clause-done : goal.returns-in-End-clause-done
returns-in-End-clause-done g c =
    let left = g.A.Source.left in
    let got = g.T.Sink.contents in
    run_still (hear c.args.pid) (left c.args.air.now) (left c.next.new.air) (left c.ended.new.air) (got c.args.out.now) (got c.flush.new.sink)
    (run_ended (hear c.args.pid) (StandsFor c.args.pid c.loop-hearer.hearer) c.loop-hearer.input.count (left c.args.air.now) (left c.loop-hearer.air) (left c.next.new.air)
    (got c.args.out.now) (got c.loop-hearer.out) (got c.flush.new.sink) c.loop-hearer.waiting
    c.loop-hearer.invariant.heard (c.loop-hearer-test.ensures.rest refl) c.in_ok-flush.ensures.ok)
    c.in-End.ensures.nothing

pub returns-in-Failed-clause-read_fault : goal.returns-in-Failed-clause-read_fault
returns-in-Failed-clause-read_fault g c =
    let left = g.A.Source.left in
    let got = g.T.Sink.contents in
    run_still (hear c.args.pid) (left c.args.air.now) (left c.next.new.air) (left c.ended.new.air) (got c.args.out.now) (got c.flush.new.sink)
    (run_ended (hear c.args.pid) (StandsFor c.args.pid c.loop-hearer.hearer) c.loop-hearer.input.count (left c.args.air.now) (left c.loop-hearer.air) (left c.next.new.air)
    (got c.args.out.now) (got c.loop-hearer.out) (got c.flush.new.sink) c.loop-hearer.waiting
    c.loop-hearer.invariant.heard (c.loop-hearer-test.ensures.rest refl) c.in_ok-flush.ensures.ok)
    c.in-Failed.ensures.nothing

pub returns-in-TooLong-clause-too_long : goal.returns-in-TooLong-clause-too_long
returns-in-TooLong-clause-too_long g c =
    let left = g.A.Source.left in
    let got = g.T.Sink.contents in
    run_too_long (hear c.args.pid) (StandsFor c.args.pid c.loop-hearer.hearer) c.loop-hearer.input.count (left c.args.air.now) (left c.loop-hearer.air) (left c.next.new.air) (left c.ended.new.air)
    (got c.args.out.now) (got c.loop-hearer.out) (got c.flush.new.sink) c.loop-hearer.waiting
    c.loop-hearer.invariant.heard (c.loop-hearer-test.ensures.rest refl) c.in_ok-flush.ensures.ok
    (sym (c.loop-hearer-test.ensures.same refl) ∙ c.in-TooLong.ensures.most) c.in-TooLong.ensures.too_long
