use Rattle.std.proofs.Common.{◌≡◌, ◌∙◌, Some, ap, sym}
use Rattle.std.proofs.lemmas.Result.{err_from_is_err_and, on_err_weaker, on_ok_weaker}
use Rattle.air_channel.specs.Passing.{changed}
use Rattle.air_channel.proofs.PassLemmas.{both_moved, first_failed, second_failed}
use Rattle.air_channel.proofs.channel.OnAir.pass.Goals as goal

pub returns-in_err-write-in-Some-clause-failed : goal.returns-in_err-write-in-Some-clause-failed
returns-in_err-write-in-Some-clause-failed g c =
    let got = g.W.Sink.contents in
    let script = c.args.script.now in
    let made : c.make.new.packet ≡ changed script.changes c.args.n c.args.packet.now =
    c.make.ensures ∙ ap (λ s. changed s.changes c.args.n c.args.packet.now) c.script.view_is in
    let p = err_from_is_err_and c.from_residual.result c.from_residual.ensures.1 in
    rw p.1
    (first_failed script c.args.n c.copies.result c.args.self.now.kept c.in-Some.kept c.args.packet.now c.make.new.packet (sym c.in-Some.ensures.value) made c.copies.ensures.value
    (got c.args.sink.now) (got c.write.new.sink) c.args.self.now.waiting c.in_err-write-in-Some.ensures.failed)

pub returns-in_ok-write-in-Some-clause-ok : goal.returns-in_ok-write-in-Some-clause-ok
returns-in_ok-write-in-Some-clause-ok g c =
    let got = g.W.Sink.contents in
    let script = c.args.script.now in
    let made : c.make.new.packet ≡ changed script.changes c.args.n c.args.packet.now =
    c.make.ensures ∙ ap (λ s. changed s.changes c.args.n c.args.packet.now) c.script.view_is in
    on_ok_weaker c.write-in-Some.result
    (both_moved script c.args.n c.copies.result c.copies-in-Some.result c.args.self.now.kept c.in-Some.kept c.args.packet.now c.make.new.packet (sym c.in-Some.ensures.value) made c.copies.ensures.value c.copies-in-Some.ensures.value
    (got c.args.sink.now) (got c.write.new.sink) (got c.write-in-Some.new.sink) c.args.self.now.waiting c.write.new.self.waiting c.write-in-Some.new.self.waiting c.in_ok-write-in-Some.ensures.ok)
    c.write-in-Some.ensures.ok

pub returns-in_ok-write-in-Some-clause-failed : goal.returns-in_ok-write-in-Some-clause-failed
returns-in_ok-write-in-Some-clause-failed g c =
    let got = g.W.Sink.contents in
    let script = c.args.script.now in
    let made : c.make.new.packet ≡ changed script.changes c.args.n c.args.packet.now =
    c.make.ensures ∙ ap (λ s. changed s.changes c.args.n c.args.packet.now) c.script.view_is in
    on_err_weaker c.write-in-Some.result
    (second_failed script c.args.n c.copies.result c.copies-in-Some.result c.args.self.now.kept c.in-Some.kept c.args.packet.now c.make.new.packet (sym c.in-Some.ensures.value) made c.copies.ensures.value c.copies-in-Some.ensures.value
    (got c.args.sink.now) (got c.write.new.sink) (got c.write-in-Some.new.sink) c.args.self.now.waiting c.write.new.self.waiting c.in_ok-write-in-Some.ensures.ok)
    c.write-in-Some.ensures.failed
