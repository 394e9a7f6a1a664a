use Rattle.std.proofs.Common.{◌∙◌, Err, Result, ℕ, ap}
use Rattle.air_channel.specs.declared.channel.AirFault.{AirFault}
use Rattle.std.specs.Prelude.{map}
use Rattle.ssu_io.specs.MemSink.{SinkState}
use Rattle.head_plan.specs.Plans.{PlanData}
use Rattle.broadcast.specs.Packets.{Broadcast}
use Rattle.broadcast.proofs.AiredLaws.{bytes_sent, long_sent, many_sent, whole_aired}
use Rattle.broadcast.proofs.aired.aired_bytes.Goals as goal

pub returns-in-Ok-clause-ok : goal.returns-in-Ok-clause-ok
returns-in-Ok-clause-ok c =
    let b : Broadcast = record { plan = c.args.plan.now; images = map (λ i. i.items) c.args.images.now; script = c.args.script.now } in
    let list = c.deref.ensures.value ∙ c.in_ok-list.ensures.list in
    let turns = ap (λ (p : PlanData). p.turns) c.plan.view_is in
    let long = long_sent b (rw (list, turns) at c.in_ok-sent.ensures.long) in
    let bytes = c.new-source.ensures ∙ bytes_sent b c.in_ok-sent.sent.items (rw (list, turns) at c.in_ok-sent.ensures.bytes) in
    let empty = ap (λ (s : SinkState). s.contents) c.new-sink.ensures in
    c.into_bytes.ensures
    ∙ (whole_aired b c.new-source.result c.air.new.air c.new-sink.result.contents c.air.new.sink.contents long bytes c.in-Ok.ensures.end empty c.in-Ok.ensures.done.puts).bytes

pub returns-in-Ok-clause-few : goal.returns-in-Ok-clause-few
returns-in-Ok-clause-few c =
    let b : Broadcast = record { plan = c.args.plan.now; images = map (λ i. i.items) c.args.images.now; script = c.args.script.now } in
    let list = c.deref.ensures.value ∙ c.in_ok-list.ensures.list in
    let turns = ap (λ (p : PlanData). p.turns) c.plan.view_is in
    let long = long_sent b (rw (list, turns) at c.in_ok-sent.ensures.long) in
    let bytes = c.new-source.ensures ∙ bytes_sent b c.in_ok-sent.sent.items (rw (list, turns) at c.in_ok-sent.ensures.bytes) in
    let empty = ap (λ (s : SinkState). s.contents) c.new-sink.ensures in
    (whole_aired b c.new-source.result c.air.new.air c.new-sink.result.contents c.air.new.sink.contents long bytes c.in-Ok.ensures.end empty c.in-Ok.ensures.done.puts).few

pub returns-in-Err-TooLong-clause-err : goal.returns-in-Err-TooLong-clause-err
returns-in-Err-TooLong-clause-err c =
    let b : Broadcast = record { plan = c.args.plan.now; images = map (λ i. i.items) c.args.images.now; script = c.args.script.now } in
    let list = c.deref.ensures.value ∙ c.in_ok-list.ensures.list in
    let turns = ap (λ (p : PlanData). p.turns) c.plan.view_is in
    let long = long_sent b (rw (list, turns) at c.in_ok-sent.ensures.long) in
    let bytes = c.new-source.ensures ∙ bytes_sent b c.in_ok-sent.sent.items (rw (list, turns) at c.in_ok-sent.ensures.bytes) in (
      c.in_ok-list.ensures.buildable,
      many_sent b c.new-source.result c.air.new.air c.new-sink.result.contents c.air.new.sink.contents long bytes (c.in-Err-TooLong.ensures.too_long (ap (λ (fault : AirFault). let told : Result ℕ AirFault = Err fault in told) c.in-Err-TooLong.field-0-is)),
    )
