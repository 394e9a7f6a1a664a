use Rattle.std.proofs.Common.{◌≡◌, ℕ, ◌+◌, ◌<◌, ◌++◌, Some, length, get_or, set, subst, ap, ap₂, ◌∙◌}
use Rattle.std.specs.List.{concat}
use Rattle.ssu_io.specs.Bytes.{GainsPrefix}
use Rattle.ssu_io.specs.SinkBuffer.{MovesOn}
use Rattle.ts_section.specs.TimedSection.{TimedSection}
use Rattle.ts_section.specs.Cut.{cut_packets, next_counter}
use Rattle.head_mux.specs.Sent.{section_at}
use Rattle.head_mux.proofs.Order.{section_read}
use Rattle.head_mux.proofs.Underway.{on_any_err}
use Rattle.head_mux.proofs.Queue.{first_due, taken_of, next_of_turn, turn_dues}
use Rattle.head_mux.proofs.turn.send_turn.Goals as goal

pub take_next-index-requires : goal.take_next-index-requires
take_next-index-requires g c = first_due c.args.list.now c.args.t c.args.wheel.now.dues c.requires.dues c.requires.some

pub send_section-requires-clause-index : goal.send_section-requires-clause-index
send_section-requires-clause-index g c = taken_of c.args.list.now c.args.t c.args.wheel.now.dues c.take_next-index.result c.requires.dues c.take_next-index.ensures.least

pub bounds-list-index : goal.bounds-list-index
bounds-list-index g c = taken_of c.args.list.now c.args.t c.args.wheel.now.dues c.take_next-index.result c.requires.dues c.take_next-index.ensures.least

pub returns-in_err-count-clause-failed : goal.returns-in_err-count-clause-failed
returns-in_err-count-clause-failed g c =
    let list = c.args.list.now in
    let counters = c.args.counters.now in
    let got = g.W.Sink.contents in
    let next = next_of_turn list c.args.t c.args.wheel.now.dues c.take_next-index.result c.requires.dues c.take_next-index.ensures.least in
    let P : ℕ → Type 0 = λ n. GainsPrefix (got c.args.sink.now) (got c.send_section.new.sink)
    (c.args.buffer.now ++ concat (cut_packets (section_at list n).bytes (section_at list n).pid (get_or counters (section_at list n).pid 0))) in
    on_any_err c.from_residual.result (subst P next c.in_err-count.ensures.failed)

pub returns-in_err-count-clause-pid : goal.returns-in_err-count-clause-pid
returns-in_err-count-clause-pid g c =
    let next = next_of_turn c.args.list.now c.args.t c.args.wheel.now.dues c.take_next-index.result c.requires.dues c.take_next-index.ensures.least in
    let P : ℕ → Type 0 = λ n. (section_at c.args.list.now n).pid < 8192 in
    subst P next c.send_section.ensures.pid

pub returns-clause-ok : goal.returns-clause-ok
returns-clause-ok g c =
    let list = c.args.list.now in
    let counters = c.args.counters.now in
    let got = g.W.Sink.contents in
    let next = next_of_turn list c.args.t c.args.wheel.now.dues c.take_next-index.result c.requires.dues c.take_next-index.ensures.least in
    let P : ℕ → Type 0 = λ n. MovesOn (got c.args.sink.now) (got c.send_section.new.sink) c.args.buffer.now
    (concat (cut_packets (section_at list n).bytes (section_at list n).pid (get_or counters (section_at list n).pid 0))) c.send_section.new.buffer in
    subst P next c.in_ok-count.ensures.ok

pub returns-clause-count : goal.returns-clause-count
returns-clause-count g c =
    let list = c.args.list.now in
    let counters = c.args.counters.now in
    let next = next_of_turn list c.args.t c.args.wheel.now.dues c.take_next-index.result c.requires.dues c.take_next-index.ensures.least in
    let P : ℕ → Type 0 = λ n. c.in_ok-count.count ≡ length (cut_packets (section_at list n).bytes (section_at list n).pid (get_or counters (section_at list n).pid 0)) in
    subst P next c.in_ok-count.ensures.count

pub returns-clause-pid : goal.returns-clause-pid
returns-clause-pid g c =
    let next = next_of_turn c.args.list.now c.args.t c.args.wheel.now.dues c.take_next-index.result c.requires.dues c.take_next-index.ensures.least in
    let P : ℕ → Type 0 = λ n. (section_at c.args.list.now n).pid < 8192 in
    subst P next c.send_section.ensures.pid

pub returns-clause-due : goal.returns-clause-due
returns-clause-due g c =
    let list = c.args.list.now in
    let index = c.take_next-index.result in
    let next = next_of_turn list c.args.t c.args.wheel.now.dues index c.requires.dues c.take_next-index.ensures.least in
    let within = taken_of list c.args.t c.args.wheel.now.dues index c.requires.dues c.take_next-index.ensures.least in
    let read = section_read list index _ c.index-list-index.result c.index-list-index.is within next in
    turn_dues list c.args.t index c.section.inside.period c.args.wheel.now.dues c.take_next-index.new.wheel.dues _ c.requires.dues next c.take_next-index.ensures.dues
    (ap (λ (s : TimedSection). s.period) (c.section.view_is ∙ read))
    (c.put_counted.ensures.puts.dues
    ∙ ap (λ (n : ℕ). set c.take_next-index.new.wheel.dues index (Some n)) (ap₂ (λ (a b : ℕ). a + b) c.from.ensures c.from-2.ensures))

pub returns-clause-counted : goal.returns-clause-counted
returns-clause-counted g c =
    let list = c.args.list.now in
    let counters = c.args.counters.now in
    let next = next_of_turn list c.args.t c.args.wheel.now.dues c.take_next-index.result c.requires.dues c.take_next-index.ensures.least in
    let P : ℕ → Type 0 = λ n. c.send_section.new.counters
    ≡ set counters (section_at list n).pid (next_counter (section_at list n).bytes (get_or counters (section_at list n).pid 0)) in
    subst P next c.in_ok-count.ensures.counted
