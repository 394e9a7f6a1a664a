use Rattle.head_mux.proofs.Underway.{flush_failed}
use Rattle.head_mux.proofs.Gapless.{sent_go_on, sent_whole}
use Rattle.head_mux.proofs.sending.mux.Goals as goal

pub returns-in_err-flush-clause-write_fault : goal.returns-in_err-flush-clause-write_fault
returns-in_err-flush-clause-write_fault g c =
    let got = g.W.Sink.contents in
    λ fault. flush_failed (got c.args.sink.now) (got c.send_all.new.sink) (got c.flush.new.sink) _ _ c.in_ok-count.ensures.ok c.in_err-flush.ensures.failed

pub returns-clause-whole : goal.returns-clause-whole
returns-clause-whole g c = sent_whole c.args.list.now c.args.turns

pub returns-clause-counters : goal.returns-clause-counters
returns-clause-counters g c = sent_go_on c.args.list.now c.args.turns c.in_ok-count.ensures.pids
