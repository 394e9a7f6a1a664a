use Rattle.std.proofs.Common.{[], ◌++◌, List, ℕ, sym, subst, append-nil}
use Rattle.std.proofs.lemmas.Result.{err_from_is_err_and}
use Rattle.ssu_io.specs.Bytes.{GainsPrefix}
use Rattle.ssu_io.proofs.BufferLemmas.{MovesOn_flushed, MovesOn_failed}
use Rattle.tool_find.specs.Lines.{report_lines}
use Rattle.tool_find.proofs.walking.finish.Goals as goal

pub returns-in_err-put_report-clause-failed : goal.returns-in_err-put_report-clause-failed
returns-in_err-put_report-clause-failed g c = λ me ps walks.
    let p = err_from_is_err_and c.from_residual.result c.from_residual.ensures.1 in
    rw (p.1, ← c.report.ensures me ps walks) c.in_err-put_report.ensures.failed

pub returns-in_err-flush-clause-failed : goal.returns-in_err-flush-clause-failed
returns-in_err-flush-clause-failed g c = λ me ps walks.
    let got = g.T.Sink.contents in
    let waiting = c.put_report.new.waiting in
    let text = report_lines c.report.result in
    let p = err_from_is_err_and c.from_residual-in_err-flush.result c.from_residual-in_err-flush.ensures.1 in
    let P : List ℕ → Type 0 = λ t. GainsPrefix (got c.put_report.new.out) (got c.flush.new.sink) t in
    let Q : List ℕ → Type 0 = λ t. GainsPrefix (got c.args.out.now) (got c.flush.new.sink) (c.args.waiting.now ++ t) in
    rw (p.1, ← c.report.ensures me ps walks)
    (subst Q (append-nil text)
    (MovesOn_failed (got c.args.out.now) (got c.put_report.new.out) (got c.flush.new.sink) c.args.waiting.now text waiting []
    c.in_ok-put_report.ensures.ok (subst P (sym (append-nil waiting)) c.in_err-flush.ensures.failed)))

pub returns-clause-ok : goal.returns-clause-ok
returns-clause-ok g c = λ me ps walks.
    let got = g.T.Sink.contents in
    rw (← c.report.ensures me ps walks)
    (MovesOn_flushed (got c.args.out.now) (got c.put_report.new.out) (got c.flush.new.sink) c.args.waiting.now (report_lines c.report.result) c.put_report.new.waiting
    c.in_ok-put_report.ensures.ok c.in_ok-flush.ensures.ok)
