use Rattle.std.proofs.Common.{ℕ, List, Option, Some, length, set, ap, ◌∙◌, arith}
use Rattle.due_wheel.specs.Due.{due_of}
use Rattle.head_mux.proofs.Queue.{partly_len, partly_not_in, partly_more}
use Rattle.head_mux.proofs.sending.put_indices.Goals as goal

pub put_counted-requires-clause-item : goal.put_counted-requires-clause-item
put_counted-requires-clause-item g c =
    let more = c.loop-item-test.true in
    let len = partly_len c.args.items c.loop-item.item (omega arith) in
    let same = ap (λ (v : List (Option ℕ)). length v) c.loop-item.invariant in
    omega arith

pub put_counted-requires-clause-not_in : goal.put_counted-requires-clause-not_in
put_counted-requires-clause-not_in g c =
    let more = c.loop-item-test.true in
    ap (λ (v : List (Option ℕ)). due_of v c.loop-item.item) c.loop-item.invariant ∙ partly_not_in c.args.items c.loop-item.item (omega arith)

pub loop-item-preserved : goal.loop-item-preserved
loop-item-preserved g c =
    let more = c.loop-item-test.true in
    c.put_counted.ensures.puts.dues ∙ ap (λ (n : ℕ). set c.loop-item.wheel.dues c.loop-item.item (Some n)) c.from.ensures
    ∙ ap (λ (v : List (Option ℕ)). set v c.loop-item.item (Some c.loop-item.item)) c.loop-item.invariant
    ∙ partly_more c.args.items c.loop-item.item (omega arith)
