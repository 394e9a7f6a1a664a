use Rattle.std.proofs.Common.{ℕ, ◌+◌, List, ◌++◌, reverse, take, drop, sym, subst}
use Rattle.std.proofs.lemmas.Result.{err_from_is_err_and}
use Rattle.tool_load.specs.Load.{IsChosen}
use Rattle.tool_load.specs.Progress.{StandsFor}
use Rattle.tool_load.proofs.SearchLaws.{chosen_stays}
use Rattle.tool_load.proofs.PlanLaws.{onto_more, onto_all}
use Rattle.tool_load.proofs.progress.hear_each.Goals as goal

pub loop-k-preserved : goal.loop-k-preserved
loop-k-preserved c = λ sections stands.
    subst (λ (xs : List (List ℕ)). StandsFor c.hear.new.self xs)
    (sym (onto_more c.args.each.now sections c.loop-k.k c.get.result.now c.get.ensures.bytes))
    (c.in_ok-hear.ensures.stands (reverse (take c.loop-k.k c.args.each.now) ++ sections) (c.loop-k.invariant sections stands))

pub returns-in_err-hear-clause-no_memory : goal.returns-in_err-hear-clause-no_memory
returns-in_err-hear-clause-no_memory c =
    let p = err_from_is_err_and c.from_residual.result c.from_residual.ensures.1 in
    rw p.1 (λ sections stands.
    let each = c.args.each.now in
    let k = c.loop-k.k in
    let earlier = reverse (take k each) ++ sections in
    let h = c.in_err-hear.ensures.no_memory earlier (c.loop-k.invariant sections stands) in
    let now : IsChosen (reverse (take (k + 1) each) ++ sections) = subst IsChosen (sym (onto_more each sections k c.get.result.now c.get.ensures.bytes)) h.1 in (
      λ chosen. h.0 (chosen_stays (reverse (take k each)) sections chosen),
      subst IsChosen (sym (onto_all each sections (k + 1))) (chosen_stays (reverse (drop (k + 1) each)) (reverse (take (k + 1) each) ++ sections) now),
    ))
