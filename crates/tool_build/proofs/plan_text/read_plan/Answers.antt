use Rattle.std.proofs.lemmas.Result.{err_from_is_err_and}
use Rattle.tool_box.proofs.FetchLaws.{value_not_fetched}
use Rattle.tool_build.specs.Held.{plan_name}
use Rattle.tool_build.proofs.MissingLaws.{plan_read}
use Rattle.tool_build.proofs.plan_text.read_plan.Goals as goal

pub returns-in_err-text-clause-told : goal.returns-in_err-text-clause-told
returns-in_err-text-clause-told g c = λ plan told tells.
    let p = err_from_is_err_and c.from_residual.result c.from_residual.ensures.1 in
    let absence = rw c.plan_name.ensures at c.in_err-text.ensures.absent in
    rw (p.1, p.2) (value_not_fetched _ _ (g.H.Shelf.held c.args.shelf.now) plan_name tells.text plan c.in_err-text.field-0.0 told tells.has c.in_err-text.ensures.refusals absence)

pub returns-clause-told : goal.returns-clause-told
returns-clause-told g c = λ plan told tells.
    let has = rw c.plan_name.ensures at c.in_ok-text.ensures.found in
    plan_read (g.H.Shelf.held c.args.shelf.now) plan c.in_ok-text.text.items c.plan_in.result told tells has
    (rw c.deref.ensures.value at c.plan_in.ensures.found) (rw c.deref.ensures.value at c.plan_in.ensures.refused) c.plan_in.ensures.refusals
