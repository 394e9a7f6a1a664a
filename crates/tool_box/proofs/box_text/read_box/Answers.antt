use Rattle.std.proofs.lemmas.Result.{err_from_is_err_and}
use Rattle.tool_box.specs.Boxes.{box_name}
use Rattle.tool_box.proofs.FetchLaws.{box_read, value_not_fetched}
use Rattle.tool_box.proofs.box_text.read_box.Goals as goal

pub returns-in_err-text-clause-told : goal.returns-in_err-text-clause-told
returns-in_err-text-clause-told g c = λ b told tells.
    let p = err_from_is_err_and c.from_residual.result c.from_residual.ensures.1 in
    let absence = rw c.box_name.ensures at c.in_err-text.ensures.absent in
    rw (p.1, p.2) (value_not_fetched _ _ (g.H.Shelf.held c.args.shelf.now) box_name tells.text b c.in_err-text.field-0.0 told tells.has c.in_err-text.ensures.refusals absence)

pub returns-clause-told : goal.returns-clause-told
returns-clause-told g c = λ b told tells.
    let has = rw c.box_name.ensures at c.in_ok-text.ensures.found in
    box_read (g.H.Shelf.held c.args.shelf.now) b c.in_ok-text.text.items c.box_in.result told tells has
    (rw c.deref.ensures.value at c.box_in.ensures.found) (rw c.deref.ensures.value at c.box_in.ensures.refused) c.box_in.ensures.refusals
