use Rattle.wire.specs.Items.{items_of}
use Rattle.si_desc.proofs.Exact.{update_ouis_exact}
use Rattle.si_desc.specs.Linkage.{oui_entry}
use Rattle.si_desc.proofs.linkages.lists_oui.Goals as goal

pub returns-in_err-entries-clause-only : goal.returns-in_err-entries-clause-only
returns-in_err-entries-clause-only c = λ entries spelled.
    let is = update_ouis_exact.again entries _ spelled in
    let none = c.in_err-entries.ensures in cc

pub returns-clause-found : goal.returns-clause-found
returns-clause-found c =
    (items_of oui_entry c.in_ok-entries.entries, update_ouis_exact.takes _ _ c.in_ok-entries.ensures, c.has_oui.ensures)

pub returns-clause-only : goal.returns-clause-only
returns-clause-only c = λ entries spelled.
    let is = update_ouis_exact.again entries _ spelled in
    let read = c.in_ok-entries.ensures in cc
