use Rattle.std.proofs.Common.{◌≡◌, true, ◌∙◌, arith, Some}
use Rattle.toml.specs.View.{items_view}
use Rattle.head_plan.specs.Plans.{texts}
use Rattle.head_plan.specs.PlanText.{is_counted, files_of}
use Rattle.head_plan.proofs.FileLemmas.{AreFiles-found, files_of-end}
use Rattle.head_plan.proofs.read.groups.read_modules.Goals as goal

pub new-requires : goal.new-requires
new-requires c =
    let vs = c.as_slice-items.result.now in
    let found : files_of (items_view vs) ≡ Some (texts c.loop-item.names.items) =
    c.loop-item.invariant ∙ files_of-end (texts c.loop-item.names.items) vs c.loop-item.item-index (omega arith) in
    let counted : is_counted (items_view vs) ≡ true = cc in
    AreFiles-found vs (texts c.loop-item.names.items) counted found
