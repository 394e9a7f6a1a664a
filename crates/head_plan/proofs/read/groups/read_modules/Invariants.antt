use Rattle.std.proofs.Common.{◌≡◌, drop}
use Rattle.toml.specs.View.{items_view}
use Rattle.head_plan.specs.Plans.{texts}
use Rattle.head_plan.specs.PlanText.{files_of}
use Rattle.head_plan.proofs.FileLemmas.{with_files}
use Rattle.head_plan.proofs.read.groups.read_modules.Given as goal

abbrev pub invariant-loop-item : goal.invariant-loop-item
invariant-loop-item l =
    files_of (items_view l.items) ≡ with_files (texts l.names.items) (files_of (items_view (drop l.item-index l.items)))
