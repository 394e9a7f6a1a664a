use Rattle.std.proofs.Common.{◌≡◌, ◌+◌, length}
use Rattle.head_plan.specs.PlanText.{groups_from}
use Rattle.head_plan.proofs.GroupLemmas.{with_groups, tables_from}
use Rattle.head_plan.proofs.read.groups.read_groups.Given as goal

abbrev pub invariant-loop-item : goal.invariant-loop-item
invariant-loop-item l = record {
  same : groups_from 0 (tables_from l.items 0) ≡ with_groups l.groups.items (groups_from (length l.groups.items) (tables_from l.items l.item-index));
  count : length l.groups.items + length (tables_from l.items l.item-index) ≡ length (tables_from l.items 0);
}
