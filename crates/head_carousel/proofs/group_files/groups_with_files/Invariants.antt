use Rattle.std.proofs.Common.{◌≡◌, ◌++◌, length, drop}
use Rattle.std.specs.Prelude.{map}
use Rattle.head_plan.specs.Plans.{mentions}
use Rattle.head_carousel.specs.GroupFiles.{groups_from}
use Rattle.head_carousel.proofs.group_files.groups_with_files.Given as goal

abbrev pub invariant-loop-index : goal.invariant-loop-index
invariant-loop-index l = record {
  same : l.out.items ++ groups_from l.index (drop l.index l.groups) (map (λ i. i.items) l.rest) ≡ groups_from 0 l.groups (map (λ i. i.items) l.images);
  count : length l.rest ≡ length (mentions (drop l.index l.groups));
}
