use Rattle.std.proofs.Common.{◌≡◌, ◌+◌, ◌*◌, ◌≤◌, length, drop}
use Rattle.head_plan.specs.Plans.{mentions}
use Rattle.head_plan.proofs.mentions.count_in.Given as goal

abbrev pub invariant-loop-group : goal.invariant-loop-group
invariant-loop-group l = record {
  value : l.count + length (mentions (drop l.group-index l.groups)) ≡ length (mentions l.groups);
  few : l.count ≤ 256 * l.group-index;
}
