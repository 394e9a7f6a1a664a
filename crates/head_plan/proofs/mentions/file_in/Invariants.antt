use Rattle.std.proofs.Common.{◌≡◌, ◌<◌, length, drop}
use Rattle.std.specs.Prelude.{slice_get}
use Rattle.head_plan.specs.Plans.{mentions}
use Rattle.head_plan.proofs.mentions.file_in.Given as goal

abbrev pub invariant-loop-group : goal.invariant-loop-group
invariant-loop-group l = record {
  same : slice_get (mentions (drop l.group-index l.groups)) l.left ≡ slice_get (mentions l.groups) l.k;
  within : l.left < length (mentions (drop l.group-index l.groups));
}
