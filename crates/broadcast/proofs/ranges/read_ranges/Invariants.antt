use Rattle.std.proofs.Common.{take}
use Rattle.std.specs.List.{All}
use Rattle.broadcast_laws.specs.Planned.{IsGroupInRange}
use Rattle.broadcast.proofs.ranges.read_ranges.Given as goal

abbrev pub invariant-loop-group : goal.invariant-loop-group
invariant-loop-group l = All IsGroupInRange (take l.group-index l.plan.group)
