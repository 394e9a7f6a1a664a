use Rattle.std.proofs.Common.{◌≡◌, length}
use Rattle.part_tests.proofs.due_wheel_tests.put_each.Given as goal

abbrev pub invariant-loop-item : goal.invariant-loop-item
invariant-loop-item g l = length l.wheel.dues ≡ l.items
