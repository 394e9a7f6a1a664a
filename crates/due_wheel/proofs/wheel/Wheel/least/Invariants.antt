use Rattle.std.proofs.Common.{◌≡◌, ◌+◌, ◌%◌, ◌<◌}
use Rattle.due_wheel.proofs.Turning.{Searched}
use Rattle.due_wheel.proofs.wheel.Wheel.least.Given as goal

-- So many buckets were looked at, with a step each.
abbrev pub invariant-loop-past : goal.invariant-loop-past
invariant-loop-past g l = record {
  bucket : l.slot ≡ (l.fn.self.floor + l.past) % l.fn.self.slots;
  below : l.slot < l.fn.self.slots;
  steps : l.steps ≡ l.fn.steps + l.past;
  searched : Searched l.fn.self l.past l.best;
}
