use Rattle.std.proofs.Common.{◌≡◌, ◌-◌, ◌≤◌, ◌<◌, ℕ, get_or, length, take}
use Rattle.air_channel.specs.Passing.{changed}
use Rattle.air_channel.specs.declared.change.Change.{Change}
use Rattle.air_channel.proofs.change.Changes.make.Given as goal

abbrev pub invariant-loop-changes : goal.invariant-loop-changes
invariant-loop-changes l = record {
  made : l.packet ≡ changed (take l.next l.changes) l.number l.initial.packet;
  whole : length l.packet ≡ 188;
  behind : (k : ℕ) (d : Change) → l.next ≤ k → k < length l.changes → l.number ≤ (get_or l.changes k d).packet;
}

abbrev pub decreases-loop-changes : goal.decreases-loop-changes
decreases-loop-changes l = length l.changes - l.next
