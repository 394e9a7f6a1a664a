use Rattle.std.proofs.Common.{◌+◌, ◌-◌, ◌≤◌, length}
use Rattle.due_wheel.specs.Lists.{items_of}
use Rattle.due_wheel.proofs.FrontLaws.{IsPassing}
use Rattle.due_wheel.proofs.wheel.place_of.Given as goal

-- The items behind this one have greater pairs.
abbrev pub invariant-loop-at : goal.invariant-loop-at
invariant-loop-at g l = record {
  passing : IsPassing l.fn.links.dues (items_of l.fn.links.lists l.slot) l.due l.item l.at (l.steps - l.fn.steps);
  more : l.fn.steps ≤ l.steps;
}

-- The items before it, and it.
abbrev pub decreases-loop-at : goal.decreases-loop-at
decreases-loop-at g l = length (items_of l.fn.links.lists l.slot) + 1 + l.fn.steps - l.steps
