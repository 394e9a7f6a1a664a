use Rattle.std.proofs.Common.{◌≡◌, ◌≤◌, length, take}
use Rattle.std.specs.Prelude.{map}
use Rattle.head_plan.specs.Plans.{mentions}
use Rattle.tool_build.specs.Held.{HasEach}
use Rattle.tool_build.proofs.images.read_images.Given as goal

abbrev pub invariant-loop-k : goal.invariant-loop-k
invariant-loop-k g l = record {
  each : HasEach (g.H.Shelf.held l.fn.shelf) (take l.k (mentions l.fn.plan.group)) (map (λ i. i.items) l.images.items);
  count : length l.images.items ≡ l.k;
  same : g.H.Shelf.held l.shelf ≡ g.H.Shelf.held l.fn.shelf;
  faults : g.H.Shelf.faults l.fn.shelf ≤ g.H.Shelf.faults l.shelf;
  absences : g.H.Shelf.absences l.fn.shelf ≤ g.H.Shelf.absences l.shelf;
}
