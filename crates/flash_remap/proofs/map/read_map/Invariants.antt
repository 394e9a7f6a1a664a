use Rattle.std.proofs.Common.{◌≡◌, ◌≤◌, length}
use Rattle.flash_remap.specs.Map.{IsNextOf, counting_before, next_slot_before}
use Rattle.flash_remap.specs.Reads.{ChangesNothing}
use Rattle.flash_remap.specs.Shape.{geometry}
use Rattle.flash_remap.proofs.map.read_map.Given as goal

-- what the slots so far say
abbrev pub invariant-loop-slot : goal.invariant-loop-slot
invariant-loop-slot g l = record {
  entries : g.F.Flash.tells → l.found.entries.items ≡ counting_before (geometry l.layout) (g.F.Flash.contents l.fn.inner) l.slot;
  used : g.F.Flash.tells → l.found.next.slot ≡ next_slot_before (geometry l.layout) (g.F.Flash.contents l.fn.inner) l.slot;
  next_is : IsNextOf l.found.entries.items l.found.next.spare;
  few : length l.found.entries.items ≤ l.found.next.spare;
  most_spare : l.found.next.spare ≤ l.layout.spares;
  most_slot : l.found.next.slot ≤ l.slot;
  reads : ChangesNothing g.F.Flash l.fn.inner l.inner;
  later : g.F.Flash.faults l.fn.inner ≤ g.F.Flash.faults l.inner;
}
