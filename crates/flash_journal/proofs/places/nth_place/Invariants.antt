use Rattle.std.specs.Prelude.{sum_by}
use Rattle.std.proofs.Common.{◌≡◌, ◌+◌, ◌≤◌, true, drop}
use Rattle.ssu_group.specs.Place.{place_at}
use Rattle.ssu_group.specs.Plan.{are_joined, block_count, size_of}
use Rattle.flash_journal.proofs.places.nth_place.Given as goal

abbrev pub invariant-loop-module : goal.invariant-loop-module
invariant-loop-module l = record {
  items : l.module-items ≡ l.plan.modules.items;
  joined : are_joined l.plan.block_size l.at l.first (drop l.module-index l.module-items) ≡ true;
  bytes : l.at + sum_by size_of (drop l.module-index l.module-items) ≡ l.plan.total;
  blocks : l.first + sum_by block_count (drop l.module-index l.module-items) ≡ l.plan.places;
  past : l.first ≤ l.number;
  rest : place_at l.plan.block_size (drop l.module-index l.module-items) l.number ≡ place_at l.plan.block_size l.plan.modules.items l.number;
}
