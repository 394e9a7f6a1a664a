use Rattle.std.proofs.Common.{◌≡◌, ◌+◌, ◌≤◌, ◌++◌, length}
use Rattle.std.specs.Prelude.{sum_by}
use Rattle.wire.specs.Items.{items_of}
use Rattle.dsmcc_msg.specs.Control.{module_entry}
use Rattle.ssu_group.specs.Plan.{laid_out, blocks_of}
use Rattle.ssu_group.specs.Refusal.{total_of}
use Rattle.ssu_group.proofs.layout.lay.Given as goal

abbrev pub invariant-loop-module : goal.invariant-loop-module
invariant-loop-module l = record {
  laid : l.modules.items ++ laid_out l.block_size l.total l.places (items_of module_entry l.module-iterator) ≡ laid_out l.block_size 0 0 l.dii.modules;
  room : length l.modules.items + length (items_of module_entry l.module-iterator) ≤ 506;
  bytes : l.total + total_of (items_of module_entry l.module-iterator) ≡ total_of l.dii.modules;
  blocks : l.places + sum_by (blocks_of l.block_size) (items_of module_entry l.module-iterator) ≡ sum_by (blocks_of l.block_size) l.dii.modules;
}
