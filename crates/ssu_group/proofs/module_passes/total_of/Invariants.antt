use Rattle.std.proofs.Common.{◌≡◌, ◌+◌, ◌*◌, ◌≤◌, length}
use Rattle.wire.specs.Items.{items_of}
use Rattle.dsmcc_msg.specs.Control.{module_entry}
use Rattle.ssu_group.specs.Refusal.{total_of}
use Rattle.ssu_group.proofs.module_passes.total_of.Given as goal

abbrev pub invariant-loop-module : goal.invariant-loop-module
invariant-loop-module l = record {
  sum : l.total + total_of (items_of module_entry l.module-iterator) ≡ total_of l.dii.modules;
  room : l.total + 4294967296 * length (items_of module_entry l.module-iterator) ≤ 4294967296 * 506;
}
