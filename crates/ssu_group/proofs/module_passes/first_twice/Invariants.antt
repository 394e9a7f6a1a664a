use Rattle.std.proofs.Common.{◌≡◌, ◌+◌, ◌≤◌, [], length}
use Rattle.wire.specs.Items.{items_of}
use Rattle.dsmcc_msg.specs.Control.{module_entry}
use Rattle.ssu_group.specs.Refusal.{first_twice}
use Rattle.ssu_group.proofs.module_passes.first_twice.Given as goal

abbrev pub invariant-loop-module : goal.invariant-loop-module
invariant-loop-module l = record {
  same : first_twice l.earlier.items (items_of module_entry l.module-iterator) ≡ first_twice [] l.dii.modules;
  room : length l.earlier.items + length (items_of module_entry l.module-iterator) ≤ 506;
}
