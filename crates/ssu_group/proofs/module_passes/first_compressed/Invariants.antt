use Rattle.std.proofs.Common.{◌≡◌}
use Rattle.wire.specs.Items.{items_of}
use Rattle.dsmcc_msg.specs.Control.{module_entry}
use Rattle.ssu_group.specs.Refusal.{first_compressed}
use Rattle.ssu_group.proofs.module_passes.first_compressed.Given as goal

abbrev pub invariant-loop-module : goal.invariant-loop-module
invariant-loop-module l = first_compressed (items_of module_entry l.module-iterator) ≡ first_compressed l.dii.modules
