use Rattle.std.proofs.Common.{◌≡◌, drop}
use Rattle.std.specs.List.{find}
use Rattle.dsmcc_msg.specs.View.{ddb_view}
use Rattle.ssu_group.specs.Place.{is_module_of}
use Rattle.ssu_group.proofs.block_places.module_of.Given as goal

abbrev pub invariant-loop-module : goal.invariant-loop-module
invariant-loop-module l = find (is_module_of (ddb_view l.ddb)) (drop l.module-index l.modules) ≡ find (is_module_of (ddb_view l.ddb)) l.modules
