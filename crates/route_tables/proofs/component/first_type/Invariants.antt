use Rattle.std.proofs.Common.{◌≡◌}
use Rattle.wire.specs.Items.{items_of}
use Rattle.si_desc.specs.SsuInfo.{info}
use Rattle.route_tables.specs.Levels.{first_type_of}
use Rattle.route_tables.proofs.component.first_type.Given as goal

abbrev pub invariant-loop-info : goal.invariant-loop-info
invariant-loop-info l = first_type_of l.oui (items_of info l.info-iterator) ≡ first_type_of l.oui (items_of info l.fn.infos)
