use Rattle.std.proofs.Common.{◌≡◌}
use Rattle.route_tables.specs.Said.{update_type_of}
use Rattle.route_tables.proofs.component.update_type.Given as goal

abbrev pub invariant-loop-desc : goal.invariant-loop-desc
invariant-loop-desc l = update_type_of l.oui l.desc-iterator ≡ update_type_of l.oui l.fn.row
