use Rattle.std.proofs.Common.{◌≡◌, map}
use Rattle.route_tables.specs.Said.{linked_services}
use Rattle.route_tables.specs.Next.{add_services}
use Rattle.route_tables.specs.Standing.{service_view}
use Rattle.route_tables.proofs.linkage.add_linked.Given as goal

abbrev pub invariant-loop-desc : goal.invariant-loop-desc
invariant-loop-desc l =
    add_services (map service_view l.services.items) (linked_services l.oui l.desc-iterator)
    ≡ add_services (map service_view l.initial.services.items) (linked_services l.oui l.fn.row)
