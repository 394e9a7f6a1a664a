use Rattle.std.proofs.Common.{◌≡◌, drop, map}
use Rattle.std.specs.List.{list_any}
use Rattle.route_tables.specs.Values.{same_service}
use Rattle.route_tables.specs.Standing.{service_view}
use Rattle.route_tables.proofs.linkage.has.Given as goal

abbrev pub invariant-loop-other : goal.invariant-loop-other
invariant-loop-other l =
    list_any (same_service (service_view l.service)) (map service_view (drop l.other-index l.services))
    ≡ list_any (same_service (service_view l.service)) (map service_view l.services)
