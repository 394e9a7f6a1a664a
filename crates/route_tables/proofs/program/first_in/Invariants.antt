use Rattle.std.proofs.Common.{◌≡◌, drop, map}
use Rattle.si_table.specs.Views.{pat_view}
use Rattle.route_tables.specs.Next.{first_listed}
use Rattle.route_tables.specs.Standing.{service_view}
use Rattle.route_tables.proofs.program.first_in.Given as goal

abbrev pub invariant-loop-service : goal.invariant-loop-service
invariant-loop-service l =
    first_listed (map service_view (drop l.service-index l.services)) (pat_view l.pat)
    ≡ first_listed (map service_view l.services) (pat_view l.pat)
