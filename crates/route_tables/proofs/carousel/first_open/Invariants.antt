use Rattle.std.proofs.Common.{◌≡◌, drop, map}
use Rattle.std.specs.List.{filter}
use Rattle.ssu_unt.specs.Views.{entry_view}
use Rattle.route_tables.specs.Said.{first_some}
use Rattle.route_tables.specs.Levels.{carousel_at, entry_open}
use Rattle.route_tables.specs.Standing.{tagged_view}
use Rattle.route_tables.proofs.carousel.first_open.Given as goal

abbrev pub invariant-loop-entry : goal.invariant-loop-entry
invariant-loop-entry l =
    first_some (carousel_at (map tagged_view l.tagged)) (filter (entry_open l.manual l.time) (map entry_view (drop l.entry-index l.entries)))
    ≡ first_some (carousel_at (map tagged_view l.tagged)) (filter (entry_open l.manual l.time) (map entry_view l.entries))
