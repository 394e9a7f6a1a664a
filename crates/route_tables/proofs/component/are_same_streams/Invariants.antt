use Rattle.std.proofs.Common.{◌≡◌, drop, map}
use Rattle.route_tables.specs.Values.{same_list, same_stream}
use Rattle.route_tables.specs.Standing.{tagged_view}
use Rattle.route_tables.proofs.component.are_same_streams.Given as goal

abbrev pub invariant-loop-i : goal.invariant-loop-i
invariant-loop-i l =
    same_list same_stream (map tagged_view (drop l.i l.streams)) (map tagged_view (drop l.i l.others))
    ≡ same_list same_stream (map tagged_view l.streams) (map tagged_view l.others)
