use Rattle.std.proofs.Common.{◌≡◌, drop, eqb, map}
use Rattle.std.specs.List.{find}
use Rattle.std.specs.Option.{option_map}
use Rattle.route_tables.specs.Standing.{tagged_view}
use Rattle.route_tables.proofs.carousel.pid_of_tag.Given as goal

abbrev pub invariant-loop-stream : goal.invariant-loop-stream
invariant-loop-stream l =
    option_map (λ s. s.pid) (find (λ s. eqb s.tag l.tag) (map tagged_view (drop l.stream-index l.tagged)))
    ≡ option_map (λ s. s.pid) (find (λ s. eqb s.tag l.tag) (map tagged_view l.tagged))
