use Rattle.std.proofs.Common.{◌≡◌, length, map, arith, sym, ◌∙◌}
use Rattle.std.proofs.lemmas.List.{length-map}
use Rattle.route_tables.specs.Values.{same_stream}
use Rattle.route_tables.specs.Standing.{tagged_view}
use Rattle.route_tables.proofs.Lists.{unlike}
use Rattle.route_tables.proofs.component.are_same_streams.Goals as goal

pub returns-then-streams-others : goal.returns-then-streams-others
returns-then-streams-others c =
    let xs = c.args.streams.now in
    let ys = c.args.others.now in
    unlike same_stream (map tagged_view xs) (map tagged_view ys)
    (λ e. let same : length xs ≡ length ys = sym (length-map xs tagged_view) ∙ e ∙ length-map ys tagged_view in absurd (omega (arith, c.if-streams-others.true)))
