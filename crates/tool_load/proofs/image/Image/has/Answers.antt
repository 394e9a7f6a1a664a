use Rattle.std.proofs.Common.{◌≡◌, ◌<◌, ap, arith}
use Rattle.group_image.specs.Image.{Collected}
use Rattle.group_image.proofs.ImageLaws.{place_below}
use Rattle.tool_load.proofs.image.Image.has.Goals as goal

pub has-requires : goal.has-requires
has-requires c =
    let of = c.requires in
    let below : c.args.place.number < of.plan.places = place_below of.plan c.args.place.number c.args.place of.is_place in
    let same : c.self.inside.map.places ≡ c.args.self.now.map.places = ap (λ (i : Collected). i.map.places) c.self.view_is in
    omega (arith, below, same, of.is_for.places)
