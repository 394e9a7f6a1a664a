use Rattle.std.proofs.Common.{◌≡◌, ◌+◌, ◌<◌, ◌≤◌, length, ap, arith}
use Rattle.group_image.specs.Image.{Collected}
use Rattle.group_image.proofs.ImageLaws.{place_below, place_inside}
use Rattle.tool_load.proofs.GrowingLaws.{laid_within}
use Rattle.tool_load.proofs.image.Image.put.Goals as goal

pub write_padded-requires : goal.write_padded-requires
write_padded-requires c =
    let of = c.requires.place in
    let inside : c.args.place.at + c.args.place.len ≤ of.plan.total = place_inside of.plan c.args.place of.is_place in
    let same : c.self.inside.total ≡ c.args.self.now.total = ap (λ (i : Collected). i.total) c.self.view_is in
    omega (arith, inside, same, of.is_for.total, c.requires.length, c.self.invariant.1)

pub mark-requires : goal.mark-requires
mark-requires c =
    let of = c.requires.place in
    let below : c.args.place.number < of.plan.places = place_below of.plan c.args.place.number c.args.place of.is_place in
    let same : c.self.inside.map.places ≡ c.args.self.now.map.places = ap (λ (i : Collected). i.map.places) c.self.view_is in
    omega (arith, below, same, of.is_for.places)

pub invariant_of-self : goal.invariant_of-self
invariant_of-self c =
    let of = c.requires.place in
    let inside : c.args.place.at + c.args.place.len ≤ of.plan.total = place_inside of.plan c.args.place of.is_place in
    let same : c.self.inside.total ≡ c.args.self.now.total = ap (λ (i : Collected). i.total) c.self.view_is in
    let fits : c.args.place.at + length c.args.bytes.now ≤ c.self.inside.total = omega (arith, inside, same, of.is_for.total, c.requires.length) in
    let within = laid_within c.self.inside.buffer.items c.args.bytes.now c.args.place.at c.self.inside.total (omega (arith, c.self.invariant.0)) fits in
    (omega (arith, within, ap length c.write_padded.ensures.bytes), omega (arith, c.self.invariant.1, c.write_padded.ensures.room))
