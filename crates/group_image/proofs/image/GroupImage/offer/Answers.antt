use Rattle.std.proofs.Common.{◌≡◌, ◌+◌, ◌<◌, ◌≤◌, ℕ, List, ◌++◌, take, drop, length, true, false, sym, ap, ◌∙◌, arith}
use Rattle.group_image.specs.Image.{Collected, is_there}
use Rattle.group_image.proofs.ImageLaws.{place_below, place_inside, offered, offered_again}
use Rattle.group_image.proofs.image.GroupImage.offer.Goals as goal

pub has-requires : goal.has-requires
has-requires c =
    let of = c.requires.place in
    let below : c.args.place.number < of.plan.places = place_below of.plan c.args.place.number c.args.place of.is_place in
    let same : c.self.inside.map.places ≡ c.args.self.now.map.places = ap (λ (i : Collected). i.map.places) c.self.view_is in
    omega (arith, below, of.is_for.places)

pub write_at-requires : goal.write_at-requires
write_at-requires c =
    let of = c.requires.place in
    let inside : c.args.place.at + c.args.place.len ≤ of.plan.total = place_inside of.plan c.args.place of.is_place in
    let same : c.self.inside.total ≡ c.args.self.now.total = ap (λ (i : Collected). i.total) c.self.view_is in
    omega (arith, inside, of.is_for.total)

pub mark-requires : goal.mark-requires
mark-requires c =
    let of = c.requires.place in
    let below : c.args.place.number < of.plan.places = place_below of.plan c.args.place.number c.args.place of.is_place in
    let same : c.self.inside.map.places ≡ c.args.self.now.map.places = ap (λ (i : Collected). i.map.places) c.self.view_is in
    omega (arith, below, of.is_for.places)

pub returns-then-has-clause-bytes : goal.returns-then-has-clause-bytes
returns-then-has-clause-bytes c = λ plan is_place number.
    let there : is_there c.args.self.now c.args.place.number ≡ true =
    ap (λ (i : Collected). is_there i c.args.place.number) (sym c.self.view_is) ∙ sym c.has.ensures ∙ c.if-has.true in
    offered_again plan c.args.self.now c.args.place c.args.bytes.now number there

pub returns-clause-bytes : goal.returns-clause-bytes
returns-clause-bytes c = λ plan is_place number.
    let of = c.requires.place in
    let end : c.args.place.at + c.args.place.len ≤ of.plan.total = place_inside of.plan c.args.place of.is_place in
    let total : c.self.inside.total ≡ c.args.self.now.total = ap (λ (i : Collected). i.total) c.self.view_is in
    let buffer : c.self.inside.buffer.items ≡ c.args.self.now.buffer = ap (λ (i : Collected). i.buffer) c.self.view_is in
    let inside : c.args.place.at + length c.args.bytes.now ≤ length c.args.self.now.buffer = omega (arith, end, of.is_for.total, ap length buffer) in
    let missing : is_there c.args.self.now c.args.place.number ≡ false =
    ap (λ (i : Collected). is_there i c.args.place.number) (sym c.self.view_is) ∙ sym c.has.ensures ∙ c.if-has.false in
    offered plan c.args.self.now _ c.args.place c.args.bytes.now number is_place c.requires.length inside missing
    (c.write_at.ensures ∙ ap (λ (xs : List ℕ). take c.args.place.at xs ++ c.args.bytes.now ++ drop (c.args.place.at + length c.args.bytes.now) xs) buffer)
