use Rattle.std.proofs.Common.{◌≤◌, arith}
use Rattle.group_image.proofs.ImageLaws.{places-le-total}
use Rattle.group_image.proofs.image.GroupImage.with_room.Goals as goal

pub returns-clause-room : goal.returns-clause-room
returns-clause-room c = λ plan fits.
    let is = plan.planned in
    let few : plan.places ≤ plan.total = places-le-total plan in
    record {
      places = omega (arith, few, is.most_places, fits, c.in_ok-map.ensures.room, c.min.ensures);
      total = omega (arith, fits, c.in_ok-buffer.ensures.len);
    }
