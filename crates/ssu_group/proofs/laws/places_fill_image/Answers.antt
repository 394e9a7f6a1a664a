use Rattle.ssu_group.proofs.PlaceLaws.{fill_image}
use Rattle.ssu_group.proofs.laws.places_fill_image.Goals as goal

pub returns : goal.returns
returns c = fill_image
