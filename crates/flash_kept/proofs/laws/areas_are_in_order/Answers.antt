use Rattle.flash_kept.proofs.PlaceLaws.{in_order, places_lie}
use Rattle.flash_kept.proofs.laws.areas_are_in_order.Goals as goal

pub returns : goal.returns
returns c = record { areas = in_order; places = places_lie }
