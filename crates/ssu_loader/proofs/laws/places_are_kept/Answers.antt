use Rattle.ssu_loader.proofs.FirstLaws.{before_first, begins_again, begins_anew, ends_with, stands_on}
use Rattle.ssu_loader.proofs.KeptLaws.{stays_filled}
use Rattle.ssu_loader.proofs.laws.places_are_kept.Goals as goal

pub returns : goal.returns
returns c = record { first = before_first; stays = stands_on; ends = ends_with; has = stays_filled; again = begins_again; anew = begins_anew }
