use Rattle.flash_kept.proofs.AreaLaws.{blank_or_lost, some_free}
use Rattle.flash_kept.proofs.laws.places_are_blank_or_lost.Goals as goal

pub returns : goal.returns
returns c = record { either = blank_or_lost; slot = some_free }
