use Rattle.ssu_loader.proofs.OriginLaws.{comes_of}
use Rattle.ssu_loader.proofs.life.places_are_staged_or_heard.Goals as goal

pub returns : goal.returns
returns c = comes_of
