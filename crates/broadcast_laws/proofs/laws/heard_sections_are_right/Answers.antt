use Rattle.broadcast_laws.proofs.HeardLaws.{heard_right}
use Rattle.broadcast_laws.proofs.laws.heard_sections_are_right.Goals as goal

pub returns : goal.returns
returns c = heard_right
