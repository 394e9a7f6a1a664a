use Rattle.broadcast_laws.proofs.KindLaws.{dii_planned}
use Rattle.broadcast_laws.proofs.laws.planned_diis.Goals as goal

pub returns : goal.returns
returns c = dii_planned
