use Rattle.broadcast_laws.proofs.KindLaws.{dsi_planned}
use Rattle.broadcast_laws.proofs.laws.planned_dsis.Goals as goal

pub returns : goal.returns
returns c = dsi_planned
