use Rattle.broadcast_laws.proofs.KindLaws.{ddb_planned}
use Rattle.broadcast_laws.proofs.laws.planned_blocks.Goals as goal

pub returns : goal.returns
returns c = ddb_planned
