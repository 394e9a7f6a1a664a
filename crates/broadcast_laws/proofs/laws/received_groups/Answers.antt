use Rattle.broadcast_laws.proofs.ReceivedLaws.{groups_heard}
use Rattle.broadcast_laws.proofs.laws.received_groups.Goals as goal

pub returns : goal.returns
returns c = groups_heard
