use Rattle.broadcast_laws.proofs.ReceivedLaws.{modules_heard}
use Rattle.broadcast_laws.proofs.laws.received_modules.Goals as goal

pub returns : goal.returns
returns c = modules_heard
