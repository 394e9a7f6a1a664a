use Rattle.broadcast_laws.proofs.ReceivedLaws.{window_heard}
use Rattle.broadcast_laws.proofs.laws.received_windows.Goals as goal

pub returns : goal.returns
returns c = window_heard
