use Rattle.wire.proofs.Laws.{front_ends}
use Rattle.dsmcc_msg.proofs.Exact.{message_exact}
use Rattle.dsmcc_msg.proofs.message.message_ends.Goals as goal

pub returns : goal.returns
returns c = front_ends message_exact
