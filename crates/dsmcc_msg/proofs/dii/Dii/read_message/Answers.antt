use Rattle.wire.proofs.Laws.{whole_found, whole_only_seen}
use Rattle.dsmcc_msg.proofs.Exact.{dii_message_exact}
use Rattle.dsmcc_msg.proofs.dii.Dii.read_message.Goals as goal

pub returns-clause-found : goal.returns-clause-found
returns-clause-found c = whole_found (λ d. d) dii_message_exact c.args.message.now c.message_of.result c.message_of.ensures

pub returns-clause-only : goal.returns-clause-only
returns-clause-only c = whole_only_seen dii_message_exact c.args.message.now c.message_of.result c.message_of.ensures
