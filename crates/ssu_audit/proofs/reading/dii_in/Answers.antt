use Rattle.dsmcc_msg.specs.Control.{dii_message}
use Rattle.dsmcc_msg.proofs.Exact.{dii_message_exact}
use Rattle.dsmcc_msg.proofs.Reading.{reads_it}
use Rattle.ssu_audit.proofs.reading.dii_in.Goals as goal

pub returns : goal.returns
returns c = reads_it dii_message dii_message_exact c.args.message.now c.read_message.result c.read_message.ensures.found c.read_message.ensures.only
