use Rattle.dsmcc_msg.specs.Control.{dii}
use Rattle.dsmcc_msg.proofs.Exact.{dii_exact}
use Rattle.dsmcc_msg.proofs.Reading.{reads_it}
use Rattle.ssu_audit.proofs.reading.dii_of.Goals as goal

pub returns : goal.returns
returns c = reads_it dii dii_exact c.args.section.now c.read.result c.read.ensures.found c.read.ensures.only
