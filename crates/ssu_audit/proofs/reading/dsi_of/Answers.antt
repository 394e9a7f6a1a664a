use Rattle.dsmcc_msg.specs.Control.{dsi}
use Rattle.dsmcc_msg.proofs.Exact.{dsi_exact}
use Rattle.dsmcc_msg.proofs.Reading.{reads_it}
use Rattle.ssu_audit.proofs.reading.dsi_of.Goals as goal

pub returns : goal.returns
returns c = reads_it dsi dsi_exact c.args.section.now c.read.result c.read.ensures.found c.read.ensures.only
