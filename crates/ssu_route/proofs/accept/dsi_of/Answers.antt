use Rattle.dsmcc_msg.specs.Control.{dsi}
use Rattle.dsmcc_msg.proofs.Exact.{dsi_exact}
use Rattle.ssu_route.proofs.Accepting.{read_is}
use Rattle.ssu_route.proofs.accept.dsi_of.Goals as goal

pub returns : goal.returns
returns c = read_is dsi dsi_exact c.args.section.now c.read.result c.read.ensures.found c.read.ensures.only
