use Rattle.wire.proofs.Laws.{whole_found, whole_only_seen}
use Rattle.dsmcc_msg.proofs.Exact.{dsi_exact}
use Rattle.dsmcc_msg.proofs.dsi.Dsi.read.Goals as goal

pub returns-clause-found : goal.returns-clause-found
returns-clause-found c = whole_found (λ d. d) dsi_exact c.args.section.now c.section_of.result c.section_of.ensures

pub returns-clause-only : goal.returns-clause-only
returns-clause-only c = whole_only_seen dsi_exact c.args.section.now c.section_of.result c.section_of.ensures
