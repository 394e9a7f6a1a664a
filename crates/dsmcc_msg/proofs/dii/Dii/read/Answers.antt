use Rattle.wire.proofs.Laws.{whole_found, whole_only_seen}
use Rattle.dsmcc_msg.proofs.Exact.{dii_exact}
use Rattle.dsmcc_msg.proofs.dii.Dii.read.Goals as goal

pub returns-clause-found : goal.returns-clause-found
returns-clause-found c = whole_found (λ d. d) dii_exact c.args.section.now c.section_of.result c.section_of.ensures

pub returns-clause-only : goal.returns-clause-only
returns-clause-only c = whole_only_seen dii_exact c.args.section.now c.section_of.result c.section_of.ensures
