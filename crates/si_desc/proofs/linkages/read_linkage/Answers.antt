use Rattle.wire.proofs.Laws.{whole_found, whole_only}
use Rattle.si_desc.proofs.Exact.{linkage_exact}
use Rattle.si_desc.proofs.linkages.read_linkage.Goals as goal

pub returns-clause-found : goal.returns-clause-found
returns-clause-found c = whole_found _ linkage_exact _ _ c.linkage_of.ensures

pub returns-clause-only : goal.returns-clause-only
returns-clause-only c = whole_only _ linkage_exact _ _ c.linkage_of.ensures
