use Rattle.wire.proofs.Laws.{whole_found, whole_only}
use Rattle.si_desc.proofs.Exact.{update_infos_exact}
use Rattle.si_desc.proofs.infos.ssu_infos.Goals as goal

pub returns-clause-found : goal.returns-clause-found
returns-clause-found c = whole_found _ update_infos_exact _ _ c.infos_of.ensures

pub returns-clause-only : goal.returns-clause-only
returns-clause-only c = whole_only _ update_infos_exact _ _ c.infos_of.ensures
