use Rattle.wire.proofs.Laws.{whole_found, whole_only}
use Rattle.si_desc.specs.Descriptors.{row}
use Rattle.si_desc.proofs.Exact.{row_exact}
use Rattle.si_desc.proofs.rows.descs.Goals as goal

pub returns-clause-found : goal.returns-clause-found
unfolding row
returns-clause-found c = whole_found _ row_exact _ _ c.to_end.ensures

pub returns-clause-only : goal.returns-clause-only
unfolding row
returns-clause-only c = whole_only _ row_exact _ _ c.to_end.ensures
