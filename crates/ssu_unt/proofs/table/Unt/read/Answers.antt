use Rattle.wire.proofs.Laws.{whole_found, whole_only}
use Rattle.ssu_unt.proofs.Exact.{unt_exact}
use Rattle.ssu_unt.proofs.table.Unt.read.Goals as goal

pub returns-clause-found : goal.returns-clause-found
returns-clause-found c = whole_found _ unt_exact _ _ c.unt_in.ensures

pub returns-clause-only : goal.returns-clause-only
returns-clause-only c = whole_only _ unt_exact _ _ c.unt_in.ensures
