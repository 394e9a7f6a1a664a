use Rattle.wire.proofs.Laws.{front_ends}
use Rattle.ssu_compat.proofs.Exact.{compat_exact}
use Rattle.ssu_compat.proofs.ends.compat_ends.Goals as goal

pub returns-clause-ends : goal.returns-clause-ends
returns-clause-ends c = (front_ends compat_exact).ends

pub returns-clause-one_value : goal.returns-clause-one_value
returns-clause-one_value c = (front_ends compat_exact).one_value
