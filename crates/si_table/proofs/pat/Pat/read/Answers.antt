use Rattle.wire.proofs.Laws.{whole_found, whole_only}
use Rattle.si_table.proofs.Exact.{pat_exact}
use Rattle.si_table.specs.Views.{pat_view}
use Rattle.si_table.proofs.pat.Pat.read.Goals as goal

pub returns-clause-found : goal.returns-clause-found
returns-clause-found c = whole_found pat_view pat_exact c.args.section.now c.pat_of.result c.pat_of.ensures

pub returns-clause-only : goal.returns-clause-only
returns-clause-only c = whole_only pat_view pat_exact c.args.section.now c.pat_of.result c.pat_of.ensures
