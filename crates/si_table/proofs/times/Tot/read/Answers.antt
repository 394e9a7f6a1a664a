use Rattle.wire.proofs.Laws.{whole_found, whole_only}
use Rattle.si_table.proofs.Exact.{tot_exact}
use Rattle.si_table.specs.Views.{tot_view}
use Rattle.si_table.proofs.times.Tot.read.Goals as goal

pub returns-clause-found : goal.returns-clause-found
returns-clause-found c = whole_found tot_view tot_exact c.args.section.now c.tot_of.result c.tot_of.ensures

pub returns-clause-only : goal.returns-clause-only
returns-clause-only c = whole_only tot_view tot_exact c.args.section.now c.tot_of.result c.tot_of.ensures
