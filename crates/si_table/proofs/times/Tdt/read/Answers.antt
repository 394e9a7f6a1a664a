use Rattle.wire.proofs.Laws.{whole_found, whole_only}
use Rattle.si_table.proofs.Exact.{tdt_exact}
use Rattle.si_table.specs.Views.{tdt_view}
use Rattle.si_table.proofs.times.Tdt.read.Goals as goal

pub returns-clause-found : goal.returns-clause-found
returns-clause-found c = whole_found tdt_view tdt_exact c.args.section.now c.tdt_of.result c.tdt_of.ensures

pub returns-clause-only : goal.returns-clause-only
returns-clause-only c = whole_only tdt_view tdt_exact c.args.section.now c.tdt_of.result c.tdt_of.ensures
