use Rattle.wire.proofs.Laws.{whole_found, whole_only}
use Rattle.si_table.proofs.Exact.{net_exact}
use Rattle.si_table.specs.Views.{net_view}
use Rattle.si_table.proofs.net.Net.read.Goals as goal

pub returns-clause-found : goal.returns-clause-found
returns-clause-found c = whole_found net_view net_exact c.args.section.now c.net_of.result c.net_of.ensures

pub returns-clause-only : goal.returns-clause-only
returns-clause-only c = whole_only net_view net_exact c.args.section.now c.net_of.result c.net_of.ensures
