use Rattle.wire.proofs.Laws.{whole_found, whole_only}
use Rattle.si_table.proofs.Exact.{pmt_exact}
use Rattle.si_table.specs.Views.{pmt_view}
use Rattle.si_table.proofs.pmt.Pmt.read.Goals as goal

pub returns-clause-found : goal.returns-clause-found
returns-clause-found c = whole_found pmt_view pmt_exact c.args.section.now c.pmt_of.result c.pmt_of.ensures

pub returns-clause-only : goal.returns-clause-only
returns-clause-only c = whole_only pmt_view pmt_exact c.args.section.now c.pmt_of.result c.pmt_of.ensures
