use Rattle.wire.proofs.Laws.{whole_found, whole_only}
use Rattle.dsmcc_msg.proofs.Exact.{ddb_exact}
use Rattle.dsmcc_msg.specs.View.{ddb_view}
use Rattle.dsmcc_msg.proofs.ddb.Ddb.read_right.Goals as goal

pub returns-clause-found : goal.returns-clause-found
returns-clause-found c = whole_found ddb_view ddb_exact c.args.section.now c.right_section_of.result c.right_section_of.ensures

pub returns-clause-only : goal.returns-clause-only
returns-clause-only c = whole_only ddb_view ddb_exact c.args.section.now c.right_section_of.result c.right_section_of.ensures
