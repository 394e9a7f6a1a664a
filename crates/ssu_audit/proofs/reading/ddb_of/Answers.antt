use Rattle.dsmcc_msg.specs.Block.{ddb}
use Rattle.dsmcc_msg.specs.View.{ddb_view}
use Rattle.dsmcc_msg.proofs.Exact.{ddb_exact}
use Rattle.dsmcc_msg.proofs.Reading.{read_exactly}
use Rattle.ssu_audit.proofs.reading.ddb_of.Goals as goal

pub returns : goal.returns
returns c = read_exactly ddb ddb_exact ddb_view c.args.section.now c.read.result c.read.ensures.found c.read.ensures.only
