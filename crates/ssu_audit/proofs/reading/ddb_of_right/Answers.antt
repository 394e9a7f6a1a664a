use Rattle.dsmcc_msg.specs.Block.{ddb}
use Rattle.dsmcc_msg.specs.View.{ddb_view}
use Rattle.dsmcc_msg.proofs.Exact.{ddb_exact}
use Rattle.dsmcc_msg.proofs.Reading.{read_exactly}
use Rattle.ssu_audit.proofs.reading.ddb_of_right.Goals as goal

pub returns : goal.returns
returns c = read_exactly ddb ddb_exact ddb_view c.args.section.now c.read_right.result c.read_right.ensures.found c.read_right.ensures.only
