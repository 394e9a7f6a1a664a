use Rattle.dsmcc_msg.specs.Block.{ddb}
use Rattle.dsmcc_msg.proofs.Exact.{ddb_exact}
use Rattle.dsmcc_msg.specs.View.{ddb_view}
use Rattle.dsmcc_msg.proofs.Reading.{read_exactly}
use Rattle.std.proofs.lemmas.Option.{IfSome_then}
use Rattle.tool_load.proofs.CarriesLaws.{carried_by}
use Rattle.tool_load.proofs.reading.ddb_of.Goals as goal

pub returns-clause-reads : goal.returns-clause-reads
returns-clause-reads c = read_exactly ddb ddb_exact ddb_view c.args.section.now c.read_right.result c.read_right.ensures.found c.read_right.ensures.only

pub returns-clause-carried : goal.returns-clause-carried
returns-clause-carried c = IfSome_then c.read_right.result c.read_right.ensures.found (λ d spelled. carried_by (ddb_view d) c.args.section.now spelled)
