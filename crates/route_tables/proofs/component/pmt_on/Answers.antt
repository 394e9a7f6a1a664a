use Rattle.route_tables.proofs.Room.{tagged_room}
use Rattle.route_tables.proofs.component.pmt_on.Goals as goal

pub returns-clause-short : goal.returns-clause-short
returns-clause-short c = tagged_room c.read.result c.args.section.now c.read.ensures.reads
