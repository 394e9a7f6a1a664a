use Rattle.ts_packet.proofs.Ranges.{ranges}
use Rattle.ts_packet.proofs.packet.read.Goals as goal

pub returns-clause-ranges : goal.returns-clause-ranges
returns-clause-ranges c = ranges c.args.packet.now c.read_slice.result c.read_slice.ensures
