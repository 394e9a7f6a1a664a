use Rattle.ts_crc.proofs.Entries.{entry_1}
use Rattle.ts_crc.proofs.tables.lane_1.Goals as goal

pub returns : goal.returns
returns c = entry_1 c.args.byte c.ranges.byte.fits
