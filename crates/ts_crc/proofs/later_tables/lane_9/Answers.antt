use Rattle.ts_crc.proofs.Entries.{entry_9}
use Rattle.ts_crc.proofs.later_tables.lane_9.Goals as goal

pub returns : goal.returns
returns c = entry_9 c.args.byte c.ranges.byte.fits
