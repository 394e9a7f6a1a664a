use Rattle.ts_crc.proofs.Entries.{entry_12}
use Rattle.ts_crc.proofs.later_tables.lane_12.Goals as goal

pub returns : goal.returns
returns c = entry_12 c.args.byte c.ranges.byte.fits
