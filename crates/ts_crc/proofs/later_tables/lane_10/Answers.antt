use Rattle.ts_crc.proofs.Entries.{entry_10}
use Rattle.ts_crc.proofs.later_tables.lane_10.Goals as goal

pub returns : goal.returns
returns c = entry_10 c.args.byte c.ranges.byte.fits
