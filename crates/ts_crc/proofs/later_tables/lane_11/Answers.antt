use Rattle.ts_crc.proofs.Entries.{entry_11}
use Rattle.ts_crc.proofs.later_tables.lane_11.Goals as goal

pub returns : goal.returns
returns c = entry_11 c.args.byte c.ranges.byte.fits
