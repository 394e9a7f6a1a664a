use Rattle.ts_crc.proofs.Entries.{entry_15}
use Rattle.ts_crc.proofs.later_tables.lane_15.Goals as goal

pub returns : goal.returns
returns c = entry_15 c.args.byte c.ranges.byte.fits
