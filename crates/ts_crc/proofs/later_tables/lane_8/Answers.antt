use Rattle.ts_crc.proofs.Entries.{entry_8}
use Rattle.ts_crc.proofs.later_tables.lane_8.Goals as goal

pub returns : goal.returns
returns c = entry_8 c.args.byte c.ranges.byte.fits
