use Rattle.ts_crc.proofs.Entries.{entry_14}
use Rattle.ts_crc.proofs.later_tables.lane_14.Goals as goal

pub returns : goal.returns
returns c = entry_14 c.args.byte c.ranges.byte.fits
