use Rattle.ts_crc.proofs.Entries.{entry_13}
use Rattle.ts_crc.proofs.later_tables.lane_13.Goals as goal

pub returns : goal.returns
returns c = entry_13 c.args.byte c.ranges.byte.fits
