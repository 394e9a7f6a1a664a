use Rattle.ts_crc.proofs.Entries.{entry_7}
use Rattle.ts_crc.proofs.tables.lane_7.Goals as goal

pub returns : goal.returns
returns c = entry_7 c.args.byte c.ranges.byte.fits
