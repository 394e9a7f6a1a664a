use Rattle.ts_crc.proofs.Entries.{entry_6}
use Rattle.ts_crc.proofs.tables.lane_6.Goals as goal

pub returns : goal.returns
returns c = entry_6 c.args.byte c.ranges.byte.fits
