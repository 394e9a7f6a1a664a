use Rattle.ts_crc.proofs.Entries.{entry_3}
use Rattle.ts_crc.proofs.tables.lane_3.Goals as goal

pub returns : goal.returns
returns c = entry_3 c.args.byte c.ranges.byte.fits
