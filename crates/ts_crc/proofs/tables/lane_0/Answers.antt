use Rattle.ts_crc.proofs.Entries.{entry_0}
use Rattle.ts_crc.proofs.tables.lane_0.Goals as goal

pub returns : goal.returns
returns c = entry_0 c.args.byte c.ranges.byte.fits
