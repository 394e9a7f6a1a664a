use Rattle.ts_crc.proofs.Entries.{entry_4}
use Rattle.ts_crc.proofs.tables.lane_4.Goals as goal

pub returns : goal.returns
returns c = entry_4 c.args.byte c.ranges.byte.fits
