use Rattle.ts_crc.proofs.Entries.{entry_5}
use Rattle.ts_crc.proofs.tables.lane_5.Goals as goal

pub returns : goal.returns
returns c = entry_5 c.args.byte c.ranges.byte.fits
