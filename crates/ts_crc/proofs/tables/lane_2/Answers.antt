use Rattle.ts_crc.proofs.Entries.{entry_2}
use Rattle.ts_crc.proofs.tables.lane_2.Goals as goal

pub returns : goal.returns
returns c = entry_2 c.args.byte c.ranges.byte.fits
