use Rattle.std.proofs.Common.{refl}
use Rattle.si_table.proofs.Back.{no_streams}
use Rattle.si_table.proofs.pmt_writer.PmtWriter.new.Goals as goal

pub returns : goal.returns
returns c = rw (c.new.ensures.items, no_streams) refl
