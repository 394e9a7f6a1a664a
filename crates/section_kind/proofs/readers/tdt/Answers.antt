use Rattle.std.proofs.Common.{refl}
use Rattle.section_kind.proofs.Reading.{time_again}
use Rattle.section_kind.proofs.readers.tdt.Goals as goal

pub returns : goal.returns
returns c = rw (c.in_ok-tdt.ensures.reads, time_again c.in_ok-tdt.tdt.time) refl
