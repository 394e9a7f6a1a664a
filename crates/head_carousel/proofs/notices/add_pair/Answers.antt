use Rattle.si_desc.proofs.RowLaws.{empty_row}
use Rattle.head_carousel.proofs.notices.add_pair.Goals as goal

pub pair-requires-clause-target : goal.pair-requires-clause-target
pair-requires-clause-target c = empty_row
