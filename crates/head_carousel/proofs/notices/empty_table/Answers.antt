use Rattle.si_desc.proofs.RowLaws.{empty_row}
use Rattle.head_carousel.proofs.notices.empty_table.Goals as goal

pub new-requires-clause-row : goal.new-requires-clause-row
new-requires-clause-row c = empty_row
