use Rattle.si_desc.proofs.RowLaws.{empty_row}
use Rattle.si_table.proofs.Back.{one_empty_more}
use Rattle.format_tests.proofs.si_table_tests.empty_descriptors.Goals as goal

pub loop-init : goal.loop-init
loop-init c = rw c.new-row.ensures.items empty_row

pub loop-preserved : goal.loop-preserved
loop-preserved c = rw (c.in_ok-extend_from_slice.ensures {u = tt}).items (one_empty_more c.loop.row.items c.loop.invariant)
