use Rattle.std.proofs.Common.{refl}
use Rattle.dsmcc_msg.specs.Exact.{group_entry_exact}
use Rattle.dsmcc_msg.proofs.RowLaws.{items_empty}
use Rattle.dsmcc_msg.proofs.dsi_writer.DsiWriter.new.Goals as goal

pub returns : goal.returns
returns c = rw (c.new.ensures.items, items_empty group_entry_exact) refl
