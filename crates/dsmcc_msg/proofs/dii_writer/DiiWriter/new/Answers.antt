use Rattle.std.proofs.Common.{refl}
use Rattle.dsmcc_msg.specs.Exact.{module_entry_exact}
use Rattle.dsmcc_msg.proofs.RowLaws.{items_empty}
use Rattle.dsmcc_msg.proofs.dii_writer.DiiWriter.new.Goals as goal

pub returns : goal.returns
returns c = rw (c.new.ensures.items, items_empty module_entry_exact) refl
