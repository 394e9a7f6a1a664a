use Rattle.ssu_group.proofs.LayoutLaws.{module_placed}
use Rattle.ssu_group.proofs.laws.modules_lie_in_order.Goals as goal

pub returns : goal.returns
returns c = module_placed
