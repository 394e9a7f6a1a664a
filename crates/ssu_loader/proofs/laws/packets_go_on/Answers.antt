use Rattle.ssu_loader.proofs.KeepingLaws.{sections_go_on, sections_moved}
use Rattle.ssu_loader.proofs.laws.packets_go_on.Goals as goal

pub returns : goal.returns
returns c = record { goes_on = sections_go_on; bank = sections_moved }
