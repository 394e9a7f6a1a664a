use Rattle.flash_stage.proofs.LeavingLaws.{banks_joined, len_same}
use Rattle.flash_stage.proofs.laws.banks_stay.Goals as goal

pub returns : goal.returns
returns c = record { len = len_same; joined = banks_joined }
