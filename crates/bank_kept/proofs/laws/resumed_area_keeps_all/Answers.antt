use Rattle.bank_kept.proofs.CallLaws.{all_kept, group_kept}
use Rattle.bank_kept.proofs.laws.resumed_area_keeps_all.Goals as goal

pub returns : goal.returns
returns c = record { group = group_kept; all = all_kept }
