use Rattle.bank_kept.proofs.AreaLaws.{one_group}
use Rattle.bank_kept.proofs.laws.one_group_is_held.Goals as goal

pub returns : goal.returns
returns c = one_group
