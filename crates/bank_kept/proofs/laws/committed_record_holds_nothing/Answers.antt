use Rattle.bank_kept.proofs.CallLaws.{committed_none}
use Rattle.bank_kept.proofs.laws.committed_record_holds_nothing.Goals as goal

pub returns : goal.returns
returns c = committed_none
