use Rattle.bank_kept.proofs.CallLaws.{erased_none}
use Rattle.bank_kept.proofs.laws.erased_journal_holds_nothing.Goals as goal

pub returns : goal.returns
returns c = erased_none
