use Rattle.bank_kept.proofs.CallLaws.{kept_joined, kept_weaker}
use Rattle.bank_kept.proofs.laws.calls_keep_what_is_staged.Goals as goal

pub returns : goal.returns
returns c = record { joined = kept_joined; weaker = kept_weaker }
