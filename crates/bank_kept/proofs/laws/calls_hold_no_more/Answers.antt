use Rattle.bank_kept.proofs.CallLaws.{begun_holds, forgotten_holds, joined_holds, same_holds}
use Rattle.bank_kept.proofs.laws.calls_hold_no_more.Goals as goal

pub returns : goal.returns
returns c = record { begun = begun_holds; forgotten = forgotten_holds; same = same_holds; joined = joined_holds }
