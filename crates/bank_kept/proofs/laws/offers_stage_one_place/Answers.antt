use Rattle.bank_kept.proofs.CallLaws.{done_kept, done_place, offered_holds, offered_kept}
use Rattle.bank_kept.proofs.laws.offers_stage_one_place.Goals as goal

pub returns : goal.returns
returns c = record { left = offered_holds; left_staged = offered_kept; done = done_place; done_staged = done_kept }
