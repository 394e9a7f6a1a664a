use Rattle.ssu_loader.proofs.DecisionLaws.{reaches_later}
use Rattle.ssu_loader.proofs.FrontLaws.{front_reaches}
use Rattle.ssu_loader.proofs.OneDecisionLaws.{reaches_one}
use Rattle.ssu_loader.proofs.laws.decisions_are_one.Goals as goal

pub returns : goal.returns
returns c = record { one = reaches_one; stays = reaches_later; front = front_reaches }
