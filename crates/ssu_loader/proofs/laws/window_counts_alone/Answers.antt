use Rattle.ssu_loader.proofs.KeptLaws.{window_alone}
use Rattle.ssu_loader.proofs.WrongLaws.{standing_some}
use Rattle.ssu_loader.proofs.laws.window_counts_alone.Goals as goal

pub returns : goal.returns
returns c = λ me heard choice keeps standing. window_alone me keeps heard choice.plan (standing_some me heard standing.stands)
