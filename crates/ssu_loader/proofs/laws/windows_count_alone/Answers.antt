use Rattle.ssu_loader.proofs.WindowsLaws.{windows_alone}
use Rattle.ssu_loader.proofs.WrongLaws.{standing_some}
use Rattle.ssu_loader.proofs.laws.windows_count_alone.Goals as goal

pub returns : goal.returns
returns c = λ me heard choice nothing standing. windows_alone me nothing heard choice.plan (standing_some me heard standing.stands)
