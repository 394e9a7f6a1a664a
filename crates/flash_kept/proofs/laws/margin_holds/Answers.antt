use Rattle.flash_kept.proofs.MarginLaws.{margins}
use Rattle.flash_kept.proofs.laws.margin_holds.Goals as goal

pub returns : goal.returns
returns c = margins
