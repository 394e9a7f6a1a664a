use Rattle.flash_stage.proofs.TextLaws.{one_outline}
use Rattle.flash_stage.proofs.laws.same_modules_have_one_outline.Goals as goal

pub returns : goal.returns
returns c = one_outline
