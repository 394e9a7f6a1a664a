use Rattle.ssu_loader.proofs.WindowsLaws.{first_choice_has}
use Rattle.ssu_loader.proofs.laws.first_choice_has_what_is_staged.Goals as goal

pub returns : goal.returns
returns c = first_choice_has
