use Rattle.ssu_route.proofs.OwnGroup.{of_own_message}
use Rattle.ssu_route.proofs.laws.choices_have_messages.Goals as goal

pub returns : goal.returns
returns c = of_own_message
