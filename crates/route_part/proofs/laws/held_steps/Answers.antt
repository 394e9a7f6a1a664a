use Rattle.route_part.proofs.Steps.{held_said-none, held_said-step}
use Rattle.route_part.proofs.laws.held_steps.Goals as goal

pub returns-clause-none : goal.returns-clause-none
returns-clause-none g c = held_said-none

pub returns-clause-one_more : goal.returns-clause-one_more
returns-clause-one_more g c = held_said-step
