use Rattle.route_part.proofs.Steps.{fixed_said-none, fixed_said-step}
use Rattle.route_part.proofs.laws.fixed_steps.Goals as goal

pub returns-clause-none : goal.returns-clause-none
returns-clause-none g c = fixed_said-none

pub returns-clause-one_more : goal.returns-clause-one_more
returns-clause-one_more g c = fixed_said-step
