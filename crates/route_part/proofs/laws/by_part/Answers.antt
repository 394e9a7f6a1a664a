use Rattle.route_part.proofs.Steps as steps
use Rattle.route_part.proofs.laws.by_part.Goals as goal

pub returns-clause-alone : goal.returns-clause-alone
returns-clause-alone g c = steps.by_part

pub returns-clause-watching : goal.returns-clause-watching
returns-clause-watching g c = steps.by_part_watching
