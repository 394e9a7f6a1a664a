use Rattle.broadcast_laws.proofs.PlanGroups.{told_apart}
use Rattle.broadcast_laws.proofs.laws.groups_are_told_apart.Goals as goal

pub returns : goal.returns
returns c = λ p images. told_apart 0 p.group images
