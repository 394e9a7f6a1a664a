use Rattle.broadcast_laws.proofs.ForBoxLaws.{is_for_box, is_for_box_over}
use Rattle.broadcast_laws.proofs.laws.heard_groups_are_planned.Goals as goal

pub returns : goal.returns
returns c = record { window = is_for_box; sections = is_for_box_over }
