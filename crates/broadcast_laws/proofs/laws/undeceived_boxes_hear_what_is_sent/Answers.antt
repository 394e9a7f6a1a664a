use Rattle.broadcast_laws.proofs.HeardLaws.{heard_right, right_later}
use Rattle.broadcast_laws.proofs.laws.undeceived_boxes_hear_what_is_sent.Goals as goal

pub returns : goal.returns
returns c = λ sections front back undeceived me item among table. undeceived item.section (right_later front back item.section (heard_right me front item among)) table
