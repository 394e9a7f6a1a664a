use Rattle.ssu_route.proofs.Choices.{chosen_some, level_7-none, lost_none, lost_stood, same_stays}
use Rattle.ssu_route.proofs.laws.changes_tell.Goals as goal

pub returns : goal.returns
returns c = record {
  none = level_7-none;
  same = same_stays;
  chosen = chosen_some;
  lost = lost_none;
  stood = lost_stood;
}
