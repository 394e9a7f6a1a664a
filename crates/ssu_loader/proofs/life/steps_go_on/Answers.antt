use Rattle.ssu_loader.proofs.StepLaws.{holds_joined, holds_more, holds_section, holds_still, steps_after, steps_install, steps_keep, steps_more}
use Rattle.ssu_loader.proofs.life.steps_go_on.Goals as goal

pub returns : goal.returns
returns c = record {
  still = holds_still;
  section = holds_section;
  joined = holds_joined;
  heard_more = holds_more;
  keeps = steps_keep;
  installs = steps_install;
  after = steps_after;
  more = steps_more;
}
