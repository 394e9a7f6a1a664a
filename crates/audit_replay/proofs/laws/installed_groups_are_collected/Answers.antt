use Rattle.audit_replay.proofs.Collecting.{collected}
use Rattle.audit_replay.proofs.laws.installed_groups_are_collected.Goals as goal

pub returns : goal.returns
returns c = λ me heard chosen image keeps reaches. collected me keeps heard chosen image reaches
