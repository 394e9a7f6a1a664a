use Rattle.audit_replay.proofs.Collecting.{one_image}
use Rattle.audit_replay.proofs.laws.yes_holds_for_sections.Goals as goal

pub returns : goal.returns
returns c = λ calls counts undecided ends me heard chosen image pid dii collects audited listed.
    one_image calls counts undecided ends me heard chosen image pid dii collects audited listed
