use Rattle.ssu_audit.proofs.OneAnswer.{one_answer}
use Rattle.ssu_audit.proofs.laws.answers_are_one.Goals as goal

pub returns : goal.returns
returns c = λ calls one other ends other_ends. one_answer calls one other ends other_ends
