use Rattle.ssu_audit.proofs.OneAnswer.{one_answer}
use Rattle.ssu_audit.proofs.OneImages.{yes_means}
use Rattle.ssu_audit.proofs.audit.Audit.end.Goals as goal

pub returns-clause-only : goal.returns-clause-only
returns-clause-only c = λ calls other stands ends. one_answer calls c.answer.result other (c.answer.ensures calls stands) ends

pub returns-clause-one_image : goal.returns-clause-one_image
returns-clause-one_image c = λ calls stands. yes_means calls c.answer.result stands.undecided (c.answer.ensures calls stands)
