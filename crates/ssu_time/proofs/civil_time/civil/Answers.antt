use Rattle.ssu_time.proofs.OfTextLemmas.{civil_of-answer}
use Rattle.ssu_time.proofs.civil_time.civil.Goals as goal

pub returns-clause-value : goal.returns-clause-value
returns-clause-value c = civil_of-answer c.args.text.now c.time_of.result c.time_of.ensures.found c.time_of.ensures.small c.time_of.ensures.only
