use Rattle.tool_load.proofs.StayLaws.{loaded_stays, bad_stays}
use Rattle.tool_load.proofs.laws.verdict_stays.Goals as goal

pub returns-clause-loaded : goal.returns-clause-loaded
returns-clause-loaded c = λ section sections chosen image is. loaded_stays section sections chosen image is

pub returns-clause-bad : goal.returns-clause-bad
returns-clause-bad c = λ section sections id want found is. bad_stays section sections id want found is
