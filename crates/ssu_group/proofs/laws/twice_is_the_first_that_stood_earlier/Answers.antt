use Rattle.std.proofs.Common.{[]}
use Rattle.ssu_group.proofs.LayoutLaws.{repeat_found, found_stood}
use Rattle.ssu_group.proofs.laws.twice_is_the_first_that_stood_earlier.Goals as goal

pub returns-clause-found : goal.returns-clause-found
returns-clause-found c = repeat_found

pub returns-clause-stood : goal.returns-clause-stood
returns-clause-stood c = found_stood []
