use Rattle.ssu_unt.proofs.AnnouncedLaws.{subgroup_put}
use Rattle.ssu_unt.proofs.announcing.subgroup_of.Goals as goal

pub returns-clause-read_back : goal.returns-clause-read_back
returns-clause-read_back c = subgroup_put c.args.subgroup c.requires
