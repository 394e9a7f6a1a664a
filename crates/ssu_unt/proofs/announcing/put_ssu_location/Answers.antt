use Rattle.std.proofs.Common.{arith, rules}
use Rattle.si_desc.proofs.RowLaws.{row_push}
use Rattle.ssu_unt.proofs.AnnouncedLaws.{location_put}
use Rattle.ssu_unt.proofs.announcing.put_ssu_location.Goals as goal

pub returns-clause-read_back : goal.returns-clause-read_back
returns-clause-read_back c = location_put c.args.tag (omega (arith, c.ranges.tag))

pub returns-clause-row : goal.returns-clause-row
returns-clause-row c = λ row. row_push c.args.out.now.items _ _ _ (location_put c.args.tag (omega (arith, c.ranges.tag))).spelled (search rules) row
