use Rattle.std.proofs.Common.{rules}
use Rattle.si_desc.proofs.RowLaws.{row_push}
use Rattle.ssu_unt.proofs.AnnouncedLaws.{update_put}
use Rattle.ssu_unt.proofs.announcing.put_update.Goals as goal

pub returns-clause-read_back : goal.returns-clause-read_back
returns-clause-read_back c = update_put c.args.manual

pub returns-clause-row : goal.returns-clause-row
returns-clause-row c = λ row. row_push c.args.out.now.items _ _ _ (update_put c.args.manual).spelled (search rules) row
