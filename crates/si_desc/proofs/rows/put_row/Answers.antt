use Rattle.si_desc.proofs.RowLaws.{row_put}
use Rattle.si_desc.proofs.rows.put_row.Goals as goal

pub returns-clause-read_back : goal.returns-clause-read_back
returns-clause-read_back c = λ is. row_put c.args.row.now is c.requires.short
