use Rattle.std.proofs.Common.{rules}
use Rattle.si_desc.proofs.RowLaws.{row_push}
use Rattle.si_desc.proofs.linkages.put_linkage.Goals as goal

pub returns-clause-row : goal.returns-clause-row
returns-clause-row c = λ row. row_push c.args.out.now.items _ _ _ c.descriptor_of.ensures.read_back.spelled (search rules) row
