use Rattle.std.proofs.Common.{rules}
use Rattle.si_desc.proofs.RowLaws.{row_push}
use Rattle.ssu_unt.proofs.announcing.put_ssu_subgroup.Goals as goal

pub returns-clause-row : goal.returns-clause-row
returns-clause-row c = λ row. row_push c.args.out.now.items _ _ _ c.subgroup_of.ensures.read_back.spelled (search rules) row
