use Rattle.std.proofs.Common.{arith, rules}
use Rattle.si_desc.proofs.Puts.{component_put}
use Rattle.si_desc.proofs.RowLaws.{row_push}
use Rattle.si_desc.proofs.components.put_component_tag.Goals as goal

pub returns-clause-read_back : goal.returns-clause-read_back
returns-clause-read_back c = component_put c.args.tag (omega (arith, c.ranges.tag))

pub returns-clause-row : goal.returns-clause-row
returns-clause-row c = λ row. row_push c.args.out.now.items _ _ _ (component_put c.args.tag (omega (arith, c.ranges.tag))).spelled (search rules) row
