use Rattle.std.proofs.Common.{Option, subst, arith}
use Rattle.wire.proofs.Laws.{whole_found, whole_only}
use Rattle.wire.specs.Read.{Reads}
use Rattle.section_form.specs.Long.{LongFields, fields}
use Rattle.section_form.proofs.Exact.{long_form_exact}
use Rattle.section_form.proofs.RightForm.{right_form}
use Rattle.section_form.proofs.reading.long_of_right.Goals as goal

pub returns-clause-reads : goal.returns-clause-reads
returns-clause-reads c =
    subst (λ (o : Option LongFields). Reads fields c.unchecked_in.result o)
    (right_form c.args.section.now (λ k. omega (arith, c.type_inv.section k)) c.requires.right) c.unchecked_in.ensures

pub returns-clause-found : goal.returns-clause-found
returns-clause-found c = whole_found fields long_form_exact c.args.section.now c.unchecked_in.result (returns-clause-reads c)

pub returns-clause-only : goal.returns-clause-only
returns-clause-only c = whole_only fields long_form_exact c.args.section.now c.unchecked_in.result (returns-clause-reads c)
