use Rattle.wire.proofs.Laws.{whole_found, whole_only}
use Rattle.section_form.proofs.Exact.{long_form_exact}
use Rattle.section_form.specs.Long.{fields}
use Rattle.section_form.proofs.reading.long.Goals as goal

pub returns-clause-found : goal.returns-clause-found
returns-clause-found c = whole_found fields long_form_exact c.args.section.now c.fields_in.result c.fields_in.ensures

pub returns-clause-only : goal.returns-clause-only
returns-clause-only c = whole_only fields long_form_exact c.args.section.now c.fields_in.result c.fields_in.ensures
