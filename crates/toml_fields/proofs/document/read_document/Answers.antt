use Rattle.std.proofs.Common.{◌∙◌}
use Rattle.toml_fields.proofs.Documents.{document_of-utf8, document_of-other}
use Rattle.toml_fields.proofs.document.read_document.Goals as goal

pub returns-in_default-clause-refused : goal.returns-in_default-clause-refused
returns-in_default-clause-refused c _ = document_of-other c.args.text.now c.in_default.ensures.cases.0

pub returns-in-Ok-table_from_str-clause-table : goal.returns-in-Ok-table_from_str-clause-table
returns-in-Ok-table_from_str-clause-table c =
    document_of-utf8 c.args.text.now c.in-Ok.text.now c.in-Ok.ensures.cases.0 c.in-Ok.ensures.cases.1 ∙ c.in-Ok-table_from_str.ensures.ok
