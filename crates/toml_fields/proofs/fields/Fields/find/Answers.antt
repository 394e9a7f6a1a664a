use Rattle.toml.proofs.Views.{table_get}
use Rattle.toml_fields.proofs.fields.Fields.find.Goals as goal

pub returns : goal.returns
returns c = table_get c.get.result c.args.name.now c.args.self.now.table.now.entries c.get.ensures.value
