use Rattle.toml.specs.View.{table_view}
use Rattle.air_channel.proofs.Ranges.{script_of_table}
use Rattle.air_channel.proofs.script.Script.read.Goals as goal

pub returns-clause-fault : goal.returns-clause-fault
returns-clause-fault c = rw (script_of_table c.args.text.now (table_view c.in-Ok.table) c.in-Ok.ensures.table) c.read_script.ensures.fault
