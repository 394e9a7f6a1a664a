use Rattle.std.proofs.Common.{sym}
use Rattle.std.specs.Option.{option_map}
use Rattle.route_tables.specs.Standing.{component_view}
use Rattle.route_tables.proofs.Itself.{component_itself}
use Rattle.route_tables.proofs.component.hear.Goals as goal

pub returns-in-None-clause-same : goal.returns-in-None-clause-same
returns-in-None-clause-same c = sym (component_itself (option_map component_view c.args.component.now))
