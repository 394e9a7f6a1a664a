use Rattle.route_tables.proofs.Unmoved as unmoved
use Rattle.route_tables.proofs.laws.levels_stay.Goals as goal

pub returns-clause-silent : goal.returns-clause-silent
returns-clause-silent c = unmoved.silent

pub returns-clause-elsewhere : goal.returns-clause-elsewhere
returns-clause-elsewhere c = unmoved.elsewhere
