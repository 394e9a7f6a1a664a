use Rattle.std.proofs.Common.{◌∙◌, ap}
use Rattle.std.specs.Prelude.{not}
use Rattle.ssu_route.proofs.TakingLaws.{ends_none, ends_some}
use Rattle.ssu_route.proofs.kept.Kept.end_choice.Goals as goal

pub returns-then-is_none-clause-change : goal.returns-then-is_none-clause-change
returns-then-is_none-clause-change c = ends_none c.args.self.now (c.is_none.ensures ∙ ap not c.if-is_none.true)

pub returns-clause-change : goal.returns-clause-change
returns-clause-change c = ends_some c.args.self.now (c.is_none.ensures ∙ ap not c.if-is_none.false)
