use Rattle.std.proofs.Common.{◌∙◌}
use Rattle.ssu_route.proofs.Answering.{groups_count}
use Rattle.ssu_route.proofs.route.Route.groups_len.Goals as goal

pub returns : goal.returns
returns c = λ me heard stands. c.len.ensures.value ∙ groups_count me heard c.args.self.now.kept stands.kept
