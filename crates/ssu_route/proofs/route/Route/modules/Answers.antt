use Rattle.ssu_route.proofs.Answering.{modules_none, modules_some}
use Rattle.ssu_route.proofs.route.Route.modules.Goals as goal

pub returns-in-Some : goal.returns-in-Some
returns-in-Some c = λ me heard stands.
    modules_some me heard c.args.self.now.kept c.in-Some.choice c.len.result stands.kept c.in-Some.is c.len.ensures.value

pub returns-in-None : goal.returns-in-None
returns-in-None c = λ me heard stands. modules_none me heard c.args.self.now.kept stands.kept c.in-None.is
