use Rattle.ssu_route.proofs.Answering.{has_usable, is_choice, stands_none, stands_some}
use Rattle.ssu_route.proofs.route.Route.choice.Goals as goal

pub returns-in-Some : goal.returns-in-Some
returns-in-Some c = record {
  standing = λ me heard stands. stands_some me heard c.args.self.now.kept c.in-Some.choice stands.kept c.in-Some.is;
  chosen = λ me heard stands. is_choice me heard c.args.self.now.kept c.in-Some.choice stands.kept c.in-Some.is;
  usable = λ me heard stands. has_usable me heard c.args.self.now.kept c.in-Some.choice stands.kept c.in-Some.is;
}

pub returns-in-None-clause-standing : goal.returns-in-None-clause-standing
returns-in-None-clause-standing c = λ me heard stands. stands_none me heard c.args.self.now.kept stands.kept c.in-None.is
