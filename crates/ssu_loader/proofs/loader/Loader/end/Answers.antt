use Rattle.ssu_route.specs.Queries.{heard_by}
use Rattle.ssu_loader.proofs.loader.Loader.end.Goals as goal

pub returns : goal.returns
returns g c = record {
  verdict = λ me ps knows. c.end.ensures.verdict me (heard_by me ps) knows.heard.stands knows.heard.hears knows.knows;
  partial = λ me ps knows. c.end.ensures.partial me (heard_by me ps) knows.stands knows.hears;
}
