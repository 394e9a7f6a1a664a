use Rattle.std.proofs.Common.{◌≡◌, ◌≤◌, ℕ, ap, subst, ◌∙◌}
use Rattle.flash_stage.specs.Outline.{Outline}
use Rattle.ssu_group.specs.Carried.{filling}
use Rattle.ssu_group.specs.Map.{missing_below}
use Rattle.ssu_route.specs.Windows.{beginnings, window}
use Rattle.ssu_loader.specs.Opening.{fills_at}
use Rattle.ssu_loader.proofs.ChoiceLaws.{choice_stands, none_at, some_at}
use Rattle.ssu_loader.proofs.DecisionLaws.{standing_none}
use Rattle.ssu_loader.proofs.SettlingLaws.{missing_is}
use Rattle.ssu_loader.proofs.UnfilledLaws.{fewer_missing}
use Rattle.ssu_loader.proofs.collector.Collector.end.Goals as goal

pub returns-in-None-clause-verdict : goal.returns-in-None-clause-verdict
returns-in-None-clause-verdict g c = λ me heard stands hears knows. (
  knows.undecided,
  standing_none me heard (none_at _ c.choice.result c.in-None.is (c.choice.ensures.standing me heard stands)),
  c.missing.ensures me heard stands,
)

pub returns-in-None-clause-partial : goal.returns-in-None-clause-partial
returns-in-None-clause-partial g c = λ me heard stands hears. (
  standing_none me heard (none_at _ c.choice.result c.in-None.is (c.choice.ensures.standing me heard stands)),
  c.missing.ensures me heard stands,
)

pub returns-in-Some-clause-verdict : goal.returns-in-Some-clause-verdict
returns-in-Some-clause-verdict g c = λ me heard stands hears knows.
    let s = g.S.Stage in
    let stage = c.args.self.now.stage in
    let choice = c.in-Some.choice.now in
    let plan = choice.plan in
    let is = c.in-Some.ensures.chosen me heard stands in
    let few : beginnings me heard ≤ 16 = subst (λ (n : ℕ). n ≤ 16) hears.counted hears.few in
    let some = some_at _ c.choice.result c.in-Some.choice c.in-Some.is (c.choice.ensures.standing me heard stands) in
    let count = missing_is plan (fills_at me heard plan) (s.has stage) (knows.filled choice is) in (
      knows.undecided,
      record {
        choice = choice;
        standing = choice_stands me heard choice few some is;
        is = c.chosen.ensures;
        counted = c.missing-in-Some.ensures ∙ ap (λ (o : Outline). missing_below (s.has stage) o.places) (hears.planned choice is) ∙ count;
      },
    )

pub returns-in-Some-clause-partial : goal.returns-in-Some-clause-partial
returns-in-Some-clause-partial g c = λ me heard stands hears.
    let s = g.S.Stage in
    let stage = c.args.self.now.stage in
    let choice = c.in-Some.choice.now in
    let plan = choice.plan in
    let is = c.in-Some.ensures.chosen me heard stands in
    let few : beginnings me heard ≤ 16 = subst (λ (n : ℕ). n ≤ 16) hears.counted hears.few in
    let some = some_at _ c.choice.result c.in-Some.choice c.in-Some.is (c.choice.ensures.standing me heard stands) in
    let count : c.missing-in-Some.result ≡ missing_below (s.has stage) plan.places =
    c.missing-in-Some.ensures ∙ ap (λ (o : Outline). missing_below (s.has stage) o.places) (hears.planned choice is) in
    record {
      choice = choice;
      standing = choice_stands me heard choice few some is;
      is = c.chosen.ensures;
      most = fewer_missing plan (filling plan (window me heard)) (s.has stage) c.missing-in-Some.result count (hears.includes choice is);
    }
