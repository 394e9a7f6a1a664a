use Rattle.std.proofs.Common.{◌≡◌, ℕ, List, eqb-true, eq-eqb, sym, ap, subst, ◌∙◌}
use Rattle.ssu_group.specs.Carried.{filling, missing_places}
use Rattle.tool_load.specs.declared.progress.Progress.{Progress}
use Rattle.tool_load.specs.Progress.{StandsFor, Collects}
use Rattle.tool_load.proofs.BlocksLaws.{missing_is}
use Rattle.ssu_group.proofs.SamePlans.{same_filling, same_missing}
use Rattle.tool_load.proofs.PlanLaws.{one_choice}
use Rattle.tool_load.proofs.progress.is_whole.Goals as goal

abbrev Stands : List (List ℕ) → Progress → Type 0
Stands sections p = StandsFor p sections

pub returns-in-Collecting-clause-reached : goal.returns-in-Collecting-clause-reached
returns-in-Collecting-clause-reached c = λ none sections stands.
    let blocks = c.in-Collecting.blocks in
    let is : Collects blocks sections = subst (Stands sections) c.in-Collecting.is stands in
    let count : c.missing.result ≡ 0 = eqb-true c.missing.result 0 none in
    record {
      group = blocks.group;
      plan = blocks.plan;
      window = is.window;
      chooses = is.chooses;
      filled = sym (missing_is blocks.plan blocks.image is.window blocks.is_for is.holds) ∙ sym c.missing.ensures ∙ count;
    }

pub returns-in-Collecting-clause-open : goal.returns-in-Collecting-clause-open
returns-in-Collecting-clause-open c = λ some sections stands reached.
    let blocks = c.in-Collecting.blocks in
    let is : Collects blocks sections = subst (Stands sections) c.in-Collecting.is stands in
    let one = one_choice sections reached.group blocks.group reached.plan blocks.plan reached.window is.window reached.chooses is.chooses in
    let count : c.missing.result ≡ 0 =
    c.missing.ensures
    ∙ missing_is blocks.plan blocks.image is.window blocks.is_for is.holds
    ∙ same_missing blocks.plan reached.plan (filling blocks.plan is.window) (filling reached.plan is.window) one.is_plan
    (λ n. same_filling blocks.plan reached.plan is.window n one.is_plan)
    ∙ ap (λ (w : List (List ℕ)). missing_places reached.plan (filling reached.plan w)) one.is_window
    ∙ reached.filled in
    let none = eq-eqb c.missing.result 0 count in
    cc
