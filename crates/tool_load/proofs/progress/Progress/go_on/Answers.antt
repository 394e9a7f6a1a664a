use Rattle.std.proofs.Common.{ℕ, List, [], ◌∷◌, sym, subst, ◌∙◌}
use Rattle.std.proofs.lemmas.Result.{err_from_is_err_and}
use Rattle.tool_load.specs.declared.progress.Progress.{Progress}
use Rattle.tool_load.specs.Load.{IsWanted}
use Rattle.tool_load.specs.Progress.{StandsFor, Collects}
use Rattle.tool_load.proofs.SearchLaws.{no_group_on, wanted_now, wanted_on, chosen_now, chosen_on, wanted_chosen, same_choice}
use Rattle.tool_load.proofs.progress.Progress.go_on.Goals as goal

abbrev Stands : List (List ℕ) → Progress → Type 0
Stands sections p = StandsFor p sections

pub returns-in_err-new-in-Wanted-clause-no_memory : goal.returns-in_err-new-in-Wanted-clause-no_memory
returns-in_err-new-in-Wanted-clause-no_memory c =
    let p = err_from_is_err_and c.from_residual.result c.from_residual.ensures.1 in
    rw p.1 (λ sections stands.
    let section = c.args.section.now in
    let plan = c.in-Some-plan_in.plan in
    let d = c.in-Some-plan_in.ensures in
    let is : IsWanted c.in-Wanted.group sections = subst (Stands sections) c.in-Wanted.is stands in (
      λ chosen. wanted_chosen sections c.in-Wanted.group chosen.group chosen.plan chosen.window is chosen.chooses,
      record { group = c.in-Wanted.group; plan = plan; window = []; chooses = chosen_now section sections c.in-Wanted.group d.0 plan is d.1 d.2 },
    ))

pub returns-in-Some-clause-stands : goal.returns-in-Some-clause-stands
returns-in-Some-clause-stands c = λ sections stands.
    wanted_now c.args.section.now sections c.in-Some.group (subst (Stands sections) c.in-NoGroup.is stands) (sym c.group_in.ensures ∙ c.in-Some.is)

pub returns-in_default-clause-stands : goal.returns-in_default-clause-stands
returns-in_default-clause-stands c = λ sections stands.
    subst (Stands (c.args.section.now ∷ sections)) (sym c.in-NoGroup.is)
    (no_group_on c.args.section.now sections (subst (Stands sections) c.in-NoGroup.is stands) (sym c.group_in.ensures ∙ c.in_default.is))

pub returns-in_ok-new-in-Wanted-clause-stands : goal.returns-in_ok-new-in-Wanted-clause-stands
returns-in_ok-new-in-Wanted-clause-stands c = λ sections stands.
    let section = c.args.section.now in
    let plan = c.in-Some-plan_in.plan in
    let blocks = c.in_ok-new-in-Wanted.field-0 in
    let d = c.in-Some-plan_in.ensures in
    let is : IsWanted c.in-Wanted.group sections = subst (Stands sections) c.in-Wanted.is stands in
    record {
      window = [];
      chooses = same_choice (section ∷ sections) c.in-Wanted.group blocks.group plan blocks.plan [] c.in_ok-new-in-Wanted.ensures.group c.in_ok-new-in-Wanted.ensures.plan
          (chosen_now section sections c.in-Wanted.group d.0 plan is d.1 d.2);
      holds = c.in_ok-new-in-Wanted.ensures.none;
    }

pub returns-in_default-plan_in-clause-stands : goal.returns-in_default-plan_in-clause-stands
returns-in_default-plan_in-clause-stands c = λ sections stands.
    wanted_on c.args.section.now sections c.in-Wanted.group (subst (Stands sections) c.in-Wanted.is stands) c.in_default-plan_in.ensures

pub returns-in-Collecting-clause-stands : goal.returns-in-Collecting-clause-stands
returns-in-Collecting-clause-stands c = λ sections stands.
    let blocks = c.in-Collecting.blocks in
    let section = c.args.section.now in
    let is : Collects blocks sections = subst (Stands sections) c.in-Collecting.is stands in
    record {
      window = section ∷ is.window;
      chooses = same_choice (section ∷ sections) blocks.group c.take.new.self.group blocks.plan c.take.new.self.plan (section ∷ is.window) c.take.ensures.group c.take.ensures.plan
          (chosen_on section sections blocks.group blocks.plan is.window is.chooses);
      holds = c.take.ensures.holds is.window is.holds;
    }
