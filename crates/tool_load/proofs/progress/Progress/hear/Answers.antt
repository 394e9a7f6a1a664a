use Rattle.std.proofs.Common.{List, ◌∷◌, ℕ, subst}
use Rattle.tool_load.specs.declared.progress.Progress.{Progress}
use Rattle.tool_load.specs.Progress.{StandsFor, Collects}
use Rattle.tool_load.proofs.SearchLaws.{chosen_on, same_choice}
use Rattle.tool_load.proofs.progress.Progress.hear.Goals as goal

abbrev Stands : List (List ℕ) → Progress → Type 0
Stands sections p = StandsFor p sections

pub returns-in-Collecting-clause-stands : goal.returns-in-Collecting-clause-stands
returns-in-Collecting-clause-stands c = λ sections stands.
    let blocks = c.in-Collecting.blocks in
    let section = c.args.section.now in
    let is : Collects blocks sections = subst (Stands sections) c.in-Collecting.is stands in
    record {
      window = section ∷ is.window;
      chooses = same_choice (section ∷ sections) blocks.group c.take.new.self.group blocks.plan c.take.new.self.plan (section ∷ is.window) c.take.ensures.group c.take.ensures.plan
          (chosen_on section sections blocks.group blocks.plan is.window is.chooses);
      holds = c.take.ensures.holds is.window is.holds;
    }
