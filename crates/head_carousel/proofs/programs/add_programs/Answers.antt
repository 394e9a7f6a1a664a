use Rattle.std.proofs.Common.{◌≡◌, List, [], ◌∷◌, ◌++◌, ap, ◌∙◌}
use Rattle.std.proofs.lemmas.Result.{on_ok_weaker}
use Rattle.ts_section.specs.TimedSection.{TimedSection}
use Rattle.head_carousel.specs.Signals.{programs, timed}
use Rattle.head_carousel.proofs.SignalLaws.{three}
use Rattle.head_carousel.proofs.programs.add_programs.Goals as goal

pub returns-clause-added : goal.returns-clause-added
unfolding programs
returns-clause-added c =
    let period = c.plan.inside.signal_period in
    let is : timed c.pid_of.result period c.in_ok-pat.pat.items ∷ timed c.pid_of-2.result period c.in_ok-tdt.tdt.items ∷ timed c.plan.inside.pmt_pid period c.in_ok-pmt.pmt.items ∷ [] ≡ programs c.args.plan.now =
    rw (c.pid_of.ensures, c.pid_of-2.ensures, c.in_ok-pat.ensures.made, c.in_ok-tdt.ensures.made, c.in_ok-pmt.ensures.made) (ap programs c.plan.view_is) in
    on_ok_weaker c.add-3.result
    (λ e. three c.args.list.now.items _ _ _ _ _ _ c.in_ok-add.ensures.added c.in_ok-add-2.ensures.added e ∙ ap (λ (u : List TimedSection). c.args.list.now.items ++ u) is)
    c.add-3.ensures.added
