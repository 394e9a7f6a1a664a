use Rattle.std.proofs.Common.{sym, ◌∙◌}
use Rattle.section_form.proofs.RightLaws.{is_right-tells}
use Rattle.section_form.proofs.right.is_right.Goals as goal

pub returns-clause-right : goal.returns-clause-right
returns-clause-right c =
    let tells = is_right-tells c.args.section.now in
    ((λ t. tells.0 (sym c.passes.ensures ∙ t)), (λ h. c.passes.ensures ∙ tells.1 h))
