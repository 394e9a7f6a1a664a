use Rattle.std.specs.Prelude.{true, false}
use Rattle.std.proofs.Common.{◌≡◌, sym, ◌∙◌}
use Rattle.flash_layout.specs.Layout.{HasJournals}
use Rattle.flash_layout.specs.Shape.{geometry}
use Rattle.flash_bank.proofs.FormatLemmas.{layout_one, layout_two}
use Rattle.flash_bank.proofs.first_image.layout_of_shape.Goals as goal

pub returns-then-two-clause-value : goal.returns-then-two-clause-value
returns-then-two-clause-value c = sym (layout_two (geometry c.args.shape) (c.has_journals-two.ensures.0 c.if-two.true))

pub returns-then-two-clause-room : goal.returns-then-two-clause-room
returns-then-two-clause-room c is = c.has_journals-two.ensures.0 c.if-two.true

pub returns-else-two-clause-value : goal.returns-else-two-clause-value
returns-else-two-clause-value c =
    let never : HasJournals (geometry c.args.shape) → ⊥ = λ room. let no : true ≡ false = sym (c.has_journals-two.ensures.1 room) ∙ c.if-two.false in cc no in
    sym (layout_one (geometry c.args.shape) never)
