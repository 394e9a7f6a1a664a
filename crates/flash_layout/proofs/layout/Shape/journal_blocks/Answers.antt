use Rattle.std.proofs.Common.{ℕ, ◌+◌, ap, subst, ◌≤◌, sym, ◌∙◌}
use Rattle.flash_layout.specs.Layout.{area_blocks, rounded_up}
use Rattle.flash_layout.specs.Shape.{geometry}
use Rattle.flash_layout.proofs.Places.{journal_fits}
use Rattle.flash_layout.proofs.layout.Shape.journal_blocks.Goals as goal

pub returns-clause-value : goal.returns-clause-value
returns-clause-value c = c.rounded_up.ensures.value ∙ ap (λ (n : ℕ). rounded_up (n + 69632) c.args.self.block_size) c.slots_at.ensures.value

pub returns-clause-fits : goal.returns-clause-fits
returns-clause-fits c room = subst (λ (n : ℕ). n ≤ area_blocks (geometry c.args.self)) (sym (returns-clause-value c)) (journal_fits (geometry c.args.self) c.requires.limits room)
