use Rattle.std.proofs.Common.{◌≡◌, ℕ, ◌+◌, ap, arith, ◌∙◌, get_or}
use Rattle.flash_bank.proofs.journal_puts.put_slot.Goals as goal

pub program_both-requires-clause-blank : goal.program_both-requires-clause-blank
program_both-requires-clause-blank g c tells k lt =
    let spot : c.args.place + 256 + k ≡ c.args.place + (256 + k) = omega arith in
    ap (λ (p : ℕ). get_or (g.F.Flash.contents c.args.flash.now) p 0) spot ∙ c.requires.blank tells (256 + k) (omega (arith, c.requires.few))
