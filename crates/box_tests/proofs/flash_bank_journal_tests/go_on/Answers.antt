use Rattle.std.proofs.Common.{◌≡◌, ◌∙◌, arith}
use Rattle.flash_bank.specs.Bank.{current_of}
use Rattle.box_tests.proofs.flash_bank_journal_tests.go_on.Goals as goal

pub glance-requires-clause-inside : goal.glance-requires-clause-inside
glance-requires-clause-inside g c = omega (arith, c.if-front-journal_len.false, c.journal_len.ensures)

pub resume-requires-clause-two : goal.resume-requires-clause-two
resume-requires-clause-two g c =
    let same : (current_of c.glance.new.self).layout ≡ (current_of c.in_ok-bank.bank).layout = (λ i. (c.glance.ensures.current i).layout) in
    same ∙ c.in_ok-bank.ensures.two

pub resume-requires-clause-next_fits : goal.resume-requires-clause-next_fits
resume-requires-clause-next_fits g c =
    let same : (current_of c.glance.new.self).number ≡ (current_of c.in_ok-bank.bank).number = (λ i. (c.glance.ensures.current i).number) in
    omega (arith, same, c.in_ok-bank.ensures.next_fits)

pub forget-requires-clause-two : goal.forget-requires-clause-two
forget-requires-clause-two g c =
    let after : (current_of c.resume.new.self).layout ≡ (current_of c.glance.new.self).layout = (λ i. (c.resume.ensures.current i).layout) in
    let same : (current_of c.glance.new.self).layout ≡ (current_of c.in_ok-bank.bank).layout = (λ i. (c.glance.ensures.current i).layout) in
    after ∙ (same ∙ c.in_ok-bank.ensures.two)
