use Rattle.std.proofs.Common.{◌≡◌, ◌+◌, ◌∙◌, ap, arith, get_or, ℕ}
use Rattle.flash_bank.specs.Bank.{geometry_of, spare_journal}
use Rattle.flash_bank.proofs.BankLemmas.{blank_journal}
use Rattle.flash_layout.proofs.Places.{marks_before_slots, slots_before_end}
use Rattle.box_tests.proofs.flash_bank_journal_tests.head.Goals as goal

pub head-requires-clause-blank : goal.head-requires-clause-blank
head-requires-clause-blank g c tells k lt =
    let b = c.in_ok-bank.bank in
    blank_journal b c.in_ok-bank.ensures.two (g.F.Flash.contents c.begun.new.flash) (c.in_ok-bank.ensures.blank tells) k
    (omega (arith, lt, slots_before_end (geometry_of b) b.limits))

pub head-requires-clause-message_blank : goal.head-requires-clause-message_blank
head-requires-clause-message_blank g c tells k lt =
    let b = c.in_ok-bank.bank in
    let spot : spare_journal b + 256 + k ≡ spare_journal b + (256 + k) = omega arith in
    ap (λ (p : ℕ). get_or (g.F.Flash.contents c.begun.new.flash) p 0) spot
    ∙ blank_journal b c.in_ok-bank.ensures.two (g.F.Flash.contents c.begun.new.flash) (c.in_ok-bank.ensures.blank tells) (256 + k)
    (omega (arith, lt, marks_before_slots (geometry_of b) b.limits, slots_before_end (geometry_of b) b.limits))
