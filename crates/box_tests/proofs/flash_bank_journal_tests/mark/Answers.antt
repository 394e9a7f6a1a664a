use Rattle.std.proofs.Common.{◌≡◌, ◌+◌, ◌*◌, ◌∙◌, ap, arith, get_or, ℕ}
use Rattle.flash_bank.specs.Bank.{geometry_of, spare_journal}
use Rattle.flash_bank.proofs.BankLemmas.{blank_journal}
use Rattle.flash_bank.proofs.JournalCallLemmas.{mark_count_two}
use Rattle.flash_layout.proofs.Places.{marks_before_slots, slots_before_end}
use Rattle.box_tests.proofs.flash_bank_journal_tests.mark.Goals as goal

pub mark-requires-clause-inside : goal.mark-requires-clause-inside
mark-requires-clause-inside g c =
    let b = c.in_ok-bank.bank in
    omega (arith, c.if-place-marks.false, c.marks.ensures, mark_count_two b c.in_ok-bank.ensures.two)

pub mark-requires-clause-blank : goal.mark-requires-clause-blank
mark-requires-clause-blank g c tells k lt =
    let b = c.in_ok-bank.bank in
    let spot : spare_journal b + 8448 + 2 * c.args.place + k ≡ spare_journal b + (8448 + 2 * c.args.place + k) = omega arith in
    ap (λ (p : ℕ). get_or (g.F.Flash.contents c.begun.new.flash) p 0) spot
    ∙ blank_journal b c.in_ok-bank.ensures.two (g.F.Flash.contents c.begun.new.flash) (c.in_ok-bank.ensures.blank tells) (8448 + 2 * c.args.place + k)
    (omega (arith, lt, mark-requires-clause-inside g c, marks_before_slots (geometry_of b) b.limits, slots_before_end (geometry_of b) b.limits))
