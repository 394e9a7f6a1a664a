use Rattle.std.proofs.Common.{◌≡◌, ◌+◌, ◌*◌, ◌∙◌, ap, arith, get_or, ℕ}
use Rattle.flash_bank.specs.Bank.{geometry_of, len_of, spare_journal}
use Rattle.flash_bank.specs.Journal.{slot_place}
use Rattle.flash_bank.proofs.BankLemmas.{blank_journal}
use Rattle.flash_layout.specs.Layout.{bank_len, slots_at}
use Rattle.flash_layout.proofs.Places.{slots_before_end}
use Rattle.box_tests.proofs.flash_bank_journal_tests.spare.Goals as goal

pub spare-requires-clause-blank : goal.spare-requires-clause-blank
spare-requires-clause-blank g c tells k lt =
    let b = c.in_ok-bank.bank in
    let spot : slot_place b c.args.slot + k ≡ spare_journal b + (slots_at (geometry_of b) + 4352 * c.args.slot + k) = omega arith in
    ap (λ (p : ℕ). get_or (g.F.Flash.contents c.begun.new.flash) p 0) spot
    ∙ blank_journal b c.in_ok-bank.ensures.two (g.F.Flash.contents c.begun.new.flash) (c.in_ok-bank.ensures.blank tells) (slots_at (geometry_of b) + 4352 * c.args.slot + k)
    (omega (arith, lt, slots_before_end (geometry_of b) b.limits))

pub commit-requires-clause-fits : goal.commit-requires-clause-fits
commit-requires-clause-fits g c =
    let same : len_of c.spare.new.self ≡ len_of c.in_ok-bank.bank = (λ i. bank_len (c.spare.ensures.geometry i) (c.spare.ensures.current i).layout) in
    omega (arith, same, c.bank_len-len.ensures.value)
