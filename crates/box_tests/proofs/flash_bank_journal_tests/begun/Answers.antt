use Rattle.std.proofs.Common.{◌≡◌, ◌+◌, ◌-◌, ◌∙◌, ap, arith, get_or, ℕ}
use Rattle.flash_bank.specs.Bank.{current_of, geometry_of, spare_bank}
use Rattle.flash_layout.specs.Layout.{area_len, area_place}
use Rattle.box_tests.proofs.flash_bank_journal_tests.begun.Goals as goal

pub returns-clause-two : goal.returns-clause-two
returns-clause-two g c =
    let same : (current_of c.begin.new.self).layout ≡ (current_of c.in_ok-bank.bank).layout = (λ i. (c.begin.ensures.current i).layout) in
    same ∙ c.in_ok-bank.ensures.two

pub returns-clause-blank : goal.returns-clause-blank
returns-clause-blank g c tells k lt =
    let place : spare_bank c.begin.new.self ≡ spare_bank c.in_ok-bank.bank = (λ i. area_place (c.begin.ensures.geometry i) (1 - (c.begin.ensures.current i).bank)) in
    let size : area_len (geometry_of c.begin.new.self) ≡ area_len (geometry_of c.in_ok-bank.bank) = (λ i. area_len (c.begin.ensures.geometry i)) in
    ap (λ (p : ℕ). get_or (g.F.Flash.contents c.begin.new.flash) (p + k) 0) place ∙ c.in_ok-begin.ensures.erased_area tells k (omega (arith, lt, size))
