use Rattle.std.proofs.Common.{◌≡◌, ◌+◌, ◌-◌, ◌∙◌, ap, arith, get_or, ℕ}
use Rattle.flash_bank.specs.Bank.{spare_bank}
use Rattle.flash_bank.proofs.BankLemmas.{len_less}
use Rattle.flash_layout.specs.Layout.{area_place}
use Rattle.box_tests.proofs.flash_bank_tests.install.Goals as goal

pub fill-requires-clause-blank : goal.fill-requires-clause-blank
fill-requires-clause-blank g c tells k lt =
    let same : spare_bank c.begin.new.self ≡ spare_bank c.in_ok-bank.bank = (λ i. area_place (c.begin.ensures.geometry i) (1 - (c.begin.ensures.current i).bank)) in
    let spot : spare_bank c.begin.new.self + 0 + k ≡ spare_bank c.in_ok-bank.bank + k = omega (arith, same) in
    ap (λ (p : ℕ). get_or (g.F.Flash.contents c.begin.new.flash) p 0) spot
    ∙ c.in_ok-begin.ensures.erased_area tells k (omega (arith, lt, c.if-image-bank_len.false, c.bank_len.ensures.value, len_less c.in_ok-bank.bank))
