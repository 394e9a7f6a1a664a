use Rattle.std.proofs.Common.{◌<◌, ℕ, sym, subst}
use Rattle.flash_dev.proofs.Moments.{started}
use Rattle.flash_bank.proofs.LeavingLemmas.{keeps_boot_same}
use Rattle.flash_bank.specs.Bank.{geometry_of}
use Rattle.flash_bank.specs.Leaving.{KeepsBoot}
use Rattle.bank_kept.specs.Leaving.{HoldsNoMore}
use Rattle.flash_stage.proofs.KeptLaws.{same_no_more}
use Rattle.flash_stage.proofs.ram_stage.RamStageStage.forget.Goals as goal

pub returns-clause-plan : goal.returns-clause-plan
returns-clause-plan g c =
    let s = c.args.self.now in
    (λ i. record { block_size = s.block_size; modules = s.modules.items; places = c.forget.ensures.places i; total = c.forget.ensures.total i })

pub returns-clause-empty : goal.returns-clause-empty
returns-clause-empty g c = λ number below. c.forget.ensures.none number (subst (λ (n : ℕ). number < n) (sym c.forget.ensures.places) below)

pub returns-clause-left : goal.returns-clause-left
returns-clause-left g c tells =
    let F = g.F.Flash in
    let b = c.args._bank.now in
    let f = c.args._flash.now in
    let P = KeepsBoot (geometry_of b) (F.contents f) in
    started F.moment F.left_since f P (λ y left. subst P (sym (g.met.F.Flash.only_now f y left)) (keeps_boot_same (geometry_of b) (F.contents f) (c.requires.lent.fits tells).sound))

pub returns-clause-no_more_left : goal.returns-clause-no_more_left
returns-clause-no_more_left g c tells =
    let F = g.F.Flash in
    let b = c.args._bank.now in
    let f = c.args._flash.now in
    let P = HoldsNoMore (geometry_of b) (F.contents f) in
    started F.moment F.left_since f P (λ y left. subst P (sym (g.met.F.Flash.only_now f y left)) (same_no_more (geometry_of b) (F.contents f)))
