use Rattle.std.proofs.Common.{◌≡◌, ◌<◌, sym, subst, ap, ◌∙◌}
use Rattle.flash_bank.specs.Bank.{IsLent, current_of, geometry_of}
use Rattle.flash_layout.specs.Layout.{Geometry, blocks_of}
use Rattle.flash_bank.specs.Sound.{IsWorn}
use Rattle.flash_bank.specs.declared.bank.Bank.{Bank}
use Rattle.std.specs.Prelude.{Err}
use Rattle.flash_bank.specs.declared.fault.BankFault.{BankFault}
use Rattle.std.proofs.lemmas.Result.{err_from_is_err_and}
use Rattle.ssu_loader.specs.declared.fault.LoadFault.TheVariants as load_fault
use Rattle.ssu_loader.proofs.AnsweringLaws.{both_if_ok}
use Rattle.ssu_loader.proofs.FreshLaws.{fresh_follows, not_worn, same_err, same_geometry, where_not_worn, worn_bank}
use Rattle.ssu_loader.proofs.loader.Loader.open.Goals as goal

pub returns-in_err-bank-clause-worn : goal.returns-in_err-bank-clause-worn
returns-in_err-bank-clause-worn g c = λ tells worn.
    let p = err_from_is_err_and c.from_residual.result c.from_residual.ensures.1 in
    let fault : p.0 ≡ load_fault.Worn = same_err c.from_residual.result p.0 load_fault.Worn p.1 worn in
    c.open.ensures.worn tells (c.in_err-bank.was ∙ ap (λ (e : BankFault). Err e) (worn_bank c.in_err-bank.field-0.0 (sym p.2 ∙ fault)))

pub returns-clause-follows : goal.returns-clause-follows
returns-clause-follows g c =
    let s = g.S.Stage in
    let f = g.F.Flash in
    let contents = f.contents c.args.flash.now in
    both_if_ok _ _ _ c.with_bank.result (λ loader fresh is.
    fresh_follows s f c.args.me.now loader contents c.open.new.flash fresh
    (subst (λ (bank : Bank). IsLent f.tells f.contents f.block_count f.block_len bank c.open.new.flash) (sym is) c.in_ok-bank.ensures.lent)
    (subst (λ (bank : Bank). (current_of bank).number < 4294967295) (sym is) c.in_ok-bank.ensures.next_fits) (λ tells. c.open.ensures.reads.same tells))
    (c.with_bank.ensures.fresh contents) c.with_bank.ensures.bank

pub returns-clause-next_fits : goal.returns-clause-next_fits
returns-clause-next_fits g c = λ tells.
    let f = g.F.Flash in
    let bank = c.in_ok-bank.bank in
    let lent = c.in_ok-bank.ensures.lent in
    let same = c.open.ensures.reads.same tells in
    let reads = c.open.ensures.reads in
    let blocks : geometry_of bank ≡ blocks_of f c.args.flash.now = same_geometry (geometry_of bank) (blocks_of f c.args.flash.now) (sym lent.blocks ∙ reads.blocks) (sym lent.block_size ∙ reads.block_size) in
    where_not_worn c.with_bank.result _ (λ worn.
    not_worn bank (f.contents c.open.new.flash) (lent.fits tells) c.in_ok-bank.ensures.next_fits
    (subst (λ (x : Geometry). IsWorn x (f.contents c.open.new.flash)) (sym blocks) (subst (IsWorn (blocks_of f c.args.flash.now)) (sym same) worn)))
