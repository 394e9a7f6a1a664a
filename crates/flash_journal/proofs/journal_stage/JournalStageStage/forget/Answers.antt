use Rattle.std.proofs.Common.{◌≡◌, ℕ, List, sym, ap, subst, ◌∙◌}
use Rattle.std.specs.Prelude.{OnOk}
use Rattle.bank_kept.specs.Leaving.{HoldsNoMore}
use Rattle.flash_bank.proofs.LeavingLemmas.{forgotten_keeps_boot, keeps_boot_same}
use Rattle.flash_bank.specs.Bank.{current_of, geometry_of}
use Rattle.flash_bank.specs.Journal.{LeavesForgotten}
use Rattle.flash_bank.specs.Leaving.{KeepsBoot}
use Rattle.flash_bank.specs.declared.record.Record.{Record}
use Rattle.flash_dev.proofs.Moments.{started, weaker}
use Rattle.flash_stage.proofs.KeptLaws.{same_no_more}
use Rattle.flash_stage.proofs.LeavingLaws.{on_ok}
use Rattle.flash_bank.specs.Bank.{Fits, spare_journal}
use Rattle.flash_bank.specs.declared.bank.Bank.{Bank}
use Rattle.flash_dev.specs.Changes.{Changes, IsBlank, IsErased}
use Rattle.flash_layout.specs.Layout.{Geometry}
use Rattle.flash_stage.specs.Keeping.{StagesNone}
use Rattle.flash_stage.specs.Leaving.{SameBank}
use Rattle.flash_journal.proofs.CallLaws.{forgot_no_more, forgot_none}
use Rattle.flash_journal.proofs.PlainLaws.{blank_stages_none}
use Rattle.flash_journal.proofs.journal_stage.JournalStageStage.forget.Goals as goal

pub returns-then-current-ne2-clause-none : goal.returns-then-current-ne2-clause-none
returns-then-current-ne2-clause-none g c tells is =
    let F = g.F.Flash in
    let s = c.args.self.now in
    let b = c.args.bank.now in
    let x = F.contents c.args.flash.now in
    let fits = c.requires.lent.fits tells in
    blank_stages_none b x fits (λ two. absurd (c.if-current-ne2.true (ap (λ (h : Record). h.layout) c.current.ensures.value ∙ two)))

pub returns-then-current-ne2-clause-held : goal.returns-then-current-ne2-clause-held
returns-then-current-ne2-clause-held g c tells =
    let F = g.F.Flash in
    let s = c.args.self.now in
    let b = c.args.bank.now in
    let x = F.contents c.args.flash.now in
    let fits = c.requires.lent.fits tells in
    keeps_boot_same (geometry_of b) x fits.sound

pub returns-then-current-ne2-clause-left : goal.returns-then-current-ne2-clause-left
returns-then-current-ne2-clause-left g c tells =
    let F = g.F.Flash in
    let s = c.args.self.now in
    let b = c.args.bank.now in
    let x = F.contents c.args.flash.now in
    let fits = c.requires.lent.fits tells in
    let f = c.args.flash.now in
    let P = KeepsBoot (geometry_of b) x in
    started F.moment F.left_since f P (λ y left. subst P (sym (g.met.F.Flash.only_now f y left)) (keeps_boot_same (geometry_of b) x fits.sound))

pub returns-then-current-ne2-clause-no_more_left : goal.returns-then-current-ne2-clause-no_more_left
returns-then-current-ne2-clause-no_more_left g c tells =
    let F = g.F.Flash in
    let s = c.args.self.now in
    let b = c.args.bank.now in
    let x = F.contents c.args.flash.now in
    let fits = c.requires.lent.fits tells in
    let f = c.args.flash.now in
    let P = HoldsNoMore (geometry_of b) x in
    started F.moment F.left_since f P (λ y left. subst P (sym (g.met.F.Flash.only_now f y left)) (same_no_more (geometry_of b) x))

pub returns-clause-held : goal.returns-clause-held
returns-clause-held g c tells =
    let F = g.F.Flash in
    let s = c.args.self.now in
    let b = c.args.bank.now in
    let x = F.contents c.args.flash.now in
    let fits = c.requires.lent.fits tells in
    let two : (current_of b).layout ≡ 2 = ap (λ (h : Record). h.layout) (sym c.current.ensures.value) ∙ c.if-current-ne2.false in
    forgotten_keeps_boot b x fits two _ (c.forget.ensures.held tells)

pub returns-clause-left : goal.returns-clause-left
returns-clause-left g c tells =
    let F = g.F.Flash in
    let s = c.args.self.now in
    let b = c.args.bank.now in
    let x = F.contents c.args.flash.now in
    let fits = c.requires.lent.fits tells in
    let two : (current_of b).layout ≡ 2 = ap (λ (h : Record). h.layout) (sym c.current.ensures.value) ∙ c.if-current-ne2.false in
    weaker F.moment F.left_since c.args.flash.now c.forget.new.flash (LeavesForgotten b x) _ (λ y. forgotten_keeps_boot b x fits two y) (c.forget.ensures.left tells)

pub returns-clause-no_more : goal.returns-clause-no_more
returns-clause-no_more g c tells =
    let F = g.F.Flash in
    let s = c.args.self.now in
    let b = c.args.bank.now in
    let x = F.contents c.args.flash.now in
    let fits = c.requires.lent.fits tells in
    forgot_no_more b x _ fits (c.forget.ensures.held tells)

pub returns-clause-no_more_left : goal.returns-clause-no_more_left
returns-clause-no_more_left g c tells =
    let F = g.F.Flash in
    let s = c.args.self.now in
    let b = c.args.bank.now in
    let x = F.contents c.args.flash.now in
    let fits = c.requires.lent.fits tells in
    weaker F.moment F.left_since c.args.flash.now c.forget.new.flash (LeavesForgotten b x) _ (λ y. forgot_no_more b x y fits) (c.forget.ensures.left tells)

pub returns-clause-none : goal.returns-clause-none
returns-clause-none g c tells is =
    let F = g.F.Flash in
    let s = c.args.self.now in
    let b = c.args.bank.now in
    let x = F.contents c.args.flash.now in
    let fits = c.requires.lent.fits tells in
    let y = F.contents c.forget.new.flash in
    let same : SameBank b c.forget.new.self = record { geometry = c.forget.ensures.geometry; current = c.forget.ensures.current; block = c.forget.ensures.block } in
    forgot_none b c.forget.new.self x y c.forget.result same (c.forget.ensures.forgot tells) (fits_new tells)
  where
    fits_new : g.F.Flash.tells → OnOk c.forget.result (Fits c.forget.new.self (g.F.Flash.contents c.forget.new.flash))
    fits_new tells = on_ok _ _ c.forget.result (λ lent. lent.fits tells) c.forget.ensures.lent
