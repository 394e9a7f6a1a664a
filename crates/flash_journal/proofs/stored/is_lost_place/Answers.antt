use Rattle.std.proofs.Common.{◌≡◌, Bool, ℕ, List, not, sym, ap, subst, ◌&&◌, ◌∙◌}
use Rattle.bank_kept.specs.Bank.{area_of_bank}
use Rattle.flash_kept.specs.Lost.{is_untouched}
use Rattle.flash_kept.specs.SpareArea.{SpareArea}
use Rattle.flash_journal.proofs.LooksLaws.{looks_joined}
use Rattle.flash_journal.proofs.LostLaws.{lost_place, stored_not_lost}
use Rattle.flash_journal.proofs.ReadingLaws.{area_same}
use Rattle.flash_journal.proofs.stored.is_lost_place.Goals as goal

pub returns-then-stored-clause-found : goal.returns-then-stored-clause-found
returns-then-stored-clause-found g c tells =
    stored_not_lost (area_of_bank c.args.bank.now) (g.F.Flash.contents c.args.flash.now) c.args.place c.in_ok-stored.stored (c.in_ok-stored.ensures.found tells) c.if-stored.true

pub returns-in_err-untouched-clause-looks : goal.returns-in_err-untouched-clause-looks
returns-in_err-untouched-clause-looks g c =
    let F = g.F.Flash in
    looks_joined F.tells F.contents F.block_count F.block_len F.moment F.left_since c.args.flash.now c.is_stored.new.flash c.is_untouched.new.flash c.args.bank.now c.is_stored.new.bank c.is_untouched.new.bank
    c.is_stored.ensures.looks c.is_untouched.ensures.looks

pub returns-clause-found : goal.returns-clause-found
returns-clause-found g c tells =
    let F = g.F.Flash in
    let x = F.contents c.args.flash.now in
    let area = area_of_bank c.args.bank.now in
    let p = c.args.place in
    let looks = c.is_stored.ensures.looks in
    let untouched : c.in_ok-untouched.untouched ≡ is_untouched area x p.number p =
    subst (λ (l : List ℕ). c.in_ok-untouched.untouched ≡ is_untouched area l p.number p) (looks.reads.same tells)
    (subst (λ (a : SpareArea). c.in_ok-untouched.untouched ≡ is_untouched a (F.contents c.is_stored.new.flash) p.number p) (area_same c.args.bank.now c.is_stored.new.bank looks.geometry looks.current)
    (c.in_ok-untouched.ensures.found tells)) in
    ap (λ (s : Bool). not s && not c.in_ok-untouched.untouched) (sym c.if-stored.false)
    ∙ lost_place area x p c.in_ok-stored.stored c.in_ok-untouched.untouched (c.in_ok-stored.ensures.found tells) untouched

pub returns-clause-looks : goal.returns-clause-looks
returns-clause-looks g c =
    let F = g.F.Flash in
    looks_joined F.tells F.contents F.block_count F.block_len F.moment F.left_since c.args.flash.now c.is_stored.new.flash c.is_untouched.new.flash c.args.bank.now c.is_stored.new.bank c.is_untouched.new.bank
    c.is_stored.ensures.looks c.is_untouched.ensures.looks
