use Rattle.std.proofs.Common.{◌≡◌, ◌||◌, Bool, ℕ, List, sym, ap, subst, ◌∙◌}
use Rattle.bank_kept.specs.Bank.{area_of_bank}
use Rattle.flash_kept.specs.Counts.{find_below}
use Rattle.flash_kept.specs.Slots.{is_slot_of, is_slotted}
use Rattle.flash_kept.specs.SpareArea.{SpareArea}
use Rattle.flash_journal.proofs.LooksLaws.{looks_joined}
use Rattle.flash_journal.proofs.LostLaws.{slotted_found}
use Rattle.flash_journal.proofs.ReadingLaws.{area_same}
use Rattle.flash_journal.proofs.stored.is_stored.Goals as goal

pub returns-in_err-slot-clause-looks : goal.returns-in_err-slot-clause-looks
returns-in_err-slot-clause-looks g c =
    let F = g.F.Flash in
    looks_joined F.tells F.contents F.block_count F.block_len F.moment F.left_since c.args.flash.now c.is_marked.new.flash c.slot_of.new.flash c.args.bank.now c.is_marked.new.bank c.slot_of.new.bank
    c.is_marked.ensures.looks c.slot_of.ensures.looks

pub returns-clause-found : goal.returns-clause-found
returns-clause-found g c tells =
    let F = g.F.Flash in
    let x = F.contents c.args.flash.now in
    let area = area_of_bank c.args.bank.now in
    let p = c.args.place in
    let looks = c.is_marked.ensures.looks in
    let slot : c.in_ok-slot.slot ≡ find_below (is_slot_of area x p) 16 =
    subst (λ (l : List ℕ). c.in_ok-slot.slot ≡ find_below (is_slot_of area l p) 16) (looks.reads.same tells)
    (subst (λ (a : SpareArea). c.in_ok-slot.slot ≡ find_below (is_slot_of a (F.contents c.is_marked.new.flash) p) 16) (area_same c.args.bank.now c.is_marked.new.bank looks.geometry looks.current)
    (c.in_ok-slot.ensures.found tells)) in
    let unmarked = sym (c.in_ok-marked.ensures.found tells) ∙ c.if-marked.false in
    c.is_some.ensures ∙ (slotted_found area x p c.in_ok-slot.slot slot ∙ ap (λ (m : Bool). m || is_slotted area x p) (sym unmarked))

pub returns-clause-looks : goal.returns-clause-looks
returns-clause-looks g c =
    let F = g.F.Flash in
    looks_joined F.tells F.contents F.block_count F.block_len F.moment F.left_since c.args.flash.now c.is_marked.new.flash c.slot_of.new.flash c.args.bank.now c.is_marked.new.bank c.slot_of.new.bank
    c.is_marked.ensures.looks c.slot_of.ensures.looks
