use Rattle.std.specs.Prelude.{IfSome}
use Rattle.std.proofs.Common.{◌≡◌, ◌<◌, ℕ, Bool, List, Some, true, sym, ap, subst, ◌∙◌}
use Rattle.bank_kept.specs.Bank.{area_of_bank}
use Rattle.flash_kept.specs.Counts.{find_below}
use Rattle.flash_kept.specs.Slots.{is_slot_of}
use Rattle.flash_kept.specs.SpareArea.{SpareArea}
use Rattle.flash_journal.specs.Texts.{slot_text, text_of}
use Rattle.flash_journal.proofs.LooksLaws.{looks_joined, looks_none}
use Rattle.flash_journal.proofs.PlaceTextLaws.{if_ok_each, if_some_and}
use Rattle.flash_journal.proofs.ReadingLaws.{area_same}
use Rattle.flash_journal.proofs.TextLaws.{marked_text, slotted_text}
use Rattle.flash_journal.proofs.texts.slot_with.Goals as goal

pub returns-then-not-keeps-clause-text : goal.returns-then-not-keeps-clause-text
returns-then-not-keeps-clause-text g c tells =
    sym (ap (λ (k : Bool). text_of k c.args.bank.now (g.F.Flash.contents c.args.flash.now) (Some c.args.place)) c.if-not-keeps.true)

pub returns-then-not-keeps-clause-looks : goal.returns-then-not-keeps-clause-looks
returns-then-not-keeps-clause-looks g c =
    let F = g.F.Flash in
    looks_none F.tells F.contents F.block_count F.block_len F.moment F.left_since c.args.flash.now c.args.bank.now (g.met.F.Flash.only_now c.args.flash.now)

pub is_marked-requires-clause-two : goal.is_marked-requires-clause-two
is_marked-requires-clause-two g c = c.requires.two c.if-not-keeps.false

pub is_marked-requires-clause-mark : goal.is_marked-requires-clause-mark
is_marked-requires-clause-mark g c = c.requires.mark c.if-not-keeps.false

pub returns-then-marked-clause-text : goal.returns-then-marked-clause-text
returns-then-marked-clause-text g c tells =
    let x = g.F.Flash.contents c.args.flash.now in
    let area = area_of_bank c.args.bank.now in
    let p = c.args.place in
    sym (marked_text area x p (sym (c.in_ok-marked.ensures.found tells) ∙ c.if-marked.true))
    ∙ sym (ap (λ (k : Bool). text_of k c.args.bank.now x (Some p)) c.if-not-keeps.false)

pub slot_of-requires-clause-two : goal.slot_of-requires-clause-two
slot_of-requires-clause-two g c = ap (λ r. r.layout) c.is_marked.ensures.looks.current ∙ c.requires.two c.if-not-keeps.false

pub returns-clause-text : goal.returns-clause-text
returns-clause-text g c tells =
    let F = g.F.Flash in
    let x = F.contents c.args.flash.now in
    let area = area_of_bank c.args.bank.now in
    let p = c.args.place in
    let looks = c.is_marked.ensures.looks in
    let unmarked = sym (c.in_ok-marked.ensures.found tells) ∙ c.if-marked.false in
    if_ok_each c.slot_of.result (λ s. s ≡ find_below (is_slot_of (area_of_bank c.is_marked.new.bank) (F.contents c.is_marked.new.flash) p) 16)
    (λ s. slot_text area x p s ≡ text_of c.args.keeps c.args.bank.now x (Some p))
    (λ s is.
    let here : s ≡ find_below (is_slot_of area x p) 16 =
    subst (λ (l : List ℕ). s ≡ find_below (is_slot_of area l p) 16) (looks.reads.same tells)
    (subst (λ (a : SpareArea). s ≡ find_below (is_slot_of a (F.contents c.is_marked.new.flash) p) 16) (area_same c.args.bank.now c.is_marked.new.bank looks.geometry looks.current) is) in
    sym (slotted_text area x p s unmarked here) ∙ sym (ap (λ (k : Bool). text_of k c.args.bank.now x (Some p)) c.if-not-keeps.false))
    (c.slot_of.ensures.found tells)

pub returns-clause-below : goal.returns-clause-below
returns-clause-below g c =
    if_ok_each c.slot_of.result (λ o. IfSome o (λ s. s < 16)) (λ o. IfSome o (λ s. (c.args.keeps ≡ true) × (s < 16)))
    (λ o is. if_some_and o (c.args.keeps ≡ true) (λ s. s < 16) c.if-not-keeps.false is) c.slot_of.ensures.below

pub returns-clause-looks : goal.returns-clause-looks
returns-clause-looks g c =
    let F = g.F.Flash in
    looks_joined F.tells F.contents F.block_count F.block_len F.moment F.left_since c.args.flash.now c.is_marked.new.flash c.slot_of.new.flash c.args.bank.now c.is_marked.new.bank c.slot_of.new.bank
    c.is_marked.ensures.looks c.slot_of.ensures.looks
