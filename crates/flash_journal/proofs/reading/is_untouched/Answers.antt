use Rattle.std.specs.Prelude.{◌↔◌, IfOk, IsTrue, ◌&&◌}
use Rattle.std.proofs.Common.{◌≡◌, ◌+◌, ◌*◌, ◌≤◌, ℕ, Bool, true, List, sym, ap, subst, ◌∙◌, arith}
use Rattle.bank_kept.specs.Bank.{area_of_bank}
use Rattle.flash_dev.specs.Changes.{IsBlank}
use Rattle.flash_bank.specs.Bank.{spare_bank}
use Rattle.flash_kept.specs.Lost.{is_untouched}
use Rattle.flash_kept.specs.Slots.{is_blank}
use Rattle.flash_kept.specs.SpareArea.{mark_place}
use Rattle.flash_layout.specs.Layout.{Geometry, journal_len}
use Rattle.flash_journal.specs.Side.{side_place}
use Rattle.flash_journal.specs.declared.side.Side.TheVariants.{InJournal}
use Rattle.flash_stage.proofs.LeavingLaws.{if_ok}
use Rattle.flash_journal.proofs.LooksLaws.{looks_joined, side_place_same}
use Rattle.flash_journal.proofs.ReadingLaws.{blank_tested, mark_room}
use Rattle.flash_journal.proofs.reading.is_untouched.Goals as goal

pub returns-then-not-blank-clause-found : goal.returns-then-not-blank-clause-found
returns-then-not-blank-clause-found g c tells =
    let x = g.F.Flash.contents c.args.flash.now in
    let b = c.args.bank.now in
    let p = c.args.place in
    let first : c.in_ok-blank.blank ≡ is_blank x (spare_bank b + p.at) p.len = blank_tested x (spare_bank b + p.at) p.len c.in_ok-blank.blank
    (subst (λ (n : ℕ). IsTrue c.in_ok-blank.blank ↔ IsBlank x (spare_bank b + p.at) n) c.from.ensures (c.in_ok-blank.ensures.found tells)) in
    ap (λ (t : Bool). t && is_blank x (mark_place (area_of_bank b) p.number) 2) (sym c.if-not-blank.true ∙ first)

pub is_blank-requires-2-clause-inside : goal.is_blank-requires-2-clause-inside
is_blank-requires-2-clause-inside g c =
    subst (λ (s : Geometry). 8448 + 2 * c.args.place.number + 2 ≤ journal_len s) (sym c.is_blank.ensures.looks.geometry) (mark_room c.args.bank.now c.args.place.number c.requires.mark)

pub returns-clause-found : goal.returns-clause-found
returns-clause-found g c tells =
    let x = g.F.Flash.contents c.args.flash.now in
    let b = c.args.bank.now in
    let p = c.args.place in
    let looks = c.is_blank.ensures.looks in
    let first : c.in_ok-blank.blank ≡ is_blank x (spare_bank b + p.at) p.len = blank_tested x (spare_bank b + p.at) p.len c.in_ok-blank.blank
    (subst (λ (n : ℕ). IsTrue c.in_ok-blank.blank ↔ IsBlank x (spare_bank b + p.at) n) c.from.ensures (c.in_ok-blank.ensures.found tells)) in
    let yes : is_blank x (spare_bank b + p.at) p.len ≡ true = sym first ∙ c.if-not-blank.false in
    let here : side_place InJournal c.is_blank.new.bank + (8448 + 2 * p.number) ≡ mark_place (area_of_bank b) p.number =
    omega (arith, side_place_same InJournal b c.is_blank.new.bank looks.geometry looks.current) in
    if_ok (λ t. IsTrue t ↔ IsBlank x (mark_place (area_of_bank b) p.number) 2) (λ t. t ≡ is_untouched (area_of_bank b) x p.number p) c.is_blank-2.result
    (λ t is. blank_tested x (mark_place (area_of_bank b) p.number) 2 t is ∙ ap (λ (u : Bool). u && is_blank x (mark_place (area_of_bank b) p.number) 2) (sym yes))
    (subst (λ (q : ℕ). IfOk c.is_blank-2.result (λ t. IsTrue t ↔ IsBlank x q 2)) here
    (subst (λ (l : List ℕ). IfOk c.is_blank-2.result (λ t. IsTrue t ↔ IsBlank l (side_place InJournal c.is_blank.new.bank + (8448 + 2 * p.number)) 2)) (looks.reads.same tells) (c.is_blank-2.ensures.found tells)))

pub returns-clause-looks : goal.returns-clause-looks
returns-clause-looks g c =
    let F = g.F.Flash in
    looks_joined F.tells F.contents F.block_count F.block_len F.moment F.left_since c.args.flash.now c.is_blank.new.flash c.is_blank-2.new.flash c.args.bank.now c.is_blank.new.bank c.is_blank-2.new.bank
    c.is_blank.ensures.looks c.is_blank-2.ensures.looks
