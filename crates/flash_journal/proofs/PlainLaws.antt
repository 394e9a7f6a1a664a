-- Groups that are kept, and those that are not.
use Rattle.std.proofs.Common.{◌≡◌, ℕ, ◌+◌, ◌-◌, ◌≤◌, true, false, List, sym, ap, subst, ◌∙◌, arith}
use Rattle.std.proofs.lemmas.Bool.{eq-eqb, le-leb}
use Rattle.bank_kept.proofs.AreaLaws.{is_area}
use Rattle.bank_kept.proofs.CallLaws.{erased_none}
use Rattle.bank_kept.specs.Contents.{HoldsGroup, StagesGroup}
use Rattle.dsmcc_msg.specs.Control.{DiiFields}
use Rattle.flash_bank.specs.Bank.{Fits, block_of, current_of, geometry_of, spare_journal}
use Rattle.flash_bank.specs.declared.bank.Bank.{Bank}
use Rattle.flash_bank.specs.declared.record.Record.{Record}
use Rattle.flash_dev.specs.Changes.{IsBlank}
use Rattle.flash_kept.proofs.CountLaws.{and_both}
use Rattle.flash_kept.specs.SpareArea.{SpareArea}
use Rattle.flash_layout.proofs.Places.{slots_before_end}
use Rattle.flash_layout.specs.Layout.{journal_len, journal_place, mark_count}
use Rattle.flash_stage.specs.Keeping.{IsKeptIn, StagesNone}
use Rattle.flash_journal.specs.Texts.{keeps_places}

-- ---- whether a group is kept

pub kept_to : (bank : Bank) (places : ℕ) → IsKeptIn bank places → keeps_places bank places ≡ true
kept_to bank places is = and_both _ _ (eq-eqb (current_of bank).layout 2 is.two) (le-leb places (mark_count (geometry_of bank)) is.few)

pub never_kept : (bank : Bank) (places : ℕ) → keeps_places bank places ≡ false → IsKeptIn bank places → ⊥
never_kept bank places is kept = let yes = kept_to bank places kept in cc (sym is ∙ yes)

-- ---- one that is not

-- where the journal begins erased no message is held
pub blank_holds_none : (bank : Bank) (c : List ℕ) → Fits bank c → ((current_of bank).layout ≡ 2 → IsBlank c (spare_journal bank) 2)
    → (message : List ℕ) (dii : DiiFields) → HoldsGroup (geometry_of bank) c message dii → ⊥
blank_holds_none bank c fits blank message dii holds =
    let g = geometry_of bank in
    let r = block_of bank in
    let is = is_area g c r holds.area fits.current holds.spare in
    let two : (current_of bank).layout ≡ 2 = ap (λ (h : Record). h.layout) (sym fits.head) ∙ is.two in
    erased_none g c r bank.limits fits.current (subst (λ (h : Record). IsBlank c (journal_place g (1 - h.bank)) 2) (sym fits.head) (blank two)) message dii holds

pub blank_stages_none : (bank : Bank) (c : List ℕ) → Fits bank c → ((current_of bank).layout ≡ 2 → IsBlank c (spare_journal bank) 2) → StagesNone (geometry_of bank) c
blank_stages_none bank c fits blank message dii stages =
    blank_holds_none bank c fits blank message dii (record { area = stages.area; spare = stages.spare; held = stages.staged.held })

-- at the greatest number no message is staged, since the next one has more than 32 bits
pub last_none : (bank : Bank) (c message : List ℕ) → Fits bank c → (current_of bank).number ≡ 4294967295 → (dii : DiiFields) → StagesGroup (geometry_of bank) c message dii → ⊥
last_none bank c message fits last dii group =
    let is = is_area (geometry_of bank) c (block_of bank) group.area fits.current group.spare in
    let next : group.area.next ≡ (current_of bank).number + 1 = ap (λ (a : SpareArea). a.next) is.is ∙ ap (λ (h : Record). h.number + 1) fits.head in
    let says = group.staged.held.next in
    let whole = group.staged.held.header.whole in
    omega (arith, last, next, says, whole.each 4 (omega arith), whole.each 5 (omega arith), whole.each 6 (omega arith), whole.each 7 (omega arith))

-- a journal is not empty
pub journal_two : (bank : Bank) → 2 ≤ journal_len (geometry_of bank)
journal_two bank = let ends = slots_before_end (geometry_of bank) bank.limits in omega (arith, ends)

pub journal_some : (bank : Bank) (c : List ℕ) → ((current_of bank).layout ≡ 2 → IsBlank c (spare_journal bank) (journal_len (geometry_of bank)))
    → (2 ≤ journal_len (geometry_of bank)) → (current_of bank).layout ≡ 2 → IsBlank c (spare_journal bank) 2
journal_some bank c blank some two k lt = blank two k (omega (arith, lt, some))
