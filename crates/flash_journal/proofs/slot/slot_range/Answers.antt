use Rattle.std.proofs.Common.{◌≡◌, ◌+◌, ◌*◌, List, ℕ, length, sym, ap, subst, ◌∙◌, arith, rules}
use Rattle.bank_kept.specs.Bank.{area_of_bank}
use Rattle.flash_bank.specs.Bank.{geometry_of, spare_journal}
use Rattle.flash_bank.specs.Laid.{IsSlotHead}
use Rattle.flash_dev.specs.Changes.{Holds}
use Rattle.flash_journal.specs.declared.side.Side.TheVariants.{InBank}
use Rattle.flash_kept.specs.Slots.{slot_in}
use Rattle.flash_kept.specs.SpareArea.{slot_place}
use Rattle.flash_layout.specs.Layout.{short_len, slots_at}
use Rattle.flash_layout.specs.Pairs.{part}
use Rattle.flash_layout.specs.Slots.{slot_at, slot_len}
use Rattle.flash_journal.proofs.LooksLaws.{side_len_same}
use Rattle.flash_journal.proofs.RangeLaws.{head_is, journal_small, len_two, slot_fits, slot_room, value_is}
use Rattle.flash_journal.proofs.SlotLaws.{at_same, len_same, valid_from, valid_to}
use Rattle.flash_journal.proofs.slot.slot_range.Goals as goal

pub overflow_add-slots : goal.overflow_add-slots
overflow_add-slots g c =
    omega (arith, c.requires.slots, slot_room c.args.bank.now c.args.slot c.requires.slot, journal_small c.args.bank.now c.requires.two)

pub read-requires-clause-inside : goal.read-requires-clause-inside
read-requires-clause-inside g c = omega (arith, c.requires.slots, slot_room c.args.bank.now c.args.slot c.requires.slot)

pub returns-clause-valid : goal.returns-clause-valid
returns-clause-valid g c tells =
    let x = g.F.Flash.contents c.args.flash.now in
    let b = c.args.bank.now in
    let s = c.args.slot in
    let bytes = c.read.new.buf in
    let size : length bytes ≡ 16 = search rules in
    let fits = c.requires.lent.fits tells in
    let held : Holds x (spare_journal b + (slots_at (geometry_of b) + 4352 * s)) bytes = subst (λ (n : ℕ). Holds x (spare_journal b + (n + 4352 * s)) bytes) c.requires.slots (c.in_ok-read.ensures.bytes tells) in
    let head = head_is b x bytes s fits c.requires.two c.requires.slot size held in
    let len : c.bank_len.result ≡ short_len (geometry_of b) =
    c.bank_len.ensures.value ∙ (side_len_same InBank b c.read.new.bank c.read.ensures.looks.geometry c.read.ensures.looks.current ∙ len_two b c.requires.two) in
    let room = slot_fits b x s fits c.requires.two c.requires.slot in (
      λ some. valid_to (area_of_bank b) x s room
          (subst (λ (n : ℕ). IsSlotHead n (part x (slot_place (area_of_bank b) s) 16)) len (subst (λ (h : List ℕ). IsSlotHead c.bank_len.result h) (sym head) (c.range_of.ensures.valid.0 some))),
      λ valid. c.range_of.ensures.valid.1
          (subst (λ (h : List ℕ). IsSlotHead c.bank_len.result h) head (subst (λ (n : ℕ). IsSlotHead n (part x (slot_place (area_of_bank b) s) 16)) (sym len) (valid_from (area_of_bank b) x s room valid))),
    )

pub returns-clause-value : goal.returns-clause-value
returns-clause-value g c tells =
    let x = g.F.Flash.contents c.args.flash.now in
    let b = c.args.bank.now in
    let s = c.args.slot in
    let bytes = c.read.new.buf in
    let size : length bytes ≡ 16 = search rules in
    let fits = c.requires.lent.fits tells in
    let held : Holds x (spare_journal b + (slots_at (geometry_of b) + 4352 * s)) bytes = subst (λ (n : ℕ). Holds x (spare_journal b + (n + 4352 * s)) bytes) c.requires.slots (c.in_ok-read.ensures.bytes tells) in
    let head = head_is b x bytes s fits c.requires.two c.requires.slot size held in
    let room = slot_fits b x s fits c.requires.two c.requires.slot in
    let at : slot_at (slot_in (area_of_bank b) x s) ≡ slot_at bytes = at_same x (slot_place (area_of_bank b) s) 0 room ∙ ap (λ (h : List ℕ). slot_at h) head in
    let len : slot_len (slot_in (area_of_bank b) x s) ≡ slot_len bytes = len_same x (slot_place (area_of_bank b) s) 0 room ∙ ap (λ (h : List ℕ). slot_len h) head in
    value_is c.range_of.result bytes (slot_in (area_of_bank b) x s) at len c.range_of.ensures.value
