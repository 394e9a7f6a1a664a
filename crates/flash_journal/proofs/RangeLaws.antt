-- Slots of the spare journal of an open bank.
use Rattle.std.specs.Prelude.{◌==◌, if◌then◌else◌, IfSome, Option, Some, None}
use Rattle.std.proofs.Common.{◌≡◌, ℕ, ◌+◌, ◌*◌, ◌<◌, ◌≤◌, List, length, get_or, sym, ap, subst, ◌∙◌, arith}
use Rattle.bank_kept.specs.Bank.{area_of_bank}
use Rattle.bank_kept.proofs.AreaLaws.{area_fits}
use Rattle.bank_kept.proofs.BankLaws.{bank_area}
use Rattle.flash_bank.specs.Bank.{Fits, current_of, geometry_of, len_of, spare_journal}
use Rattle.flash_bank.specs.declared.bank.Bank.{Bank}
use Rattle.flash_dev.specs.Changes.{Holds}
use Rattle.flash_journal.specs.declared.slot.SlotRange.{SlotRange}
use Rattle.flash_kept.specs.SpareArea.{slot_place}
use Rattle.flash_layout.specs.Layout.{area_len, journal_len, short_len, slots_at}
use Rattle.flash_layout.specs.Pairs.{part}
use Rattle.flash_layout.specs.Slots.{slot_at, slot_len}
use Rattle.flash_layout.proofs.PartLemmas.{part_held}
use Rattle.flash_layout.proofs.Places.{area_is, area_within, slots_before_end}

pub journal_small : (bank : Bank) → (current_of bank).layout ≡ 2 → journal_len (geometry_of bank) ≤ 268435456
journal_small bank two =
    let all = area_is (geometry_of bank) bank.limits (bank.room two) in
    let within = area_within (geometry_of bank) bank.limits 0 (omega arith) in
    let most = bank.limits.most_bytes in
    omega (arith, all, within, most)

pub slot_room : (bank : Bank) (s : ℕ) → s < 16 → slots_at (geometry_of bank) + 4352 * s + 4352 ≤ journal_len (geometry_of bank)
slot_room bank s lt = let ends = slots_before_end (geometry_of bank) bank.limits in omega (arith, ends, lt)

pub len_two : (bank : Bank) → (current_of bank).layout ≡ 2 → len_of bank ≡ short_len (geometry_of bank)
len_two bank two = ap (λ (n : ℕ). if n == 2 then short_len (geometry_of bank) else area_len (geometry_of bank)) two

pub slot_fits : (bank : Bank) (c : List ℕ) (s : ℕ) → Fits bank c → (current_of bank).layout ≡ 2 → s < 16 → slot_place (area_of_bank bank) s + 4352 ≤ length c
slot_fits bank c s fits two lt =
    let within = area_fits (geometry_of bank) c (area_of_bank bank) bank.limits fits.sound (bank_area bank c fits two) in
    let room = slot_room bank s lt in
    omega (arith, within, room)

pub head_is : (bank : Bank) (c bytes : List ℕ) (s : ℕ) → Fits bank c → (current_of bank).layout ≡ 2 → s < 16 → length bytes ≡ 16
    → Holds c (spare_journal bank + (slots_at (geometry_of bank) + 4352 * s)) bytes → part c (slot_place (area_of_bank bank) s) 16 ≡ bytes
head_is bank c bytes s fits two lt size holds =
    let within = slot_fits bank c s fits two lt in
    let here : spare_journal bank + (slots_at (geometry_of bank) + 4352 * s) ≡ slot_place (area_of_bank bank) s = omega arith in
    part_held c bytes (slot_place (area_of_bank bank) s) 16 size (omega (arith, within)) (λ k below. subst (λ (p : ℕ). get_or c (p + k) 0 ≡ get_or bytes k 0) here (holds k below))

pub value_is : (r : Option SlotRange) (head slot : List ℕ) → slot_at slot ≡ slot_at head → slot_len slot ≡ slot_len head
    → IfSome r (λ t. (t.at ≡ slot_at head) × (t.len ≡ slot_len head)) → IfSome r (λ t. (t.at ≡ slot_at slot) × (t.len ≡ slot_len slot))
value_is None head slot at len is = tt
value_is (Some t) head slot at len is = (is.0 ∙ sym at, is.1 ∙ sym len)
