-- Bytes that stand for places, and bytes that were read.
use Rattle.std.specs.Prelude.{if◌then◌else◌}
use Rattle.std.proofs.Common.{◌≡◌, ℕ, ◌+◌, ◌-◌, ◌*◌, ◌<◌, ◌≤◌, Bool, true, false, List, [], ◌∷◌, ◌++◌, length, get_or, Option, None, Some, refl, sym, ap, subst, ◌∙◌, arith}
use Rattle.bank_kept.specs.Bank.{area_of_bank}
use Rattle.flash_bank.proofs.BankLemmas.{len_less}
use Rattle.flash_bank.specs.Bank.{Fits, current_of, geometry_of, len_of, spare_bank, spare_journal}
use Rattle.flash_bank.specs.declared.bank.Bank.{Bank}
use Rattle.flash_dev.specs.Changes.{Holds}
use Rattle.flash_kept.specs.Counts.{find_below}
use Rattle.flash_kept.specs.Slots.{is_marked, is_slot_of}
use Rattle.flash_kept.specs.SpareArea.{SpareArea, slot_bytes}
use Rattle.flash_layout.proofs.PartLemmas.{part_held}
use Rattle.flash_layout.proofs.Places.{area_is, area_within}
use Rattle.flash_layout.specs.Layout.{Geometry, area_len, area_place, journal_len, short_len}
use Rattle.flash_layout.specs.Pairs.{part}
use Rattle.flash_stage.proofs.InBankLemmas.{read_part as bank_part}
use Rattle.ssu_group.specs.declared.places.Place.{Place}
use Rattle.flash_journal.proofs.RangeLaws.{journal_small}
use Rattle.flash_journal.specs.Side.{side_len, side_place}
use Rattle.flash_journal.specs.Texts.{kept_text, slot_text, text_of}
use Rattle.flash_journal.specs.declared.side.Side.{Side}
use Rattle.flash_journal.specs.declared.side.Side.TheVariants.{InBank, InJournal}

-- bytes that were read are a part of the contents
pub read_part : (side : Side) (bank : Bank) (c bytes : List ℕ) (at n : ℕ) → Fits bank c → (side ≡ InJournal → (current_of bank).layout ≡ 2) → length bytes ≡ n → at + n ≤ side_len side bank
    → Holds c (side_place side bank + at) bytes → part c (side_place side bank + at) n ≡ bytes
read_part InBank bank c bytes at n fits two long inside holds = bank_part bank c bytes at n fits long inside holds
read_part InJournal bank c bytes at n fits two long inside holds =
    let g = geometry_of bank in
    let all = area_is g bank.limits (bank.room (two refl)) in
    let within : area_place g (1 - (current_of bank).bank) + area_len g ≤ g.blocks * g.block_len = area_within g bank.limits (1 - (current_of bank).bank) (omega arith) in
    part_held c bytes (spare_journal bank + at) n long (omega (arith, all, within, inside, fits.sound.size)) holds

-- 32 bits count the bytes of both parts
pub side_small : (side : Side) (bank : Bank) → (side ≡ InJournal → (current_of bank).layout ≡ 2) → side_len side bank ≤ 268435456
side_small InBank bank two =
    let within : area_place (geometry_of bank) 0 + area_len (geometry_of bank) ≤ (geometry_of bank).blocks * (geometry_of bank).block_len = area_within (geometry_of bank) bank.limits 0 (omega arith) in
    let most = bank.limits.most_bytes in let less = len_less bank in omega (arith, within, most, less)
side_small InJournal bank two = journal_small bank (two refl)

-- ---- where a place stands

-- a marked one stands in the bank
pub marked_text : (area : SpareArea) (c : List ℕ) (p : Place) → is_marked area c p.number ≡ true → kept_text area c p ≡ part c (area.bank + p.at) p.len
unfolding kept_text
marked_text area c p is = ap (λ (t : Bool). if t then part c (area.bank + p.at) p.len else slot_text area c p (find_below (is_slot_of area c p) 16)) is

-- and another where a slot is for it
pub slotted_text : (area : SpareArea) (c : List ℕ) (p : Place) (slot : Option ℕ) → is_marked area c p.number ≡ false → slot ≡ find_below (is_slot_of area c p) 16 → kept_text area c p ≡ slot_text area c p slot
unfolding kept_text
slotted_text area c p slot is found =
    ap (λ (t : Bool). if t then part c (area.bank + p.at) p.len else slot_text area c p (find_below (is_slot_of area c p) 16)) is ∙ ap (slot_text area c p) (sym found)
