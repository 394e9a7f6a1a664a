-- The bytes that stand for the places of a group.
use Rattle.std.specs.Prelude.{ℕ, ◌+◌, ◌&&◌, ◌==◌, nat_le, Bool, true, false, if◌then◌else◌, List, [], Option, None, Some}
use Rattle.bank_kept.specs.Bank.{area_of_bank}
use Rattle.flash_bank.specs.Bank.{current_of, geometry_of, spare_bank}
use Rattle.flash_bank.specs.declared.bank.Bank.{Bank}
use Rattle.flash_kept.specs.Counts.{find_below}
use Rattle.flash_kept.specs.Slots.{is_marked, is_slot_of}
use Rattle.flash_kept.specs.SpareArea.{SpareArea, slot_bytes}
use Rattle.flash_layout.specs.Layout.{mark_count}
use Rattle.flash_layout.specs.Pairs.{part}
use Rattle.ssu_group.specs.declared.places.Place.{Place}

-- Is a group of so many places kept in the flash?
abbrev pub keeps_places : Bank → ℕ → Bool
keeps_places bank places = (current_of bank).layout == 2 && nat_le places (mark_count (geometry_of bank))

-- the bytes of a place in a slot, or if there is none in the bank
abbrev pub slot_text : SpareArea → List ℕ → Place → Option ℕ → List ℕ
slot_text area c p None = part c (area.bank + p.at) p.len
slot_text area c p (Some s) = part c (slot_bytes area s) p.len

-- The bytes of a place that is kept: the bank's where it is marked, else those of the slot that is for it.
unfoldable pub kept_text : SpareArea → List ℕ → Place → List ℕ
kept_text area c p = if is_marked area c p.number then part c (area.bank + p.at) p.len else slot_text area c p (find_below (is_slot_of area c p) 16)

-- the bytes of a place, where its group is kept and where it is not
abbrev pub text_of : Bool → Bank → List ℕ → Option Place → List ℕ
text_of keeps bank c None = []
text_of true bank c (Some p) = kept_text (area_of_bank bank) c p
text_of false bank c (Some p) = part c (spare_bank bank + p.at) p.len
