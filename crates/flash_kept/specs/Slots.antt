-- Marks and slots of a journal.
use Rattle.std.specs.Prelude.{ℕ, ◌+◌, Bool, ◌&&◌, ◌==◌, List, slice_index}
use Rattle.flash_layout.specs.Pairs.{part}
use Rattle.flash_layout.specs.Slots.{is_slot, slot_at, slot_len}
use Rattle.ssu_group.specs.declared.places.Place.{Place}
use Rattle.flash_kept.specs.Counts.{all_below, count_below, some_below}
use Rattle.flash_kept.specs.SpareArea.{SpareArea, mark_place, slot_place}

-- the n bytes from `at` on are erased
unfoldable pub is_blank : List ℕ → ℕ → ℕ → Bool
is_blank c at n = all_below (λ k. slice_index c (at + k) == 255) n

-- A place is marked if its pair is 00 FF.
unfoldable pub is_marked : SpareArea → List ℕ → ℕ → Bool
is_marked area c n = slice_index c (mark_place area n + 0) == 0 && slice_index c (mark_place area n + 1) == 255

-- the bytes of slot s
abbrev pub slot_in : SpareArea → List ℕ → ℕ → List ℕ
slot_in area c s = part c (slot_place area s) 4352

-- slot s is valid
unfoldable pub is_valid_slot : SpareArea → List ℕ → ℕ → Bool
is_valid_slot area c s = is_slot area.bank_len (slot_in area c s)

-- Slot s is valid, with the offset and the length of a place.
abbrev pub is_slot_of : SpareArea → List ℕ → Place → ℕ → Bool
is_slot_of area c p s = is_valid_slot area c s && (slot_at (slot_in area c s) == p.at && slot_len (slot_in area c s) == p.len)

-- A place is slotted if a valid slot has its offset and length.
unfoldable pub is_slotted : SpareArea → List ℕ → Place → Bool
is_slotted area c p = some_below (is_slot_of area c p) 16

-- A slot is free if all its 4,352 bytes are 255.
unfoldable pub is_free : SpareArea → List ℕ → ℕ → Bool
is_free area c s = is_blank c (slot_place area s) 4352

-- how many slots are free
unfoldable pub free_slots : SpareArea → List ℕ → ℕ
free_slots area c = count_below (is_free area c) 16
