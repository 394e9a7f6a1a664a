-- Places that can be stored in a slot only.
use Rattle.std.specs.Prelude.{ℕ, ◌+◌, Bool, false, ◌&&◌, not, List, Option, Some, None}
use Rattle.dsmcc_msg.specs.Control.{DiiFields}
use Rattle.ssu_group.specs.declared.places.Place.{Place}
use Rattle.flash_kept.specs.Counts.{count_below}
use Rattle.flash_kept.specs.Places.{place_count, place_of}
use Rattle.flash_kept.specs.Slots.{is_blank, is_marked, is_slotted}
use Rattle.flash_kept.specs.SpareArea.{SpareArea, mark_place}

-- the range of the place and its mark pair are blank throughout
abbrev pub is_untouched : SpareArea → List ℕ → ℕ → Place → Bool
is_untouched area c n p = is_blank c (area.bank + p.at) p.len && is_blank c (mark_place area n) 2

abbrev pub is_lost_as : Bool → Bool → Bool → Bool
is_lost_as marked slotted untouched = not marked && (not slotted && not untouched)

-- The place numbered n is lost if it is neither marked nor slotted, and its range or its mark pair is not blank throughout.
unfoldable pub is_lost : SpareArea → List ℕ → ℕ → Option Place → Bool
is_lost area c n None = false
is_lost area c n (Some p) = is_lost_as (is_marked area c n) (is_slotted area c p) (is_untouched area c n p)

-- how many places are lost
unfoldable pub lost_places : SpareArea → DiiFields → List ℕ → ℕ
lost_places area dii c = count_below (λ n. is_lost area c n (place_of dii n)) (place_count dii)
