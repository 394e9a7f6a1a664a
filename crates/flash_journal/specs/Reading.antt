-- What is read of the journal.
use Rattle.std.specs.Prelude.{Bool, false, ◌&&◌, ◌==◌, Option, None, Some}
use Rattle.ssu_group.specs.declared.places.Place.{Place}
use Rattle.flash_journal.specs.declared.slot.SlotRange.{SlotRange}

-- Is the range of a slot, if it is valid, that of a place?
abbrev pub is_range : Option SlotRange → Place → Bool
is_range None p = false
is_range (Some range) p = range.at == p.at && range.len == p.len
