-- Facts that the contracts of several commands share.
use Rattle.ssu_status.specs.declared.status.Status.{Status}
use Rattle.ssu_status.specs.declared.status.Status.TheVariants.{Done, ReadFault, WriteFault, FlashFault, ShelfFault, TooLong}

-- the status tells of a fault of an object
abbrev pub IsFault : Status → Type 0
IsFault ReadFault = Unit {0}
IsFault WriteFault = Unit {0}
IsFault FlashFault = Unit {0}
IsFault ShelfFault = Unit {0}
IsFault other = ⊥

-- all was done but for what is written, which was put or not
abbrev pub IsPrinted : Status → Type 0
IsPrinted Done = Unit {0}
IsPrinted WriteFault = Unit {0}
IsPrinted other = ⊥

-- how an input of packets ended: these statuses and no others
abbrev pub IsEndOfInput : Status → Type 0
IsEndOfInput Done = Unit {0}
IsEndOfInput ReadFault = Unit {0}
IsEndOfInput TooLong = Unit {0}
IsEndOfInput other = ⊥
