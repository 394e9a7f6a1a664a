-- Which statuses may come, and facts for several of them.
use Rattle.ssu_status.specs.declared.status.Status.{Status}
use Rattle.ssu_status.specs.declared.status.Status.TheVariants.{Done, Absent, BoxRefused, FlashFault, Foreign, Geometry}
use Rattle.ssu_status.specs.declared.status.Status.TheVariants.{NoFit, NoMemory, ShelfFault, Worn, WriteFault}

abbrev pub OnFlashFault : Status → Type 0 → Type 0
OnFlashFault FlashFault fact = fact
OnFlashFault other fact = Unit {0}

abbrev pub OnForeign : Status → Type 0 → Type 0
OnForeign Foreign fact = fact
OnForeign other fact = Unit {0}

abbrev pub OnWorn : Status → Type 0 → Type 0
OnWorn Worn fact = fact
OnWorn other fact = Unit {0}

abbrev pub OnNoFit : Status → Type 0 → Type 0
OnNoFit NoFit fact = fact
OnNoFit other fact = Unit {0}

-- ---- boot

abbrev pub IsBootAnswer : Status → Type 0
IsBootAnswer Done = Unit {0}
IsBootAnswer Geometry = Unit {0}
IsBootAnswer FlashFault = Unit {0}
IsBootAnswer Foreign = Unit {0}
IsBootAnswer WriteFault = Unit {0}
IsBootAnswer other = ⊥

-- the fact for the answers after which something was put, or may have been
abbrev pub OnTaken : Status → Type 0 → Type 0
OnTaken Done fact = fact
OnTaken WriteFault fact = fact
OnTaken other fact = Unit {0}

-- the fact for the answers that come before anything is put
abbrev pub OnOpeningRefused : Status → Type 0 → Type 0
OnOpeningRefused Geometry fact = fact
OnOpeningRefused Foreign fact = fact
OnOpeningRefused other fact = Unit {0}

-- the fact for the answers before the line
abbrev pub OnUnprinted : Status → Type 0 → Type 0
OnUnprinted Done fact = Unit {0}
OnUnprinted WriteFault fact = Unit {0}
OnUnprinted other fact = fact

-- ---- format

abbrev pub IsFormatAnswer : Status → Type 0
IsFormatAnswer Done = Unit {0}
IsFormatAnswer (Absent name) = Unit {0}
IsFormatAnswer ShelfFault = Unit {0}
IsFormatAnswer (BoxRefused field) = Unit {0}
IsFormatAnswer NoMemory = Unit {0}
IsFormatAnswer Geometry = Unit {0}
IsFormatAnswer NoFit = Unit {0}
IsFormatAnswer FlashFault = Unit {0}
IsFormatAnswer WriteFault = Unit {0}
IsFormatAnswer other = ⊥

-- the fact for the answers that come of the two files
abbrev pub OnFilesRefused : Status → Type 0 → Type 0
OnFilesRefused (Absent name) fact = fact
OnFilesRefused ShelfFault fact = fact
OnFilesRefused (BoxRefused field) fact = fact
OnFilesRefused NoMemory fact = fact
OnFilesRefused other fact = Unit {0}

-- the fact for the answers behind them
abbrev pub OnFilesRead : Status → Type 0 → Type 0
OnFilesRead Done fact = fact
OnFilesRead Geometry fact = fact
OnFilesRead NoFit fact = fact
OnFilesRead FlashFault fact = fact
OnFilesRead WriteFault fact = fact
OnFilesRead other fact = Unit {0}

-- the fact for the answers before the flash is touched
abbrev pub OnUntouched : Status → Type 0 → Type 0
OnUntouched Done fact = Unit {0}
OnUntouched FlashFault fact = Unit {0}
OnUntouched WriteFault fact = Unit {0}
OnUntouched other fact = fact

-- ---- migrate

abbrev pub IsMigrateAnswer : Status → Type 0
IsMigrateAnswer Done = Unit {0}
IsMigrateAnswer Geometry = Unit {0}
IsMigrateAnswer FlashFault = Unit {0}
IsMigrateAnswer Foreign = Unit {0}
IsMigrateAnswer Worn = Unit {0}
IsMigrateAnswer NoFit = Unit {0}
IsMigrateAnswer WriteFault = Unit {0}
IsMigrateAnswer other = ⊥
