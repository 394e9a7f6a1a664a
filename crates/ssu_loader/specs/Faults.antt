-- What each fault says.
use Rattle.std.specs.Prelude.{Result, Ok, Err}
use Rattle.flash_bank.specs.declared.fault.BankFault.{BankFault}
use Rattle.flash_bank.specs.declared.fault.BankFault.TheVariants as bank_fault
use Rattle.ssu_loader.specs.declared.fault.LoadFault.{LoadFault}
use Rattle.ssu_loader.specs.declared.fault.LoadFault.TheVariants as load_fault

abbrev pub of_bank : BankFault → LoadFault
of_bank bank_fault.Geometry = load_fault.Geometry
of_bank bank_fault.Flash = load_fault.FlashFault
of_bank bank_fault.Foreign = load_fault.Foreign
of_bank bank_fault.Worn = load_fault.Worn

-- the fact for each fault that comes only of an opening that found sound contents, or after it
abbrev pub sound_fact : LoadFault → Type 0 → Type 0
sound_fact load_fault.Geometry fact = Unit {0}
sound_fact load_fault.FlashFault fact = Unit {0}
sound_fact load_fault.Foreign fact = Unit {0}
sound_fact other fact = fact

-- the fact, where the answer says that the contents were found sound
abbrev pub WhereSound : {T : Type 0} → Result T LoadFault → Type 0 → Type 0
WhereSound (Ok value) fact = fact
WhereSound (Err fault) fact = sound_fact fault fact

-- the fact for each fault that comes of a number that can be raised, too
abbrev pub fresh_fact : LoadFault → Type 0 → Type 0
fresh_fact load_fault.Worn fact = Unit {0}
fresh_fact other fact = sound_fact other fact

abbrev pub WhereNotWorn : {T : Type 0} → Result T LoadFault → Type 0 → Type 0
WhereNotWorn (Ok value) fact = fact
WhereNotWorn (Err fault) fact = fresh_fact fault fact

-- the fact for the faults of an opening that are no fault of the flash: no packet was taken
abbrev pub refused_fact : LoadFault → Type 0 → Type 0
refused_fact load_fault.Geometry fact = fact
refused_fact load_fault.Foreign fact = fact
refused_fact load_fault.Worn fact = fact
refused_fact load_fault.Memory fact = fact
refused_fact other fact = Unit {0}

abbrev pub WhereRefused : {T : Type 0} → Result T LoadFault → Type 0 → Type 0
WhereRefused (Ok value) fact = Unit {0}
WhereRefused (Err fault) fact = refused_fact fault fact

-- the fact, unless the answer is Geometry
abbrev pub limits_fact : LoadFault → Type 0 → Type 0
limits_fact load_fault.Geometry fact = Unit {0}
limits_fact other fact = fact

abbrev pub WhereInLimits : {T : Type 0} → Result T LoadFault → Type 0 → Type 0
WhereInLimits (Ok value) fact = fact
WhereInLimits (Err fault) fact = limits_fact fault fact

-- the answer is no fault of the source or of the flash
abbrev pub unfailed_fault : LoadFault → Type 0
unfailed_fault load_fault.FlashFault = ⊥
unfailed_fault load_fault.ReadFault = ⊥
unfailed_fault other = Unit {0}

abbrev pub IsUnfailed : {T : Type 0} → Result T LoadFault → Type 0
IsUnfailed (Ok value) = Unit {0}
IsUnfailed (Err fault) = unfailed_fault fault

-- the answer is one of an opening
abbrev pub opening_fault : LoadFault → Type 0
opening_fault load_fault.ReadFault = ⊥
opening_fault load_fault.TooLong = ⊥
opening_fault other = Unit {0}

abbrev pub IsOfOpening : {T : Type 0} → Result T LoadFault → Type 0
IsOfOpening (Ok value) = Unit {0}
IsOfOpening (Err fault) = opening_fault fault

-- the answer is one of taking packets
abbrev pub IsOfTaking : LoadFault → Type 0
IsOfTaking load_fault.ReadFault = Unit {0}
IsOfTaking load_fault.TooLong = Unit {0}
IsOfTaking load_fault.FlashFault = Unit {0}
IsOfTaking other = ⊥
