-- The spare area of an open bank.
use Rattle.std.specs.Prelude.{◌-◌}
use Rattle.flash_bank.specs.Bank.{current_of, geometry_of}
use Rattle.flash_bank.specs.declared.bank.Bank.{Bank}
use Rattle.flash_kept.specs.SpareArea.{SpareArea, spare_area}

-- in layout 2
abbrev pub area_of_bank : Bank → SpareArea
area_of_bank bank = spare_area (geometry_of bank) (1 - (current_of bank).bank) (current_of bank).number
