-- The two parts of the spare area.
use Rattle.std.specs.Prelude.{ℕ}
use Rattle.flash_bank.specs.Bank.{geometry_of, len_of, spare_bank, spare_journal}
use Rattle.flash_bank.specs.declared.bank.Bank.{Bank}
use Rattle.flash_journal.specs.declared.side.Side.{Side}
use Rattle.flash_journal.specs.declared.side.Side.TheVariants.{InBank, InJournal}
use Rattle.flash_layout.specs.Layout.{journal_len}

-- where a part begins, in layout 2, and its bytes
abbrev pub side_place : Side → Bank → ℕ
side_place InBank bank = spare_bank bank
side_place InJournal bank = spare_journal bank

abbrev pub side_len : Side → Bank → ℕ
side_len InBank bank = len_of bank
side_len InJournal bank = journal_len (geometry_of bank)
