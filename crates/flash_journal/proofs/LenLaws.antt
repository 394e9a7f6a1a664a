-- The length of the journal.
use Rattle.std.specs.Prelude.{◌==◌, if◌then◌else◌}
use Rattle.std.proofs.Common.{◌≡◌, ℕ, ap}
use Rattle.flash_bank.specs.Bank.{current_of, geometry_of}
use Rattle.flash_bank.specs.Journal.{journal_len_of}
use Rattle.flash_bank.specs.declared.bank.Bank.{Bank}
use Rattle.flash_layout.specs.Layout.{journal_len}

-- in layout 2 the journal has its bytes
pub journal_len_two : (b : Bank) → (current_of b).layout ≡ 2 → journal_len_of b ≡ journal_len (geometry_of b)
journal_len_two b two = ap (λ (n : ℕ). if n == 2 then journal_len (geometry_of b) else 0) two
