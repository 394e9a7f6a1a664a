-- Calls that only look.
use Rattle.std.specs.Prelude.{◌≡◌, ℕ, List}
use Rattle.flash_bank.specs.Bank.{block_of, current_of, geometry_of, is_begun}
use Rattle.flash_bank.specs.Runs.{OnlyReads}
use Rattle.flash_bank.specs.declared.bank.Bank.{Bank}

-- What the flash holds is as before, nothing else is left of it, and the bank is what it was.
pub record Looks {F : Type 0} (tells : Type 0) (contents : F → List ℕ) (block_count block_len moment : F → ℕ)
    (left_since : F → ℕ → List ℕ → Type 0) (old : F) (before : Bank) (new : F) (after : Bank) : Type 0 where
  pub reads : OnlyReads tells contents block_count block_len moment left_since old new
  pub geometry : geometry_of after ≡ geometry_of before
  pub current : current_of after ≡ current_of before
  pub block : block_of after ≡ block_of before
  pub begun : is_begun after ≡ is_begun before
