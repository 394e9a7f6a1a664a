-- What the calls of a stage leave of a bank, and what `finish` leaves of a flash.
use Rattle.std.specs.Prelude.{◌≡◌, ◌⊎◌, List, ℕ}
use Rattle.flash_bank.specs.Bank.{block_of, current_of, geometry_of}
use Rattle.flash_layout.specs.Layout.{Geometry}
use Rattle.flash_bank.specs.Leaving.{Installs, KeepsBoot}
use Rattle.flash_bank.specs.declared.bank.Bank.{Bank}
use Rattle.flash_bank.specs.declared.record.Record.{Record}

-- The bank is as it was: it has the same geometry, the same current record, and that in the same block.
pub record SameBank (old new : Bank) : Type 0 where
  pub geometry : geometry_of new ≡ geometry_of old
  pub current : current_of new ≡ current_of old
  pub block : block_of new ≡ block_of old

-- what `finish` may leave of x: the image is not installed, or it is
abbrev pub FinishLeaves : Geometry → Record → List ℕ → List ℕ → List ℕ → Type 0
FinishLeaves g new image x y = KeepsBoot g x y ⊎ Installs g new image x y
