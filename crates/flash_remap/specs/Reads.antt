-- Calls that leave what is held as it was.
use Rattle.std.specs.Prelude.{◌≡◌, ◌↔◌}
use Rattle.flash_dev.specs.Moments.{LeavesOnly}
use Rattle.flash_dev.specs.declared.device.Flash.{Ghosts as FlashGhosts}

-- A call has only read: what is held is as before, a power loss within it leaves nothing else, and the flash is halted as it was.
pub record ChangesNothing {F : Type 0} (f : FlashGhosts F) (old new : F) : Type 0 where
  pub same : f.tells → f.contents new ≡ f.contents old
  pub blocks : f.block_count new ≡ f.block_count old
  pub block_size : f.block_len new ≡ f.block_len old
  pub left : LeavesOnly f.moment f.left_since old new (λ c. f.tells → c ≡ f.contents old)
  pub halt : f.halted new ↔ f.halted old
