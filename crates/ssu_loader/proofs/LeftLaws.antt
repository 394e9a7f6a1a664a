-- What a power loss may have left, from one call to the next.
use Rattle.std.proofs.Common.{◌≡◌, ℕ, List, sym, subst}
use Rattle.flash_dev.specs.declared.device.Flash.{Ghosts as FlashGhosts}
use Rattle.flash_dev.specs.Moments.{LeavesOnly}
use Rattle.flash_dev.proofs.Moments.{started, weaker}
use Rattle.flash_bank.specs.Runs.{OnlyReads}

-- where nothing was called, what is held
pub left_now : {F : Type 0} (f : FlashGhosts F) → ((flash : F) (c : List ℕ) → f.left_since flash (f.moment flash) c → c ≡ f.contents flash)
    → (flash : F) (P : List ℕ → Type 0) → P (f.contents flash) → LeavesOnly f.moment f.left_since flash flash P
left_now f only flash P here = started f.moment f.left_since flash P (λ c left. subst P (sym (only flash c left)) here)

-- where the flash was only read, what it held
pub left_read : {F : Type 0} (f : FlashGhosts F) (old new : F) (P : List ℕ → Type 0) → f.tells → OnlyReads f.tells f.contents f.block_count f.block_len f.moment f.left_since old new
    → P (f.contents old) → LeavesOnly f.moment f.left_since old new P
left_read f old new P tells reads here =
    weaker f.moment f.left_since old new (λ c. c ≡ f.contents old) P (λ c is. subst P (sym is) here) (reads.left tells)
