-- A flash before a call and after it, as a contract over several objects speaks of it.
use Rattle.std.specs.Prelude.{◌≡◌, ℕ, List}
use Rattle.flash_dev.specs.Moments.{LeavesOnly}
use Rattle.flash_dev.specs.declared.device.Flash.{Ghosts as FlashGhosts}
use Rattle.flash_layout.specs.Layout.{Geometry, blocks_of}
use Rattle.flash_bank.specs.Runs.{OnlyReads}

-- Whether the flash tells its contents, its blocks, the contents, and how often it failed.
pub record FlashSeen : Type 1 where
  pub tells : Type 0
  pub blocks : Geometry
  pub blocks_after : Geometry
  pub contents : List ℕ
  pub contents_after : List ℕ
  pub faults : ℕ
  pub faults_after : ℕ
  -- its blocks and contents are as before, and a power loss since leaves nothing else
  pub only_reads : Type 0
  -- a power loss since leaves only contents of which this holds
  pub leaves_only : (List ℕ → Type 0) → Type 0
  -- nothing of it has changed
  pub same : Type 0

abbrev pub flash_seen : {F : Type 0} → FlashGhosts F → F → F → FlashSeen
flash_seen flash old new = record {
  tells = flash.tells;
  blocks = blocks_of flash old;
  blocks_after = blocks_of flash new;
  contents = flash.contents old;
  contents_after = flash.contents new;
  faults = flash.faults old;
  faults_after = flash.faults new;
  only_reads = OnlyReads flash.tells flash.contents flash.block_count flash.block_len flash.moment flash.left_since old new;
  leaves_only = LeavesOnly flash.moment flash.left_since old new;
  same = new ≡ old;
}
