-- What is seen of a flash that replaces failing blocks.
use Rattle.std.specs.Prelude.{◌≡◌, ◌⊎◌, ℕ, ◌+◌, ◌^◌, ◌≤◌, Bool, true, false, List, Result, IsErr, IsOk}
use Rattle.flash_dev.specs.Moments.{LeavesOnly}
use Rattle.flash_dev.specs.declared.device.Flash.{Ghosts as FlashGhosts}
use Rattle.flash_remap.specs.Added.{AddsFor}
use Rattle.flash_remap.specs.Layout.{Geometry, left_from, spare_block}
use Rattle.flash_remap.specs.Logical.{IsLeft, logical}
use Rattle.flash_remap.specs.Map.{next_spare, place_of}
use Rattle.flash_remap.specs.Shape.{geometry}
use Rattle.flash_remap.specs.declared.remap.Remap.{Remap}
use Rattle.ssu_io.specs.Faults.{Rose, raised}

module _ {F : Type 0} {f : FlashGhosts F} where
  -- the flash beneath, and how it is parted
  abbrev pub inner_of : Remap F f → F
  inner_of it = it.inner

  abbrev pub geometry_of : Remap F f → Geometry
  geometry_of it = geometry it.layout

  -- the logical contents
  abbrev pub contents_of : Remap F f → List ℕ
  contents_of it = logical (geometry_of it) (f.contents it.inner)

  abbrev pub block_count_of : Remap F f → ℕ
  block_count_of it = it.layout.logical

  abbrev pub block_len_of : Remap F f → ℕ
  block_len_of it = it.layout.block_size

  -- what a power loss might have left, where the flash beneath tells it: the logical contents of all that it might have left there
  abbrev pub left_since_of : Remap F f → ℕ → List ℕ → Type 0
  left_since_of it t left = IsLeft f (geometry_of it) it.inner t left

  -- an erase or program failed, and no replacement was left
  abbrev pub worn_of : Remap F f → Bool
  worn_of it = it.worn

  -- no call changes it any more
  abbrev pub halted_of : Remap F f → Type 0
  halted_of it = (it.worn ≡ true) ⊎ f.halted it.inner

  -- how often it has failed
  abbrev pub faults_of : Remap F f → ℕ
  faults_of it = it.faults

  -- how many replacements are left
  abbrev pub left_of : Remap F f → ℕ
  left_of it = left_from (geometry_of it) it.next.spare it.next.slot

  -- What a call says of its answer. The flash beneath is parted as before. Each failure raises the count, and nothing else does.
  -- It comes only where the remap was worn, or the count of the flash beneath rose; and no more replacements are used than that
  -- rose by, until it stands still.
  pub record Answers {T E : Type 0} (old new : Remap F f) (result : Result T E) : Type 0 where
    pub geometry : geometry_of new ≡ geometry_of old
    pub blocks : f.block_count (inner_of new) ≡ f.block_count (inner_of old)
    pub block_size : f.block_len (inner_of new) ≡ f.block_len (inner_of old)
    pub ok : IsOk result → faults_of new ≡ faults_of old
    pub err : IsErr result → faults_of new ≡ raised (faults_of old)
    pub cause : IsErr result → (worn_of old ≡ true) ⊎ Rose (f.faults (inner_of old)) (f.faults (inner_of new))
    pub uses : (2 ^ 64 ≤ f.faults (inner_of new) + 1)
        ⊎ (left_of old + f.faults (inner_of old) ≤ left_of new + f.faults (inner_of new))
    pub later : f.faults (inner_of old) ≤ f.faults (inner_of new)
    pub worn : worn_of old ≡ true → IsErr result × (worn_of new ≡ true)

  -- An erase or program fails first where no replacement is left, and then the remap is worn. The block itself and each replacement
  -- that was left were tried: the count of the flash beneath rose by as many, until it stands still.
  pub record Wears {T E : Type 0} (old new : Remap F f) (result : Result T E) : Type 0 where
    pub none_left : IsErr result → worn_of old ≡ false → left_of new ≡ 0
    pub tried : IsErr result → worn_of old ≡ false → (2 ^ 64 ≤ f.faults (inner_of new) + 1)
        ⊎ (left_of old + 1 + f.faults (inner_of old) ≤ f.faults (inner_of new))
    pub worn : IsErr result → worn_of new ≡ true
    pub goes_on : IsOk result → worn_of new ≡ false

  -- the same block stands for a logical one as before, and no replacement was used
  pub record StaysThere (block : ℕ) (old new : Remap F f) : Type 0 where
    pub place : f.tells → place_of (geometry_of new) (f.contents (inner_of new)) block
        ≡ place_of (geometry_of old) (f.contents (inner_of old)) block
    pub left : left_of new ≡ left_of old

  -- A call beneath failed, and a spare that no logical block had stands for this one. It is the last one in use. Of the spares that
  -- were passed over each was tried: the count of the flash beneath rose by one for each, and by one more, until it stands still.
  pub record MovesToSpare (block : ℕ) (old new : Remap F f) : Type 0 where
    pub spare : ℕ
    pub place : f.tells → place_of (geometry_of new) (f.contents (inner_of new)) block ≡ spare_block (geometry_of new) spare
    pub unused : f.tells → next_spare (geometry_of old) (f.contents (inner_of old)) ≤ spare
    pub last : f.tells → next_spare (geometry_of new) (f.contents (inner_of new)) ≡ spare + 1
    pub tried : f.tells → (2 ^ 64 ≤ f.faults (inner_of new) + 1)
        ⊎ (spare + 1 + f.faults (inner_of old) ≤ next_spare (geometry_of old) (f.contents (inner_of old)) + f.faults (inner_of new))
    pub left : left_of new + 1 ≤ left_of old
    pub rose : Rose (f.faults (inner_of old)) (f.faults (inner_of new))

  -- What an erase or program of a logical block does to the map, also what a power loss within it leaves of that: the map is only
  -- added to, and no replacement comes back. Where the call is done, the block stands where it stood or in a spare.
  pub record Places {T E : Type 0} (block : ℕ) (old new : Remap F f) (result : Result T E) : Type 0 where
    pub adds : f.tells → AddsFor (geometry_of old) block (f.contents (inner_of old)) (f.contents (inner_of new))
    pub left_beneath : LeavesOnly f.moment f.left_since (inner_of old) (inner_of new)
        (λ y. f.tells → AddsFor (geometry_of old) block (f.contents (inner_of old)) y)
    pub fewer : left_of new ≤ left_of old
    pub done : IsOk result → StaysThere block old new ⊎ MovesToSpare block old new
