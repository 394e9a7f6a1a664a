-- An erase or a program of one block.
use Rattle.std.specs.Prelude.{ℕ, ◌+◌, ◌-◌, ◌*◌, ◌≤◌, nat_lt, if◌then◌else◌, List, length, slice_index}
use Rattle.flash_dev.specs.Changes.{IsBlank, IsErased, IsProgrammed, IsTornErase, IsTornProgram}
use Rattle.flash_remap.specs.declared.change.Change.{Change}
use Rattle.flash_remap.specs.declared.change.Change.TheVariants.{Erase, Program}

-- where in a block of this length it begins, and how many bytes it changes
abbrev pub begins_at : Change → ℕ
begins_at Erase = 0
begins_at (Program at bytes) = at

abbrev pub changed_len : ℕ → Change → ℕ
changed_len block_len Erase = block_len
changed_len block_len (Program at bytes) = length bytes.now

-- what it makes of each byte once it is done, and what it may leave of it when it is torn
abbrev pub IsDoneBy : Change → ℕ → ℕ → ℕ → Type 0
IsDoneBy Erase = IsErased
IsDoneBy (Program at bytes) = IsProgrammed bytes.now

abbrev pub IsTornBy : Change → ℕ → ℕ → ℕ → Type 0
IsTornBy Erase = IsTornErase
IsTornBy (Program at bytes) = IsTornProgram bytes.now

-- it lies in a block of this length
abbrev pub LiesInBlock : ℕ → Change → Type 0
LiesInBlock block_len Erase = Unit {0}
LiesInBlock block_len (Program at bytes) = (1 ≤ length bytes.now) × (length bytes.now ≤ 256) × (at + length bytes.now ≤ block_len)

-- a program finds erased bytes
abbrev pub FindsBlank : ℕ → Change → List ℕ → ℕ → Type 0
FindsBlank block_len Erase contents block = Unit {0}
FindsBlank block_len (Program at bytes) contents block = IsBlank contents (block * block_len + at) (length bytes.now)

-- byte k of the block once it is done: where it programs, the other bytes are those that the block has in these contents
abbrev pub wanted : ℕ → Change → List ℕ → ℕ → ℕ → ℕ
wanted block_len Erase contents block k = 255
wanted block_len (Program at bytes) contents block k =
    if nat_lt k at then slice_index contents (block * block_len + k)
    else if nat_lt k (at + length bytes.now) then slice_index bytes.now (k - at)
    else slice_index contents (block * block_len + k)

-- what it programs are bytes
abbrev pub AreBytes : Change → Type 0
AreBytes Erase = Unit {0}
AreBytes (Program at bytes) = (k : ℕ) → slice_index bytes.now k ≤ 255
