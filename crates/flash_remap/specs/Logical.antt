-- The logical contents.
use Rattle.std.specs.Prelude.{◌≡◌, ℕ, zero, suc, ◌+◌, ◌*◌, ◌/◌, ◌%◌, List, [], ◌∷◌, ◌++◌, slice_index}
use Rattle.flash_dev.specs.declared.device.Flash.{Ghosts as FlashGhosts}
use Rattle.flash_remap.specs.Layout.{Geometry}
use Rattle.flash_remap.specs.Map.{place_of}

-- f 0, f 1, and so on, n of them
abbrev pub first_of : (ℕ → ℕ) → ℕ → List ℕ
first_of f zero = []
first_of f (suc n) = first_of f n ++ f n ∷ []

-- byte k of a logical block is byte k of the block that stands for it
abbrev pub byte_in : Geometry → List ℕ → ℕ → ℕ → ℕ
byte_in g contents block k = slice_index contents (place_of g contents block * g.block_len + k)

-- Of these contents of the inner flash: each logical block has the bytes of the block that stands for it.
unfoldable pub logical : Geometry → List ℕ → List ℕ
logical g contents = first_of (λ k. byte_in g contents (k / g.block_len) (k % g.block_len)) (g.logical * g.block_len)

-- these are the logical contents of what a power loss since some moment might have left beneath, where that is told
pub record IsLeft {F : Type 0} (f : FlashGhosts F) (g : Geometry) (inner : F) (t : ℕ) (left : List ℕ) : Type 0 where
  pub tells : f.tells
  pub beneath : List ℕ
  pub since : f.left_since inner t beneath
  pub is : left ≡ logical g beneath
