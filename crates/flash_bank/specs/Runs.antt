-- What a run of calls does to a range.
use Rattle.std.specs.Prelude.{◌≡◌, ◌⊎◌, ℕ, ◌+◌, ◌%◌, ◌<◌, ◌≤◌, List, length, slice_index}
use Rattle.flash_dev.specs.Changes.{Changes, IsTornProgram}
use Rattle.flash_dev.specs.Moments.{LeavesOnly}

-- a byte is not below what it was
abbrev pub IsRaised : ℕ → ℕ → ℕ → Type 0
IsRaised k old new = old ≤ new

-- a byte on its way to the one to be written, which the first of them have become
abbrev pub IsCutProgram : List ℕ → ℕ → ℕ → ℕ → ℕ → Type 0
IsCutProgram bytes done k old new = IsTornProgram bytes k old new × (k < done → new ≡ slice_index bytes k)

-- These bytes were programmed from `at` on, in pieces and in ascending order, up to within one piece: the pieces before it
-- are done, it is torn, and all behind it is as in x. It lies in one page of 256 bytes, and ends at a multiple of 256 of
-- the address, or with the bytes.
pub record CutsInPage (at : ℕ) (bytes x y : List ℕ) : Type 0 where
  pub done : ℕ
  pub piece : ℕ
  pub inside : done + piece ≤ length bytes
  pub page : (at + done) % 256 + piece ≤ 256
  pub ends : ((at + done + piece) % 256 ≡ 0) ⊎ (done + piece ≡ length bytes)
  pub changes : Changes at (done + piece) (IsCutProgram bytes done) x y

-- A call has only read: what is held is as before, and a power loss within it leaves nothing else.
pub record OnlyReads {F : Type 0} (tells : Type 0) (contents : F → List ℕ) (block_count block_len moment : F → ℕ)
    (left_since : F → ℕ → List ℕ → Type 0) (old new : F) : Type 0 where
  pub same : tells → contents new ≡ contents old
  pub blocks : block_count new ≡ block_count old
  pub block_size : block_len new ≡ block_len old
  pub left : tells → LeavesOnly moment left_since old new (λ c. c ≡ contents old)

-- a place outside the n bytes from `at` on
abbrev pub IsOutside : ℕ → ℕ → ℕ → Type 0
IsOutside at n k = (k < at) ⊎ (at + n ≤ k)

-- each byte is one
abbrev pub AreBytes : List ℕ → Type 0
AreBytes contents = (k : ℕ) → slice_index contents k ≤ 255

-- the n bytes from `at` on are the same
abbrev pub SameAt : ℕ → ℕ → List ℕ → List ℕ → Type 0
SameAt at n x y = (i : ℕ) → i < n → slice_index y (at + i) ≡ slice_index x (at + i)
