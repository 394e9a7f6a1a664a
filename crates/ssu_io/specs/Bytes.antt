-- What a source has left and what a sink got: the bytes, or None where the object does not tell them.
-- What is told before a call is told after it, and what is not told before a call is not told after it.
use Rattle.std.specs.Prelude.{◌≡◌, ◌↔◌, ℕ, ◌≤◌, List, [], ◌++◌, length, take, Option, Some, None}

-- the piece was taken from the front of what was left
abbrev pub Takes : Option (List ℕ) → Option (List ℕ) → List ℕ → Type 0
Takes (Some before) (Some after) piece = before ≡ piece ++ after
Takes (Some before) None piece = ⊥
Takes None (Some after) piece = ⊥
Takes None None piece = Unit {0}

-- no bytes were taken exactly where none were left
abbrev pub IsZeroAtEnd : Option (List ℕ) → ℕ → Type 0
IsZeroAtEnd (Some before) taken = (taken ≡ 0) ↔ (before ≡ [])
IsZeroAtEnd None taken = Unit {0}

-- the piece was appended to what the sink got
abbrev pub Gains : Option (List ℕ) → Option (List ℕ) → List ℕ → Type 0
Gains (Some before) (Some after) piece = after ≡ before ++ piece
Gains (Some before) None piece = ⊥
Gains None (Some after) piece = ⊥
Gains None None piece = Unit {0}

-- a prefix of the piece was appended
abbrev pub GainsPrefix : Option (List ℕ) → Option (List ℕ) → List ℕ → Type 0
GainsPrefix before after piece = (n : ℕ) × (n ≤ length piece) × Gains before after (take n piece)
