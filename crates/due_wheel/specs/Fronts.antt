-- The first items of buckets, as a search for the least pair sees them.
use Rattle.std.specs.Prelude.{◌≡◌, ℕ, ◌-◌, ◌%◌, ◌≤◌, ◌==◌, nat_lt, Bool, false, if◌then◌else◌, Option, None, Some}
use Rattle.due_wheel.specs.Due.{DueMap, due_of}

-- The least pair of a bucket.
pub record IsFront (wheel : DueMap) (slot item due : ℕ) : Type 0 where
  pub is_in : due_of wheel.dues item ≡ Some due
  pub here : due % wheel.slots ≡ slot
  pub least : (other later : ℕ) → due_of wheel.dues other ≡ Some later → later % wheel.slots ≡ slot → due ≤ later
  pub tie : (other : ℕ) → due_of wheel.dues other ≡ Some due → item ≤ other

-- No item lies in a bucket.
abbrev pub HasNone : DueMap → ℕ → Type 0
HasNone wheel slot = (other later : ℕ) → due_of wheel.dues other ≡ Some later → later % wheel.slots ≡ slot → ⊥

-- There is an item, and it is due so far above the floor.
abbrev pub is_due_at : ℕ → ℕ → Option (ℕ × ℕ) → Bool
is_due_at floor past None = false
is_due_at floor past (Some first) = first.1 - floor == past

-- Of two pairs the one with the lesser due number, and else the first of them that is there.
abbrev pub lesser_of : Option (ℕ × ℕ) → Option (ℕ × ℕ) → Option (ℕ × ℕ)
lesser_of None other = other
lesser_of (Some best) None = Some best
lesser_of (Some best) (Some other) = if nat_lt other.1 best.1 then Some other else Some best
