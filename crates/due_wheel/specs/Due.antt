-- Due numbers of items, as a map: a list that has at the index of each item its due number, or None where the item is
-- not in. The least pair of due number and item, and the buckets of a wheel.
use Rattle.std.specs.Prelude.{◌≡◌, ℕ, ◌%◌, ◌≤◌, min, Bool, false, ◌&&◌, ◌||◌, ◌==◌, nat_lt, List, length, slice_index_or, slice_set}
use Rattle.std.specs.Prelude.{Option, None, Some, IfSome, IfNone, count_by}
use Rattle.std.specs.List.{range_with_len}

-- What a contract sees of a wheel: the map, the number of buckets, and a number that no due number is below.
pub record DueMap : Type 0 where
  pub dues : List (Option ℕ)
  pub slots : ℕ
  pub floor : ℕ

-- The due number of an item.
abbrev pub due_of : List (Option ℕ) → ℕ → Option ℕ
due_of dues item = slice_index_or dues item None

-- No item is in.
abbrev pub IsEmpty : List (Option ℕ) → Type 0
IsEmpty dues = (item : ℕ) → due_of dues item ≡ None

-- The least pair of due number and item: the least due number, and of the items with that number the least.
pub record IsLeast (dues : List (Option ℕ)) (item due : ℕ) : Type 0 where
  pub is_in : due_of dues item ≡ Some due
  pub least : (other later : ℕ) → due_of dues other ≡ Some later → due ≤ later
  pub tie : (other : ℕ) → due_of dues other ≡ Some due → item ≤ other

-- One pair of due number and item is less than another one.
abbrev pub is_less : ℕ → ℕ → ℕ → ℕ → Bool
is_less due item other_due other = nat_lt due other_due || (due == other_due && nat_lt item other)

-- Another item lies in the bucket of this due number, with a greater pair of due number and item.
abbrev pub is_behind : ℕ → ℕ → ℕ → ℕ → Option ℕ → Bool
is_behind slots due item other None = false
is_behind slots due item other (Some other_due) =
    (other_due % slots == due % slots) && is_less due item other_due other

-- How many items do.
abbrev pub count_behind : List (Option ℕ) → ℕ → ℕ → ℕ → ℕ
count_behind dues slots due item =
    count_by (λ other. is_behind slots due item other (due_of dues other)) (range_with_len 0 (length dues))

-- An item was put in. The floor is the due number where the wheel was empty, and else lowered to it where that is less.
pub record Puts (old new : DueMap) (item due : ℕ) : Type 0 where
  pub dues : new.dues ≡ slice_set old.dues item (Some due)
  pub slots : new.slots ≡ old.slots
  pub first : IsEmpty old.dues → new.floor ≡ due
  pub lower : (other later : ℕ) → due_of old.dues other ≡ Some later → new.floor ≡ min old.floor due

-- The least pair was taken out, and the floor is its due number; or there was none, and nothing changed.
pub record Takes (old new : DueMap) (taken : Option (ℕ × ℕ)) : Type 0 where
  pub least : IfSome taken (λ pair. IsLeast old.dues pair.0 pair.1)
  pub above : IfSome taken (λ pair. old.floor ≤ pair.1)
  pub dues : IfSome taken (λ pair. new.dues ≡ slice_set old.dues pair.0 None)
  pub floor : IfSome taken (λ pair. new.floor ≡ pair.1)
  pub slots : new.slots ≡ old.slots
  pub empty : IsEmpty old.dues → taken ≡ None
  pub none : IfNone taken (IsEmpty old.dues × (new ≡ old))
