-- Lists of items, one for each slot, in which each item with a due number stands once.
use Rattle.std.specs.Prelude.{ℕ, List, [], slice_get, slice_index_or, Bool, if◌then◌else◌, Option, None}
use Rattle.std.specs.List.{last_or}

-- What a contract sees of links: the items of each slot in their order, and at the index of each item its due number, or
-- None where the item is not linked.
pub record LinkedLists : Type 0 where
  pub lists : List (List ℕ)
  pub dues : List (Option ℕ)

-- The items of a slot.
abbrev pub items_of : List (List ℕ) → ℕ → List ℕ
items_of lists slot = slice_index_or lists slot []

-- The first item of a list, and the last.
abbrev pub first_of : List ℕ → Option ℕ
first_of items = slice_get items 0

abbrev pub last_of : List ℕ → Option ℕ
last_of = last_or None

-- The item at an end: at the back, or else at the front.
abbrev pub end_of : Bool → List ℕ → Option ℕ
end_of back items = if back then last_of items else first_of items

-- The item beside one that stands between these: the last before it, or else the first behind it.
abbrev pub beside_of : Bool → List ℕ → List ℕ → Option ℕ
beside_of back before behind = if back then last_of before else first_of behind
