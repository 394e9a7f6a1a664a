-- The buckets of a wheel: which items lie in each of them, and in which order.
use Rattle.std.specs.Prelude.{◌≡◌, ℕ, ◌+◌, ◌*◌, ◌%◌, ◌^◌, ◌<◌, ◌≤◌, true, false, List, [], ◌∷◌, ◌++◌, length}
use Rattle.std.specs.Prelude.{Option, Some, count_by, unwrap_or, is_some, IsSome}
use Rattle.due_wheel.specs.Due.{due_of, is_less}
use Rattle.due_wheel.specs.Lists.{LinkedLists, items_of, last_of}
use Rattle.due_wheel.specs.Rings.{Stands}

-- The pair of an item's due number and the item, as one number.
abbrev pub pair_of : List (Option ℕ) → ℕ → ℕ
pair_of dues item = unwrap_or (due_of dues item) 0 * 2 ^ 32 + item

-- The pair of each item is less than those of all items behind it.
abbrev pub Ascends : List (Option ℕ) → List ℕ → Type 0
Ascends dues [] = Unit {0}
Ascends dues (item ∷ items) =
    ((other : ℕ) → Stands other items → pair_of dues item < pair_of dues other) × Ascends dues items

-- Each item lies in the bucket of its due number, which is that number modulo the number of buckets.
pub record AreBuckets (links : LinkedLists) (slots count floor : ℕ) : Type 0 where
  pub slots_are : length links.lists ≡ slots
  pub some : 1 ≤ slots
  pub few : length links.dues < 2 ^ 32
  pub counted : count ≡ count_by is_some links.dues
  pub due_in : (slot item : ℕ) → Stands item (items_of links.lists slot)
      → (due : ℕ) × (due_of links.dues item ≡ Some due) × (due % slots ≡ slot)
  pub listed : (item due : ℕ) → due_of links.dues item ≡ Some due → Stands item (items_of links.lists (due % slots))
  pub ascends : (slot : ℕ) → Ascends links.dues (items_of links.lists slot)
  pub above : (item due : ℕ) → due_of links.dues item ≡ Some due → floor ≤ due

-- Each item of a list has a due number.
abbrev pub AllLinked : List (Option ℕ) → List ℕ → Type 0
AllLinked dues items = (item : ℕ) → Stands item items → IsSome (due_of dues item)

-- The place of a new item in a list: behind this item, or at the front. All items behind it have greater pairs, and so many
-- looks have found it.
pub record IsPlaceOf (dues : List (Option ℕ)) (items : List ℕ) (due item : ℕ) (after : Option ℕ) (looks : ℕ) : Type 0 where
  pub before : List ℕ
  pub behind : List ℕ
  pub whole : items ≡ before ++ behind
  pub last : last_of before ≡ after
  pub greater : (other : ℕ) → Stands other behind → is_less (unwrap_or (due_of dues other) 0) other due item ≡ false
  pub lesser : (other : ℕ) → after ≡ Some other → is_less (unwrap_or (due_of dues other) 0) other due item ≡ true
  pub cost : looks ≡ 1 + length behind
