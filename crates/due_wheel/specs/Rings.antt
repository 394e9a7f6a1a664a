-- Rings of nodes: the items are nodes, and each slot has a node of its own, which stands behind its last item and before
-- its first.
use Rattle.std.specs.Prelude.{◌≡◌, ℕ, zero, suc, ◌+◌, ◌-◌, ◌^◌, ◌<◌, ◌≤◌, ◌==◌, nat_lt, cond, if◌then◌else◌}
use Rattle.std.specs.Prelude.{List, [], ◌∷◌, ◌++◌, map, length, slice_index, Option, None, Some, sum_by}
use Rattle.std.specs.List.{range_with_len}
use Rattle.due_wheel.specs.Due.{due_of}
use Rattle.due_wheel.specs.Lists.{items_of}

-- The items behind a node, up to the next node that is no item; at most so many of them.
abbrev pub walk : List ℕ → ℕ → ℕ → ℕ → List ℕ
walk next items zero node = []
walk next items (suc most) node =
    if nat_lt (slice_index next node) items then slice_index next node ∷ walk next items most (slice_index next node) else []

-- The item that a node is, if it is one.
abbrev pub item_of : ℕ → ℕ → Option ℕ
item_of items node = if nat_lt node items then Some node else None

-- The items of each slot.
abbrev pub lists_of : List ℕ → ℕ → List (List ℕ)
lists_of next items = map (λ slot. walk next items items (items + slot)) (range_with_len 0 (length next - items))

-- Each of these nodes is linked with the one behind it, both ways. The first of them is this node.
abbrev pub IsPath : List ℕ → List ℕ → ℕ → List ℕ → Type 0
IsPath next previous node [] = Unit {0}
IsPath next previous node (behind ∷ nodes) =
    (slice_index next node ≡ behind) × (slice_index previous behind ≡ node) × IsPath next previous behind nodes

-- How often an item stands in a list.
abbrev pub times : ℕ → List ℕ → ℕ
times item [] = 0
times item (other ∷ items) = cond (other == item) 1 0 + times item items

-- It stands in it.
abbrev pub Stands : ℕ → List ℕ → Type 0
Stands item items = 1 ≤ times item items

abbrev pub once_if : Option ℕ → ℕ
once_if None = 0
once_if (Some due) = 1

-- The nodes stand for these lists and due numbers.
pub record AreRings (next previous : List ℕ) (dues : List (Option ℕ)) (lists : List (List ℕ)) : Type 0 where
  pub next_len : length next ≡ length dues + length lists
  pub previous_len : length previous ≡ length dues + length lists
  pub few_items : length dues < 2 ^ 32
  pub few_slots : length lists < 2 ^ 32
  -- the ring of each slot
  pub ring : (slot : ℕ) → slot < length lists
      → IsPath next previous (length dues + slot) (items_of lists slot ++ (length dues + slot) ∷ [])
  -- a linked item stands in one place, and another one in none
  pub once : (item : ℕ) → sum_by (times item) lists ≡ once_if (due_of dues item)
