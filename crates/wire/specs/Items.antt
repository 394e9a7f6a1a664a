-- Items one after the other, as an iterator gives them.
use Rattle.std.specs.Prelude.{ℕ, zero, suc, List, [], ◌∷◌, length, Option, Some, None}
use Rattle.wire.specs.Format.{Front}

-- an item that was read, and what is made of the bytes behind it
abbrev pub and_others : {A : Type 0} → Option (A × List ℕ) → (List ℕ → List A) → List A
and_others None others = []
and_others (Some x) others = x.0 ∷ others x.1

-- the items that stand whole at the front of bs, at most `most` of them
abbrev pub leading : {A : Type 0} → (List ℕ → Option (A × List ℕ)) → ℕ → List ℕ → List A
leading at zero bs = []
leading at (suc most) bs = and_others (at bs) (λ others. leading at most others)

-- The items that stand whole at the front of bs: all of them, where bs is a spelling of items.
unfoldable pub items_of : {A : Type 0} → Front A → List ℕ → List A
items_of f bs = leading f.at (length bs) bs
