-- Parts of a history. A history is a list with the newest item first, and a value is a function of the
-- history, so that `value (item ∷ earlier)` is the value directly after `item`.
use Rattle.std.specs.Prelude.{Bool, List, [], ◌∷◌, if◌then◌else◌}

-- the items that came after the last one at which the value changed, and all of them if it never did
unfoldable pub since : {X V : Type 0} → (V → V → Bool) → (List X → V) → List X → List X
since same value [] = []
since same value (item ∷ earlier) =
    if same (value (item ∷ earlier)) (value earlier) then item ∷ since same value earlier else []

-- the items directly after which, and ever since, the value was what it is now
unfoldable pub steady : {X V : Type 0} → (V → V → Bool) → (List X → V) → List X → List X
steady same value [] = []
steady same value (item ∷ earlier) =
    item ∷ (if same (value (item ∷ earlier)) (value earlier) then steady same value earlier else [])
