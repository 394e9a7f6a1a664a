-- What the items of a part of a history say. `says item` is what one item says, or None where it says
-- nothing. Parts have the newest item first.
use Rattle.std.specs.Prelude.{Bool, List, [], ◌∷◌, Option, None, ◌≡◌, Some, IsTrue, IsSome, unwrap_or}
use Rattle.std.specs.Option.{option_or, option_map, option_and_then}
use Rattle.route_part.specs.Part.{steady}

-- what the last item that says something says
unfoldable pub last_said : {X A : Type 0} → (X → Option A) → List X → Option A
last_said says [] = None
last_said says (item ∷ earlier) = option_or (says item) (last_said says earlier)

-- what the first item that says something says
unfoldable pub first_said : {X A : Type 0} → (X → Option A) → List X → Option A
first_said says [] = None
first_said says (item ∷ earlier) = option_or (first_said says earlier) (says item)

-- what is said, if anything, with the key that it stands under
abbrev pub under : {K A : Type 0} → K → Option A → Option (K × A)
under key said = option_map (λ a. (key, a)) said

-- The first item that fixes a key fixes it. With the key stands what the last item that speaks under it says.
unfoldable pub fixed_said : {X K A : Type 0} → (X → Option K) → (K → X → Option A) → List X → Option (K × A)
fixed_said fixes says part =
    option_and_then (λ key. under key (last_said (says key) part)) (first_said fixes part)

-- What the last item says under the key of now, of the items directly after which, and ever since, the
-- key was that one.
unfoldable pub held_said : {X K A : Type 0} → (K → K → Bool) → (List X → K) → (K → X → Option A) → List X → Option A
held_said same key says history = last_said (says (key history)) (steady same key history)

-- ---- what the laws of this crate speak of

-- a test under which only equal values pass
abbrev pub IsSound : {V : Type 0} → (V → V → Bool) → Type 0
IsSound {V} same = (x y : V) → IsTrue (same x y) → x ≡ y

-- an item that fixes a key also says something under it
abbrev pub Fits : {X K A : Type 0} → (X → Option K) → (K → X → Option A) → Type 0
Fits {X} {K} fixes says = (item : X) (key : K) → fixes item ≡ Some key → IsSome (says key item)

-- One item more for a key with what stands under it: a key that is fixed stays, and what the item says
-- under it takes the place of what stood; without one the item may fix it.
abbrev pub next_fixed : {X K A : Type 0} → (X → Option K) → (K → X → Option A) → X → Option (K × A) → Option (K × A)
next_fixed fixes says item None = option_and_then (λ key. under key (says key item)) (fixes item)
next_fixed fixes says item (Some fixed) = Some (fixed.0, unwrap_or (says fixed.0 item) fixed.1)

-- A value that is computed from the value of the level below and from the part since that one changed:
-- where the level below stayed, one item takes it to its next value, and else it starts afresh.
abbrev pub StepsBy : {X B V : Type 0} → (B → List X → V) → (B → X → V → V) → Type 0
StepsBy {X} {B} by next = (below : B) (item : X) (part : List X) → by below (item ∷ part) ≡ next below item (by below part)
