-- What becomes of the packets of an input under a script.
use Rattle.std.specs.Prelude.{ℕ, zero, suc, ◌+◌, ◌%◌, Bool, false, ◌&&◌, ◌||◌, ◌==◌, nat_lt, if◌then◌else◌}
use Rattle.std.specs.Prelude.{List, [], ◌∷◌, replicate, slice_index_or, slice_set, Option, Some, None}
use Rattle.std.specs.List.{concat, enumerate_from, flat_map, fold, list_any}
use Rattle.air_channel.specs.Scripts.{ScriptData}
use Rattle.air_channel.specs.declared.change.Change.{Change}
use Rattle.air_channel.specs.declared.loss.RegularLoss.{RegularLoss}

-- The packets with one byte changed, if there is a packet of that number.
abbrev pub with_change : List (List ℕ) → Change → List (List ℕ)
with_change packets change =
    slice_set packets change.packet (slice_set (slice_index_or packets change.packet []) change.offset change.byte)

-- The packets with packet n and packet n + 1 exchanged, if both exist.
abbrev pub exchanged : List (List ℕ) → ℕ → List (List ℕ)
exchanged [] n = []
exchanged (first ∷ []) zero = first ∷ []
exchanged (first ∷ second ∷ rest) zero = second ∷ first ∷ rest
exchanged (first ∷ rest) (suc n) = first ∷ exchanged rest n

-- The number is in the list.
abbrev pub is_in : List ℕ → ℕ → Bool
is_in numbers n = list_any (λ m. m == n) numbers

-- The place is left out by the regular loss.
abbrev pub is_lost : Option RegularLoss → ℕ → Bool
is_lost None n = false
is_lost (Some loss) n = nat_lt n loss.until && ((n + 1) % loss.every == 0)

-- How many times a place is written.
abbrev pub copies : ScriptData → ℕ → ℕ
copies script n =
    if is_in script.drops n || is_lost script.loss n then 0 else if is_in script.repeats n then 2 else 1

-- The packets of some places, the first of which has this number, each written as often as its place is.
abbrev pub written : ScriptData → ℕ → List (List ℕ) → List (List ℕ)
written script first packets = flat_map (λ place. replicate (copies script place.0) place.1) (enumerate_from first packets)

-- The packets at their places: first each change is made, then each exchange.
abbrev pub placed : ScriptData → List (List ℕ) → List (List ℕ)
placed script packets = fold exchanged (fold with_change packets script.changes) script.swaps

-- The packets as they are sent on: at their places, each left out, or written once or twice.
unfoldable pub aired : ScriptData → List (List ℕ) → List (List ℕ)
aired script packets = written script 0 (placed script packets)

-- the bytes of these packets
abbrev pub aired_bytes : ScriptData → List (List ℕ) → List ℕ
aired_bytes script packets = concat (aired script packets)
