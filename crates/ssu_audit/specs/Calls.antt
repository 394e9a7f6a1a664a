-- The calls of `hear` that were answered with no fact against the stream. A list of calls has the newest first.
use Rattle.std.specs.Prelude.{ℕ, ◌-◌, ◌^◌, min, Bool, List, [], ◌∷◌, length, Option, None, if◌then◌else◌}
use Rattle.route_part.specs.Said.{first_said, under}

-- a section, and whether it was heard as one of a notice or as one of the carousel
pub record Call : Type 0 where
  pub notice : Bool
  pub section : List ℕ

-- The number of the section that comes after these, from 0. A number has 64 bits, and the last one stands still.
abbrev pub number_after : List Call → ℕ
number_after earlier = min (length earlier) (2 ^ 64 - 1)

pub record Numbered : Type 0 where
  pub number : ℕ
  pub call : Call

-- the calls with the numbers of their sections
unfoldable pub numbered : List Call → List Numbered
numbered [] = []
numbered (call ∷ earlier) = record { number = number_after earlier; call = call } ∷ numbered earlier

-- the sections of the carousel, the newest first
unfoldable pub carousel : List Call → List (List ℕ)
carousel [] = []
carousel (call ∷ earlier) = if call.notice then carousel earlier else call.section ∷ carousel earlier

-- ---- what the calls say. `says` is what a section says.

-- what a section of the carousel says, under its number
abbrev pub says_in_carousel : {A : Type 0} → (List ℕ → Option A) → Numbered → Option (ℕ × A)
says_in_carousel says item = if item.call.notice then None else under item.number (says item.call.section)

-- what a section of a notice says, under its number
abbrev pub says_in_notice : {A : Type 0} → (List ℕ → Option A) → Numbered → Option (ℕ × A)
says_in_notice says item = if item.call.notice then under item.number (says item.call.section) else None

-- the number of the first section of the carousel that says something, and what it says
unfoldable pub first_in_carousel : {A : Type 0} → (List ℕ → Option A) → List Call → Option (ℕ × A)
first_in_carousel says calls = first_said (says_in_carousel says) (numbered calls)

-- the same of a notice
unfoldable pub first_in_notice : {A : Type 0} → (List ℕ → Option A) → List Call → Option (ℕ × A)
first_in_notice says calls = first_said (says_in_notice says) (numbered calls)
