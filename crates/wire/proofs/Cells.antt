-- A list of a known length is the list of its elements.
use Rattle.std.proofs.Common.{◌≡◌, ℕ, List, [], ◌∷◌, length, get_or, refl, arith}

pub cells1 : (p : List ℕ) → length p ≡ 1 → p ≡ get_or p 0 0 ∷ []
cells1 (a ∷ []) h = refl
cells1 p h = absurd (omega arith)

pub cells2 : (p : List ℕ) → length p ≡ 2 → p ≡ get_or p 0 0 ∷ get_or p 1 0 ∷ []
cells2 (a ∷ b ∷ []) h = refl
cells2 p h = absurd (omega arith)

pub cells3 : (p : List ℕ) → length p ≡ 3 → p ≡ get_or p 0 0 ∷ get_or p 1 0 ∷ get_or p 2 0 ∷ []
cells3 (a ∷ b ∷ c ∷ []) h = refl
cells3 p h = absurd (omega arith)

pub cells4 : (p : List ℕ) → length p ≡ 4 → p ≡ get_or p 0 0 ∷ get_or p 1 0 ∷ get_or p 2 0 ∷ get_or p 3 0 ∷ []
cells4 (a ∷ b ∷ c ∷ d ∷ []) h = refl
cells4 p h = absurd (omega arith)

pub cells5 : (p : List ℕ) → length p ≡ 5 → p ≡ get_or p 0 0 ∷ get_or p 1 0 ∷ get_or p 2 0 ∷ get_or p 3 0 ∷ get_or p 4 0 ∷ []
cells5 (a ∷ b ∷ c ∷ d ∷ e ∷ []) h = refl
cells5 p h = absurd (omega arith)

pub cells6 : (p : List ℕ) → length p ≡ 6 → p ≡ get_or p 0 0 ∷ get_or p 1 0 ∷ get_or p 2 0 ∷ get_or p 3 0 ∷ get_or p 4 0 ∷ get_or p 5 0 ∷ []
cells6 (a ∷ b ∷ c ∷ d ∷ e ∷ f ∷ []) h = refl
cells6 p h = absurd (omega arith)
