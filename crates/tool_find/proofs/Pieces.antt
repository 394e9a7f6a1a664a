-- The lines of sections, one by one.
use Rattle.std.proofs.Common.{zero, suc, ◌≡◌, ℕ, List, [], ◌∷◌, map, Some, ap}
use Rattle.std.specs.List.{slice_get}

pub line_of : (line : List ℕ → List ℕ) (sections : List (List ℕ)) (k : ℕ) (section : List ℕ) → slice_get sections k ≡ Some section → slice_get (map line sections) k ≡ Some (line section)
line_of line [] k section at = cc
line_of line (s ∷ later) zero section at = let same : s ≡ section = cc in ap (λ x. Some (line x)) same
line_of line (s ∷ later) (suc k) section at = line_of line later k section at
