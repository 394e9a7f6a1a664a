-- Formats whose bytes stand in a part of what another format reads.
use Rattle.std.specs.Prelude.{◌≡◌, List, ℕ, Some}
use Rattle.wire.specs.Format.{Whole, ◌>>=◌}

-- what w reads, with what v reads of a part of it
abbrev pub inside : {A B : Type 0} → Whole A → (A → List ℕ) → Whole B → Whole (A × B)
inside w part v = record {
  of = λ bs. w.of bs >>= λ a. v.of (part a) >>= λ b. Some (a, b);
  Spells = λ x p. w.Spells x.0 p × v.Spells x.1 (part x.0);
}

-- what w reads, with the bytes themselves
abbrev pub noted : {A : Type 0} → Whole A → Whole (A × List ℕ)
noted w = record {
  of = λ bs. w.of bs >>= λ x. Some (x, bs);
  Spells = λ x p. w.Spells x.0 p × (x.1 ≡ p);
}
