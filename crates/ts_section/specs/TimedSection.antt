-- What a section of a carousel says to whoever sends it.
use Rattle.std.specs.Prelude.{ℕ, List}

pub record TimedSection : Type 0 where
  pub pid : ℕ
  -- after how many turns it is due again
  pub period : ℕ
  pub bytes : List ℕ
