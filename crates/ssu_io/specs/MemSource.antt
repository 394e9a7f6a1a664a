-- What a source in memory holds.
use Rattle.std.specs.Prelude.{ℕ, List}

pub record SourceState : Type 0 where
  -- the bytes that are left
  pub left : List ℕ
  -- how many bytes a call gives at most
  pub step : ℕ
  -- the numbers, from 1, of the calls that fail
  pub fails : List ℕ
  -- how many calls there were
  pub calls : ℕ
  pub faults : ℕ
