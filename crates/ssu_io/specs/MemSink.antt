-- What a sink in memory holds.
use Rattle.std.specs.Prelude.{ℕ, List, Bool}

pub record SinkState : Type 0 where
  -- the bytes that it got
  pub contents : List ℕ
  -- the numbers, from 1, of the calls that fail
  pub fails : List ℕ
  -- how many calls there were
  pub calls : ℕ
  pub faults : ℕ
  -- whether a call failed for want of memory
  pub short : Bool
