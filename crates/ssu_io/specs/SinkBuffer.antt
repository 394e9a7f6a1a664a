-- Pieces that wait to be put into a sink together.
use Rattle.std.specs.Prelude.{◌≡◌, ℕ, List, ◌++◌, Option}
use Rattle.ssu_io.specs.Bytes.{Gains}

-- The sink got the front of what waited and of the piece behind it, and the others wait now.
pub record MovesOn (before after : Option (List ℕ)) (waited piece waiting : List ℕ) : Type 0 where
  pub moved : List ℕ
  pub gains : Gains before after moved
  pub none_lost : waited ++ piece ≡ moved ++ waiting
