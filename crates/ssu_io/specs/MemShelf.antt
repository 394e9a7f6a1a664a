-- What a shelf in memory holds.
use Rattle.std.specs.Prelude.{ℕ, List}
use Rattle.ssu_io.specs.Files.{File}

pub record ShelfState : Type 0 where
  -- the files, in the order in which they were added
  pub files : List File
  -- the numbers, from 1, of the calls that fail
  pub fails : List ℕ
  -- how many calls there were
  pub calls : ℕ
  pub faults : ℕ
  pub absences : ℕ
