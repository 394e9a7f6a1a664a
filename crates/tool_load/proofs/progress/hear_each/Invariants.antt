use Rattle.std.proofs.Common.{ℕ, List, ◌++◌, reverse, take}
use Rattle.tool_load.specs.Progress.{StandsFor}
use Rattle.tool_load.proofs.progress.hear_each.Given as goal

abbrev pub invariant-loop-k : goal.invariant-loop-k
invariant-loop-k l = (sections : List (List ℕ)) → StandsFor l.initial.progress sections → StandsFor l.progress (reverse (take l.k l.each) ++ sections)
