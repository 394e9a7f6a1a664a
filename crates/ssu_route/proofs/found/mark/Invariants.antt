use Rattle.std.proofs.Common.{◌≡◌, ◌++◌, take, drop}
use Rattle.std.specs.Prelude.{map}
use Rattle.ssu_route.specs.Kept.{mark_if}
use Rattle.ssu_route.proofs.found.mark.Given as goal

abbrev pub invariant-loop-found : goal.invariant-loop-found
invariant-loop-found l =
    l.found-items ≡ map (mark_if l.group l.usable) (take l.found-index l.initial.found-items) ++ drop l.found-index l.initial.found-items
