use Rattle.std.proofs.Common.{◌≡◌, drop}
use Rattle.ssu_route.specs.Kept.{first_usable}
use Rattle.ssu_route.proofs.found.wanted.Given as goal

abbrev pub invariant-loop-found : goal.invariant-loop-found
invariant-loop-found l = first_usable (drop l.found-index l.groups) ≡ first_usable l.groups
