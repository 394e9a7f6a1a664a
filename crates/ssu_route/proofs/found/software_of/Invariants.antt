use Rattle.std.proofs.Common.{◌≡◌, drop}
use Rattle.ssu_route.specs.Kept.{offers_of}
use Rattle.ssu_route.specs.Windows.{offered_by}
use Rattle.ssu_route.proofs.found.software_of.Given as goal

abbrev pub invariant-loop-found : goal.invariant-loop-found
invariant-loop-found l = offered_by l.group (offers_of (drop l.found-index l.groups)) ≡ offered_by l.group (offers_of l.groups)
