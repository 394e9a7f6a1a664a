use Rattle.std.proofs.Common.{◌≡◌, drop}
use Rattle.ssu_route.specs.Kept.{offers_of}
use Rattle.ssu_route.specs.Offers.{same_offers}
use Rattle.ssu_route.proofs.found.are_same.Given as goal

abbrev pub invariant-loop-i : goal.invariant-loop-i
invariant-loop-i l = same_offers (offers_of (drop l.i l.one)) (offers_of (drop l.i l.other)) ≡ same_offers (offers_of l.one) (offers_of l.other)
