use Rattle.std.proofs.Common.{◌≡◌}
use Rattle.std.specs.List.{filter}
use Rattle.ssu_unt.specs.Targeting.{counting, first_of, has_five, with_tag}
use Rattle.ssu_unt.proofs.targeting.subgroup_in.Given as goal

abbrev pub invariant-loop-desc : goal.invariant-loop-desc
invariant-loop-desc l =
    first_of (filter has_five (with_tag 11 l.desc-iterator)) ≡ first_of (filter has_five (counting 11 l.fn.common l.fn.operational))
