use Rattle.std.proofs.Common.{◌≡◌}
use Rattle.std.specs.List.{list_any}
use Rattle.si_desc.specs.Descriptors.{whole_descriptors}
use Rattle.ssu_route.specs.Offers.{is_subgroup}
use Rattle.ssu_route.proofs.accept.is_of_subgroup.Given as goal

abbrev pub invariant-loop-desc : goal.invariant-loop-desc
invariant-loop-desc l =
    list_any (is_subgroup l.subgroup) (whole_descriptors l.desc-iterator) ≡ list_any (is_subgroup l.subgroup) (whole_descriptors l.fn.group.info.now)
