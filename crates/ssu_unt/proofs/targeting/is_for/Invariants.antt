use Rattle.std.proofs.Common.{◌≡◌}
use Rattle.std.specs.List.{list_any}
use Rattle.si_desc.specs.Descriptors.{whole_descriptors}
use Rattle.ssu_unt.specs.Targeting.{names}
use Rattle.ssu_unt.specs.Views.{me_view}
use Rattle.ssu_unt.proofs.targeting.is_for.Given as goal

abbrev pub invariant-loop-desc : goal.invariant-loop-desc
invariant-loop-desc l =
    list_any (names (me_view l.me)) (whole_descriptors l.desc-iterator) ≡ list_any (names (me_view l.me)) (whole_descriptors l.fn.target)
