use Rattle.std.proofs.Common.{refl}
use Rattle.route_tables.specs.Values.{same_option}
use Rattle.ssu_route.proofs.kept.is_same_subgroup.Goals as goal

pub returns-in-None-other : goal.returns-in-None-other
unfolding same_option
returns-in-None-other c = rw (c.in-None.is, c.in-None-other.is) refl

pub returns-in-Some-other : goal.returns-in-Some-other
unfolding same_option
returns-in-Some-other c = rw (c.in-None.is, c.in-Some-other.is) refl

pub returns-in-None-other-2 : goal.returns-in-None-other-2
unfolding same_option
returns-in-None-other-2 c = rw (c.in-Some.is, c.in-None-other-2.is) refl

pub returns-in-Some-other-2 : goal.returns-in-Some-other-2
unfolding same_option
returns-in-Some-other-2 c = rw (c.in-Some.is, c.in-Some-other-2.is) refl
