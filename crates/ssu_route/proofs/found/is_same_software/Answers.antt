use Rattle.std.proofs.Common.{◌≡◌, eqb, true, false, refl, eq-eqb}
use Rattle.std.proofs.lemmas.Bool.{ne_eqb}
use Rattle.route_tables.specs.Values.{same_option}
use Rattle.ssu_route.proofs.found.is_same_software.Goals as goal

pub returns-in-None-other : goal.returns-in-None-other
unfolding same_option
returns-in-None-other c = rw (c.in-None.is, c.in-None-other.is) refl

pub returns-in-Some-other : goal.returns-in-Some-other
unfolding same_option
returns-in-Some-other c = rw (c.in-None.is, c.in-Some-other.is) refl

pub returns-in-None-other-2 : goal.returns-in-None-other-2
unfolding same_option
returns-in-None-other-2 c = rw (c.in-Some.is, c.in-None-other-2.is) refl

pub returns-then-one-other : goal.returns-then-one-other
unfolding same_option
returns-then-one-other c =
    let is : eqb c.in-Some.one.model c.in-Some-other-2.other.model ≡ true = eq-eqb _ _ c.if-one-other.true in
    rw (c.in-Some.is, c.in-Some-other-2.is, is) refl

pub returns-else-one-other : goal.returns-else-one-other
unfolding same_option
returns-else-one-other c =
    let is : eqb c.in-Some.one.model c.in-Some-other-2.other.model ≡ false = ne_eqb _ _ c.if-one-other.false in
    rw (c.in-Some.is, c.in-Some-other-2.is, is) refl
