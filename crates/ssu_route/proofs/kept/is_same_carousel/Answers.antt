use Rattle.std.proofs.Common.{◌≡◌, true, false, eqb, refl, sym, ◌∙◌}
use Rattle.route_tables.specs.Values.{same_option}
use Rattle.ssu_route.proofs.kept.is_same_carousel.Goals as goal

pub returns-in-None-other : goal.returns-in-None-other
unfolding same_option
returns-in-None-other c = rw (c.in-None.is, c.in-None-other.is) refl

pub returns-in-Some-other : goal.returns-in-Some-other
unfolding same_option
returns-in-Some-other c = rw (c.in-None.is, c.in-Some-other.is) refl

pub returns-in-None-other-2 : goal.returns-in-None-other-2
unfolding same_option
returns-in-None-other-2 c = rw (c.in-Some.is, c.in-None-other-2.is) refl

pub returns-then-eq : goal.returns-then-eq
unfolding same_option
returns-then-eq c =
    let same : eqb c.in-Some.one.pid c.in-Some-other-2.other.pid ≡ true = sym c.eq.ensures ∙ c.if-eq.true in
    rw (c.in-Some.is, c.in-Some-other-2.is, same) c.is_same_subgroup.ensures

pub returns-else-eq : goal.returns-else-eq
unfolding same_option
returns-else-eq c =
    let differs : eqb c.in-Some.one.pid c.in-Some-other-2.other.pid ≡ false = sym c.eq.ensures ∙ c.if-eq.false in
    rw (c.in-Some.is, c.in-Some-other-2.is, differs) c.if-eq.false
