use Rattle.std.proofs.Common.{◌≡◌, Some, None, refl, sym, ◌∙◌}
use Rattle.route_tables.specs.Values.{same_option}
use Rattle.ssu_route.specs.Kept.{first_usable}
use Rattle.ssu_route.proofs.found.is_wanted.Goals as goal

pub returns-in-Some : goal.returns-in-Some
unfolding same_option
returns-in-Some c =
    let is : first_usable c.args.groups.now ≡ Some c.in-Some.first = sym c.wanted.ensures ∙ c.in-Some.is in
    rw is refl

pub returns-in-None : goal.returns-in-None
unfolding same_option
returns-in-None c =
    let is : first_usable c.args.groups.now ≡ None = sym c.wanted.ensures ∙ c.in-None.is in
    rw is refl
