use Rattle.std.proofs.Common.{◌≡◌, false, refl}
use Rattle.ssu_unt.specs.Views.{entry_view}
use Rattle.route_tables.specs.Levels.{entry_open}
use Rattle.route_tables.proofs.Opening.{open_is}
use Rattle.route_tables.proofs.carousel.carousel_of.Goals as goal

pub returns-then-not-is_open : goal.returns-then-not-is_open
returns-then-not-is_open c =
    let is = open_is c.args.manual c.args.time (entry_view c.args.entry.now) c.is_open.result c.is_open.ensures.open in
    let closed : entry_open c.args.manual c.args.time (entry_view c.args.entry.now) ≡ false = cc in
    rw closed refl
