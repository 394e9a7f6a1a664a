use Rattle.std.proofs.Common.{map}
use Rattle.route_tables.specs.Next.{heard_on}
use Rattle.route_tables.specs.Standing.{service_view}
use Rattle.std.proofs.lemmas.List.{length-map}
use Rattle.route_tables.proofs.Services.{after_same}
use Rattle.route_tables.proofs.linkage.hear.Goals as goal

pub returns-clause-same : goal.returns-clause-same
returns-clause-same c =
    let old = c.args.services.now.items in
    let new = c.take_up.new.services.items in
    let is = after_same c.args.configured.now c.args.oui (heard_on c.args.pid c.args.section.now) (map service_view old) (map service_view new) c.take_up.ensures in
    let lens = rw (length-map new service_view, length-map old service_view) at is in
    rw (c.len.ensures.value, c.len-before.ensures.value) lens
