use Rattle.std.proofs.Common.{◌≡◌, List, ◌∷◌, sym, subst}
use Rattle.ts_section.specs.Events.{Heard, Event, Feed}
use Rattle.ts_section.specs.Hearing.{Hears}
use Rattle.ssu_route.specs.Queries.{followed, heard_by, listened}
use Rattle.ssu_route.specs.Route.{Stands}
use Rattle.ssu_route.proofs.Following.{heard_more, followed_more}
use Rattle.tool_find.proofs.walk.Walk.take.Goals as goal

pub returns-clause-stands : goal.returns-clause-stands
returns-clause-stands c = λ me ps walks.
    let packet = c.args.packet.now in
    let each = c.feed.ensures.heard (followed me ps) walks.hears in
    let more = heard_more me packet ps c.feed.new.each each in
    let P : List Heard → Type 0 = λ items. Stands me items c.hear_each.new.route in
    let stands = subst P (sym more) (rw c.pid_of.ensures at (c.hear_each.ensures me (heard_by me ps) walks.runs walks.stands)) in
    let pids : c.listens-pids.result.items ≡ listened me (heard_by me (packet ∷ ps)) = c.listens-pids.ensures me (heard_by me (packet ∷ ps)) stands in
    let hears = c.listen.ensures.stands (Feed packet ∷ followed me ps) (c.feed.ensures.stands (followed me ps) walks.hears) in
    let Q : List Event → Type 0 = λ events. Hears c.listen.new.self events in
    record {
      hears = subst Q (sym (followed_more me packet ps c.feed.new.each each)) (rw pids at hears);
      stands = stands;
      runs = walks.runs;
    }
