use Rattle.std.proofs.Common.{◌≡◌, List, [], sym, subst, refl}
use Rattle.ts_section.specs.Events.{Heard, Event}
use Rattle.ts_section.specs.Hearing.{Hears}
use Rattle.ssu_route.specs.Queries.{listened}
use Rattle.ssu_route.specs.Route.{Stands}
use Rattle.tool_find.specs.Lines.{receiver_of}
use Rattle.ssu_route.proofs.Following.{heard_none, followed_none}
use Rattle.tool_find.proofs.walk.Walk.new.Goals as goal

pub returns : goal.returns
returns c =
    let me = receiver_of c.args.file.now in
    let stands = c.in_ok-route.ensures.stands me refl refl in
    let pids : c.listens-pids.result.items ≡ listened me [] = c.listens-pids.ensures me [] stands in
    let P : List Heard → Type 0 = λ items. Stands me items c.in_ok-route.route in
    let Q : List Event → Type 0 = λ events. Hears c.listen.new.self events in
    record {
      stands = record {
        hears = subst Q (sym (followed_none me)) (rw pids at (c.listen.ensures.stands [] c.in_ok-hearer.ensures));
        stands = subst P (sym (heard_none me)) stands;
        runs = refl;
      };
    }
