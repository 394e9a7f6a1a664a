use Rattle.std.proofs.Common.{◌≡◌, List, take}
use Rattle.ts_section.specs.Events.{Heard}
use Rattle.route_tables.specs.Values.{Receiver}
use Rattle.ssu_route.specs.Route.{Stands}
use Rattle.ssu_route.specs.Queries.{after_all}
use Rattle.tool_find.proofs.walk.hear_each.Given as goal

abbrev pub invariant-loop-k : goal.invariant-loop-k
invariant-loop-k l = record {
  stands : (me : Receiver) (heard : List Heard) → me.running ≡ l.fn.running → Stands me heard l.initial.route
      → Stands me (after_all l.fn.pid (take l.k l.each) heard) l.route;
}
