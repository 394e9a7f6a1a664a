use Rattle.std.proofs.Common.{◌≡◌, ◌∙◌, ap}
use Rattle.std.specs.Prelude.{map}
use Rattle.tool_build.specs.declared.building.Broadcast.{Broadcast}
use Rattle.tool_build.proofs.StatusLaws.{making_unrefused, write_fault_map}
use Rattle.tool_build.proofs.building.put_broadcast.Goals as goal

pub returns-in-Err-clause-complete : goal.returns-in-Err-clause-complete
returns-in-Err-clause-complete g c = λ held broadcast _ _ none.
    let b = c.args.broadcast.now in
    let images = ap (λ (x : Broadcast). x.images) c.broadcast.view_is in
    let cause = rw (c.deref.ensures.value, images) at c.in-Err.ensures.cause in
    making_unrefused c.in-Err.status _ c.in-Err.ensures.refusals cause
    (λ fault q. none fault (record { plan = b.plan; images = map (λ i. i.items) b.images.items; broadcast = broadcast; cause = q.0; limit = q.1 }))

pub returns-clause-write_fault : goal.returns-clause-write_fault
returns-clause-write_fault g c = λ held broadcast.
    let b = c.args.broadcast.now in
    let images = ap (λ (x : Broadcast). x.images) c.broadcast.view_is in
    let turns = ap (λ (x : Broadcast). x.plan.turns) c.broadcast.view_is in
    let own = rw (c.deref.ensures.value, images) at c.in-Ok.ensures.made in
    let list = c.deref-2.ensures.value ∙ own in
    let part = rw (list, turns) at c.in-Err-send.ensures.part in
    let buildable = rw (c.deref.ensures.value, images) at c.in-Ok.ensures.buildable in
    write_fault_map c.in-Err-send.status (λ puts. record { plan = b.plan; images = map (λ i. i.items) b.images.items; broadcast = broadcast; buildable = buildable; fact = puts }) part
