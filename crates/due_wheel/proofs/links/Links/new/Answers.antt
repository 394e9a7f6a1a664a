use Rattle.std.proofs.Common.{rules, ◌^◌, ◌<◌, List, subst, sym, arith}
use Rattle.due_wheel.specs.Rings.{AreRings}
use Rattle.due_wheel.proofs.LinkLaws.{new_rings, new_lists}
use Rattle.due_wheel.proofs.links.Links.new.Goals as goal

pub invariant_of-result : goal.invariant_of-result
invariant_of-result c =
    let few : c.args.items < 2 ^ 32 = omega arith in
    let few_slots : c.args.slots < 2 ^ 32 = omega arith in
    let P : List (List _) → Type 0 = λ lists. AreRings c.in_ok-next.next.items c.in_ok-previous.previous.items c.resize.new.self.items lists in
    subst P
    (sym (new_lists c.args.items c.args.slots _ _ _ few few_slots c.in_ok-next.ensures c.in_ok-previous.ensures (search rules)))
    (new_rings c.args.items c.args.slots _ _ _ few few_slots c.in_ok-next.ensures c.in_ok-previous.ensures (search rules))

pub returns-clause-lists : goal.returns-clause-lists
returns-clause-lists c =
    let few : c.args.items < 2 ^ 32 = omega arith in
    let few_slots : c.args.slots < 2 ^ 32 = omega arith in
    new_lists c.args.items c.args.slots _ _ _ few few_slots c.in_ok-next.ensures c.in_ok-previous.ensures (search rules)
