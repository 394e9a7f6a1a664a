use Rattle.std.proofs.Common.{◌≡◌, ℕ, ◌+◌, ◌<◌, ◌≤◌, length, None, refl, sym, subst, arith}
use Rattle.due_wheel.specs.Due.{DueMap, Puts, due_of, count_behind}
use Rattle.due_wheel.proofs.BucketLaws.{floor_first, floor_lower, put_all, put_all_cost, count_fits}
use Rattle.due_wheel.proofs.FrontLaws.{seen, place_contains}
use Rattle.due_wheel.proofs.wheel.Wheel.put_counted.Goals as goal

abbrev MayPut : ℕ → DueMap → Type 0
MayPut item w = (item < length w.dues) × (due_of w.dues item ≡ None)

pub link-requires-clause-after : goal.link-requires-clause-after
link-requires-clause-after g c = place_contains _ _ _ _ _ _ c.place_of-after.ensures.place

pub overflow_add-self : goal.overflow_add-self
overflow_add-self g c =
    let M : DueMap → Type 0 = λ w. MayPut c.args.item w in
    let may = subst M (sym c.self.view_is) (c.requires.item, c.requires.not_in) in
    record { fits = count_fits c.self.inside.links.dues c.args.item c.self.inside.count may.0 may.1 c.self.invariant.counted c.self.invariant.few }

pub invariant_of-self : goal.invariant_of-self
invariant_of-self g c =
    let M : DueMap → Type 0 = λ w. MayPut c.args.item w in
    let may = subst M (sym c.self.view_is) (c.requires.item, c.requires.not_in) in
    let there : c.slot_of-slot.result < length c.self.inside.links.lists = omega (arith, c.slot_of-slot.ensures.below, c.self.invariant.slots_are) in
    put_all c.self.inside.links c.self.inside.slots c.self.inside.count c.self.inside.floor c.self.invariant c.args.item c.args.due c.place_of-after.result _
    may.0 may.1 c.slot_of-slot.result c.slot_of-slot.ensures.is c.place_of-after.ensures.place there _ _ c.link.ensures.dues c.link.ensures.lists c.lowered-self-inside.ensures

pub returns-clause-puts : goal.returns-clause-puts
returns-clause-puts g c =
    let counted = c.self.invariant.counted in
    let lowered = c.lowered-self-inside in
    let P : DueMap → Type 0 = λ w. Puts w (seen c.link.new.self c.self.inside.slots lowered.result) c.args.item c.args.due in
    subst P c.self.view_is (record {
      dues = c.link.ensures.dues;
      slots = refl;
      first = floor_first c.self.inside.links.dues c.self.inside.count c.self.inside.floor c.args.due lowered.result counted lowered.ensures;
      lower = floor_lower c.self.inside.links.dues c.self.inside.count c.self.inside.floor c.args.due lowered.result counted lowered.ensures;
    })

pub returns-clause-cost : goal.returns-clause-cost
returns-clause-cost g c =
    let M : DueMap → Type 0 = λ w. MayPut c.args.item w in
    let may = subst M (sym c.self.view_is) (c.requires.item, c.requires.not_in) in
    let C : DueMap → Type 0 = λ w. c.place_of-after.new.steps ≤ c.args.steps.now + 1 + count_behind w.dues w.slots c.args.due c.args.item in
    let cost = put_all_cost c.self.inside.links c.self.inside.slots c.self.inside.count c.self.inside.floor c.self.invariant c.args.item c.args.due c.place_of-after.result _
    may.0 may.1 c.slot_of-slot.result c.slot_of-slot.ensures.is c.place_of-after.ensures.place in
    let more = c.place_of-after.ensures.more in
    subst C c.self.view_is (omega arith)
