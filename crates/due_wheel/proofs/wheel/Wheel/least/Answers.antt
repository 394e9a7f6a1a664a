use Rattle.std.proofs.Common.{◌≡◌, ℕ, ◌+◌, ◌%◌, ◌<◌, ◌≤◌, Option, Some, ap, sym, subst, ◌∙◌, arith}
use Rattle.due_wheel.specs.Due.{DueMap, due_of}
use Rattle.due_wheel.specs.Fronts.{is_due_at}
use Rattle.due_wheel.proofs.Turning.{Searched, now_least, now_above, next_searched, next_bucket, end_least, end_none, end_above, end_cost}
use Rattle.due_wheel.proofs.wheel.Wheel.least.Goals as goal

-- no due number is below the floor
abbrev IsAbove : DueMap → Type 0
IsAbove w = (item due : ℕ) → due_of w.dues item ≡ Some due → w.floor ≤ due

pub returns-then-is_due-clause-least : goal.returns-then-is_due-clause-least
returns-then-is_due-clause-least g c =
    let above : IsAbove c.args.self.now = let P : DueMap → Type 0 = λ w. IsAbove w in subst P c.self.view_is c.self.invariant.above in
    let slots = ap (λ (w : DueMap). w.slots) c.self.view_is in
    let floor = ap (λ (w : DueMap). w.floor) c.self.view_is in
    let loop = c.loop-past.invariant in
    let fewer : c.loop-past.past < c.args.self.now.slots = omega (arith, c.loop-past-test.true) in
    now_least c.args.self.now above c.loop-past.past fewer c.loop-past.slot loop.bucket c.loop-past.best loop.searched c.front-front.result c.front-front.ensures.front
    (ap (λ (n : ℕ). is_due_at n c.loop-past.past c.front-front.result) (sym floor) ∙ sym c.is_due.ensures ∙ c.if-is_due.true)

pub returns-then-is_due-clause-above : goal.returns-then-is_due-clause-above
returns-then-is_due-clause-above g c =
    let above : IsAbove c.args.self.now = let P : DueMap → Type 0 = λ w. IsAbove w in subst P c.self.view_is c.self.invariant.above in
    let slots = ap (λ (w : DueMap). w.slots) c.self.view_is in
    let loop = c.loop-past.invariant in
    let fewer : c.loop-past.past < c.args.self.now.slots = omega (arith, c.loop-past-test.true) in
    now_above c.args.self.now above c.loop-past.past fewer c.loop-past.slot loop.bucket c.loop-past.best loop.searched c.front-front.result c.front-front.ensures.front

pub loop-past-preserved : goal.loop-past-preserved
loop-past-preserved g c =
    let above : IsAbove c.args.self.now = let P : DueMap → Type 0 = λ w. IsAbove w in subst P c.self.view_is c.self.invariant.above in
    let slots = ap (λ (w : DueMap). w.slots) c.self.view_is in
    let floor = ap (λ (w : DueMap). w.floor) c.self.view_is in
    let loop = c.loop-past.invariant in
    let fewer : c.loop-past.past < c.args.self.now.slots = omega (arith, c.loop-past-test.true) in
    record {
      bucket = next_bucket c.args.self.now.floor c.loop-past.past c.args.self.now.slots c.loop-past.slot c.next_slot-slot.result loop.bucket
          (c.next_slot-slot.ensures.is ∙ ap (λ (n : ℕ). (c.loop-past.slot + 1) % n) slots);
      below = omega (arith, c.next_slot-slot.ensures.below);
      steps = omega (arith, c.front-front.ensures.step, loop.steps);
      searched = rw c.lesser-best.ensures
          (next_searched c.args.self.now above c.loop-past.past fewer c.loop-past.slot loop.bucket c.loop-past.best loop.searched c.front-front.result
          c.front-front.ensures.front c.front-front.ensures.none
          (ap (λ (n : ℕ). is_due_at n c.loop-past.past c.front-front.result) (sym floor) ∙ sym c.is_due.ensures ∙ c.if-is_due.false));
    }

-- all buckets were looked at
searched_all : (w : DueMap) (past : ℕ) (best : Option (ℕ × ℕ)) → past ≡ w.slots → Searched w past best → Searched w w.slots best
searched_all w past best e s = let S : ℕ → Type 0 = λ n. Searched w n best in subst S e s

pub returns-clause-least : goal.returns-clause-least
returns-clause-least g c =
    let above : IsAbove c.args.self.now = let P : DueMap → Type 0 = λ w. IsAbove w in subst P c.self.view_is c.self.invariant.above in
    let slots = ap (λ (w : DueMap). w.slots) c.self.view_is in
    let some : 1 ≤ c.args.self.now.slots = omega (arith, c.self.invariant.some) in
    let end : c.loop-past.past ≡ c.args.self.now.slots = omega (arith, c.loop-past-test.false, c.loop-past.auto.past-end) in
    end_least c.args.self.now some above c.loop-past.best (searched_all c.args.self.now c.loop-past.past c.loop-past.best end c.loop-past.invariant.searched)

pub returns-clause-none : goal.returns-clause-none
returns-clause-none g c =
    let above : IsAbove c.args.self.now = let P : DueMap → Type 0 = λ w. IsAbove w in subst P c.self.view_is c.self.invariant.above in
    let slots = ap (λ (w : DueMap). w.slots) c.self.view_is in
    let some : 1 ≤ c.args.self.now.slots = omega (arith, c.self.invariant.some) in
    let end : c.loop-past.past ≡ c.args.self.now.slots = omega (arith, c.loop-past-test.false, c.loop-past.auto.past-end) in
    end_none c.args.self.now some above c.loop-past.best (searched_all c.args.self.now c.loop-past.past c.loop-past.best end c.loop-past.invariant.searched)

pub returns-clause-above : goal.returns-clause-above
returns-clause-above g c =
    let above : IsAbove c.args.self.now = let P : DueMap → Type 0 = λ w. IsAbove w in subst P c.self.view_is c.self.invariant.above in
    let slots = ap (λ (w : DueMap). w.slots) c.self.view_is in
    let some : 1 ≤ c.args.self.now.slots = omega (arith, c.self.invariant.some) in
    let end : c.loop-past.past ≡ c.args.self.now.slots = omega (arith, c.loop-past-test.false, c.loop-past.auto.past-end) in
    end_above c.args.self.now some above c.loop-past.best (searched_all c.args.self.now c.loop-past.past c.loop-past.best end c.loop-past.invariant.searched)

pub returns-clause-cost : goal.returns-clause-cost
returns-clause-cost g c =
    let above : IsAbove c.args.self.now = let P : DueMap → Type 0 = λ w. IsAbove w in subst P c.self.view_is c.self.invariant.above in
    let slots = ap (λ (w : DueMap). w.slots) c.self.view_is in
    let some : 1 ≤ c.args.self.now.slots = omega (arith, c.self.invariant.some) in
    let end : c.loop-past.past ≡ c.args.self.now.slots = omega (arith, c.loop-past-test.false, c.loop-past.auto.past-end) in
    let steps = c.loop-past.invariant.steps in
    end_cost c.args.self.now some above c.loop-past.best c.loop-past.steps c.args.steps.now
    (searched_all c.args.self.now c.loop-past.past c.loop-past.best end c.loop-past.invariant.searched) (omega arith)
