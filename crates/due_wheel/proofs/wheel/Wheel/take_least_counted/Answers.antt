use Rattle.std.proofs.Common.{◌≡◌, ℕ, ◌≤◌, Some, sym, subst, ◌∙◌}
use Rattle.due_wheel.specs.Due.{DueMap, due_of, IsEmpty}
use Rattle.due_wheel.proofs.BucketLaws.{count_none, out_buckets}
use Rattle.due_wheel.proofs.wheel.Wheel.take_least_counted.Goals as goal

pub returns-in_err-item-clause-no_cost : goal.returns-in_err-item-clause-no_cost
returns-in_err-item-clause-no_cost g c =
    let E : DueMap → Type 0 = λ w. IsEmpty w.dues in
    let none = count_none c.self.inside.links.dues (subst E (sym c.self.view_is) c.in_err-item.ensures.none) in
    absurd (c.if-self-eq0.false (c.self.invariant.counted ∙ none))

pub invariant_of-self : goal.invariant_of-self
invariant_of-self g c =
    let least = c.in_ok-item.ensures.least in
    let I : DueMap → Type 0 = λ w. due_of w.dues c.in_ok-item.item ≡ Some c.in_ok-item.due in
    let A : DueMap → Type 0 = λ w. (other lies : ℕ) → due_of w.dues other ≡ Some lies → c.in_ok-item.due ≤ lies in
    out_buckets _ _ _ _ c.self.invariant c.in_ok-item.item c.in_ok-item.due (subst I (sym c.self.view_is) least.is_in) _ _ c.unlink.ensures.dues c.unlink.ensures.lists
    (λ other lies apart e. (subst A (sym c.self.view_is) least.least) other lies e)
