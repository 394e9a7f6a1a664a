use Rattle.std.proofs.Common.{sym, subst}
use Rattle.due_wheel.specs.Due.{DueMap}
use Rattle.due_wheel.specs.Fronts.{IsFront, HasNone}
use Rattle.due_wheel.proofs.FrontLaws.{no_front, front_due, front_is, if_none}
use Rattle.due_wheel.proofs.wheel.Wheel.front.Goals as goal

pub returns-in_err-item-clause-none : goal.returns-in_err-item-clause-none
returns-in_err-item-clause-none g c =
    let P : DueMap → Type 0 = λ w. HasNone w c.args.slot in
    if_none c.from_residual.result (subst P c.self.view_is (no_front _ _ _ _ c.self.invariant c.args.slot (sym c.in_err-item.ensures.end)))

pub returns-in_err-due-clause-none : goal.returns-in_err-due-clause-none
returns-in_err-due-clause-none g c =
    absurd (front_due _ _ _ _ c.self.invariant c.args.slot c.in_ok-item.item (sym c.in_ok-item.ensures.end) (sym c.in_err-due.ensures))

pub returns-clause-front : goal.returns-clause-front
returns-clause-front g c =
    let P : DueMap → Type 0 = λ w. IsFront w c.args.slot c.in_ok-item.item c.in_ok-due.due in
    subst P c.self.view_is (front_is _ _ _ _ c.self.invariant c.args.slot c.in_ok-item.item c.in_ok-due.due (sym c.in_ok-item.ensures.end) (sym c.in_ok-due.ensures))
