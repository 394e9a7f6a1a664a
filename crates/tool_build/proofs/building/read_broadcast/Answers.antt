use Rattle.std.proofs.Common.{◌≡◌, ap, subst, sym}
use Rattle.std.proofs.lemmas.Result.{err_from_is_err_and}
use Rattle.head_plan.specs.Plans.{PlanData, mentions}
use Rattle.tool_build.specs.Held.{IsFirstMissing}
use Rattle.tool_build.proofs.MissingLaws.{plan_or_fails}
use Rattle.tool_build.proofs.building.read_broadcast.Goals as goal

pub returns-in_err-plan-clause-no_file : goal.returns-in_err-plan-clause-no_file
returns-in_err-plan-clause-no_file g c = λ name told lacks.
    let p = err_from_is_err_and c.from_residual.result c.from_residual.ensures.1 in
    rw (p.1, p.2) (plan_or_fails lacks.plan c.in_err-plan.field-0.0 name (c.in_err-plan.ensures.told lacks.plan told lacks.tells))

pub returns-in_err-images-clause-no_file : goal.returns-in_err-images-clause-no_file
returns-in_err-images-clause-no_file g c = λ name told lacks.
    let held = g.H.Shelf.held c.args.shelf.now in
    let p = err_from_is_err_and c.from_residual-in_err-images.result c.from_residual-in_err-images.ensures.1 in
    let same : c.in_ok-plan.plan ≡ lacks.plan = c.in_ok-plan.ensures.told lacks.plan told lacks.tells in
    let first : IsFirstMissing held (mentions c.in_ok-plan.plan.group) name = subst (λ (plan : PlanData). IsFirstMissing held (mentions plan.group) name) (sym same) lacks.first in
    let missing = rw c.read_plan.ensures.unchanged at c.in_err-images.ensures.missing in
    rw (p.1, p.2) (missing name told first)

pub returns-clause-no_file : goal.returns-clause-no_file
returns-clause-no_file g c = λ name told lacks.
    let held = g.H.Shelf.held c.args.shelf.now in
    let same : c.in_ok-plan.plan ≡ lacks.plan = c.in_ok-plan.ensures.told lacks.plan told lacks.tells in
    let first : IsFirstMissing held (mentions c.in_ok-plan.plan.group) name = subst (λ (plan : PlanData). IsFirstMissing held (mentions plan.group) name) (sym same) lacks.first in
    let missing = rw c.read_plan.ensures.unchanged at c.in_ok-images.ensures.missing in
    absurd (missing name told first)
