use Rattle.std.proofs.Common.{◌<◌, ◌≤◌, List, length, get_or, take, subst, sym, ap, ◌∙◌}
use Rattle.std.proofs.lemmas.List.{take_all}
use Rattle.std.proofs.lemmas.List.Elements.{All-more, All-same}
use Rattle.head_plan.specs.Plans.{GroupData, PlanData}
use Rattle.broadcast_laws.specs.Planned.{IsGroupInRange}
use Rattle.broadcast.proofs.ranges.read_ranges.Goals as goal

pub loop-group-preserved : goal.loop-group-preserved
loop-group-preserved c =
    let i = c.loop-group.group-index in
    let item = c.group-item.result in
    let same = c.as_slice-group-items.ensures.groups ∙ ap (λ (p : PlanData). p.group) c.plan.view_is in
    All-more IsGroupInRange c.args.plan.now.group i item (subst (λ (gs : List GroupData). i < length gs) same c.loop-group-test.true) c.loop-group.invariant
    (subst (λ (gs : List GroupData). IsGroupInRange (get_or gs i item)) same (subst IsGroupInRange c.group-item.is c.read_group.ensures))

pub returns-clause-groups : goal.returns-clause-groups
returns-clause-groups c =
    let i = c.loop-group.group-index in
    let same = c.as_slice-group-items.ensures.groups ∙ ap (λ (p : PlanData). p.group) c.plan.view_is in
    let over = subst (λ (gs : List GroupData). length gs ≤ i) same c.loop-group-test.false in
    All-same IsGroupInRange c.args.plan.now.group (take i c.args.plan.now.group) (sym (take_all i c.args.plan.now.group over)) c.loop-group.invariant
