use Rattle.std.proofs.Common.{◌≤◌, List, length, ap, ◌∙◌, arith}
use Rattle.std.specs.Prelude.{Contains, map}
use Rattle.std.proofs.lemmas.List.Elements.{All-same, All-weaker}
use Rattle.head_plan.specs.Plans.{GroupData, PlanData}
use Rattle.head_carousel.specs.GroupFiles.{groups_from}
use Rattle.head_carousel.specs.Signals.{pids_of}
use Rattle.head_carousel.specs.Sections.{all_sections, sections_of}
use Rattle.head_carousel.proofs.GroupLaws.{groups_length}
use Rattle.head_carousel.specs.WellMade.{IsHeard, IsReady}
use Rattle.head_carousel.proofs.MadeLaws.{ready_heard}
use Rattle.head_carousel.proofs.SignalLaws.{all_length, signalling_length}
use Rattle.head_carousel.proofs.PidLaws.{section_pids}
use Rattle.head_carousel.proofs.carousel.sections.Goals as goal

pub checked_count-requires : goal.checked_count-requires
checked_count-requires c =
    let groups = c.deref.ensures.value ∙ c.in-Ok.ensures in
    let few : length c.deref.result.now ≤ 16 = omega (arith, ap length groups, groups_length 0 c.as_slice.result.now (map (λ i. i.items) c.args.images.now), ap length c.as_slice.ensures.groups, c.as_slice.ensures.count.few) in
    record { few = few }

pub made-requires-clause-groups : goal.made-requires-clause-groups
made-requires-clause-groups c =
    let groups = c.deref-2.ensures.value ∙ c.in-Ok.ensures in
    omega (arith, ap length groups, groups_length 0 c.as_slice.result.now (map (λ i. i.items) c.args.images.now), ap length c.as_slice.ensures.groups, c.as_slice.ensures.count.few)

pub returns-in-Ok-made-clause-ok : goal.returns-in-Ok-made-clause-ok
unfolding sections_of
returns-in-Ok-made-clause-ok c =
    let images = map (λ i. i.items) c.args.images.now in
    let plan = ap (λ (p : PlanData). p.group) c.plan.view_is in
    let groups = c.deref-2.ensures.value ∙ c.in-Ok.ensures ∙ ap (λ (gs : List GroupData). groups_from 0 gs images) (c.as_slice.ensures.groups ∙ plan) in
    c.in-Ok-made.ensures.list ∙ ap (all_sections c.args.plan.now) groups

pub returns-in-Ok-made-clause-some : goal.returns-in-Ok-made-clause-some
returns-in-Ok-made-clause-some c =
    omega (arith, ap length c.in-Ok-made.ensures.list, signalling_length c.args.plan.now c.deref-2.result.now, all_length c.args.plan.now c.deref-2.result.now)

pub returns-in-Ok-made-clause-pids : goal.returns-in-Ok-made-clause-pids
unfolding sections_of
returns-in-Ok-made-clause-pids c =
    let images = map (λ i. i.items) c.args.images.now in
    let plan = ap (λ (p : PlanData). p.group) c.plan.view_is in
    let groups = c.deref-2.ensures.value ∙ c.in-Ok.ensures ∙ ap (λ (gs : List GroupData). groups_from 0 gs images) (c.as_slice.ensures.groups ∙ plan) in
    let list = c.in-Ok-made.ensures.list ∙ ap (all_sections c.args.plan.now) groups in
    All-same (λ s. Contains (pids_of c.args.plan.now) s.pid) _ _ list (section_pids c.args.plan.now images)

pub returns-in-Ok-made-clause-heard : goal.returns-in-Ok-made-clause-heard
returns-in-Ok-made-clause-heard c = All-weaker IsReady IsHeard ready_heard _ c.in-Ok-made.ensures.ready
