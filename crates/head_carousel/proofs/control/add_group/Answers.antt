use Rattle.std.proofs.Common.{◌≡◌, ◌≤◌, length, ap, ◌∙◌, arith, Err}
use Rattle.head_plan.specs.Plans.{GroupData}
use Rattle.head_carousel.specs.GroupFiles.{GroupFiles}
use Rattle.head_carousel.proofs.BlockLaws.{raw_small}
use Rattle.head_carousel.proofs.ControlLaws.{group_fits, subgroup_short, two_entries}
use Rattle.head_carousel.proofs.control.add_group.Goals as goal

pub total_size-requires : goal.total_size-requires
total_size-requires c =
    let size : c.plan.inside.block_size ≡ c.args.group.now.group.block_size = ap (λ (g : GroupData). g.block_size) c.plan.view_is ∙ ap (λ (g : GroupFiles). g.group.block_size) c.group.view_is in
    raw_small (λ f. f.items) c.args.group.now c.group.inside.files.now (ap (λ (g : GroupFiles). g.files) c.group.view_is) (omega (arith, size, c.plan.invariant.block_some)) (omega (arith, size, c.plan.invariant.block_most)) c.requires.small

pub wanting-requires : goal.wanting-requires
wanting-requires c = λ e.
    let long = c.in-Err.ensures.too_long.0 (ap Err e) in
    let compat = ap length (c.deref.ensures.value ∙ c.in_ok-compat.ensures.made) ∙ two_entries _ _ in
    let info : length c.deref-2.result.now ≤ 7 = omega (arith, ap length (c.deref-2.ensures.value ∙ c.in_ok-info.ensures.made), subgroup_short c.plan.inside.subgroup) in
    absurd (omega (arith, long, group_fits c.args.writer.now.bytes c.deref.result.now c.deref-2.result.now c.group.inside.id c.total_size.result c.requires.room compat info))
