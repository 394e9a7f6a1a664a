use Rattle.std.proofs.Common.{◌≤◌, length, take, ap, ◌∙◌, arith}
use Rattle.std.proofs.lemmas.List.{length-take, take_all}
use Rattle.dsmcc_msg.specs.Written.{DsiDraft, dsi_bytes}
use Rattle.head_carousel.specs.Control.{dsi_draft}
use Rattle.head_carousel.proofs.ControlLaws.{dsi_made, groups_short, with_groups}
use Rattle.head_carousel.proofs.control.dsi_section.Goals as goal

pub add_group-requires-clause-room : goal.add_group-requires-clause-room
add_group-requires-clause-room c =
    let gs = take c.loop-group.group-index c.args.groups.now in
    omega (arith, ap (λ (w : DsiDraft). length w.bytes) c.loop-group.invariant, groups_short c.args.oui gs, length-take c.loop-group.group-index c.args.groups.now, c.requires.few)

pub returns-in-Ok-clause-made : goal.returns-in-Ok-clause-made
unfolding dsi_draft
returns-in-Ok-clause-made c =
    let all = take_all c.loop-group.group-index c.args.groups.now (omega arith) in
    c.in-Ok.ensures.made ∙ ap dsi_bytes (c.loop-group.invariant ∙ ap (with_groups 0x80000000 c.args.oui) all)

pub returns-in-Ok-clause-right : goal.returns-in-Ok-clause-right
returns-in-Ok-clause-right c =
    let gs = take c.loop-group.group-index c.args.groups.now in
    let few : length c.loop-group.writer.bytes ≤ 4044 = omega (arith, ap (λ (w : DsiDraft). length w.bytes) c.loop-group.invariant, groups_short c.args.oui gs, length-take c.loop-group.group-index c.args.groups.now, c.requires.few) in
    dsi_made c.loop-group.writer c.in-Ok.section.items few c.in-Ok.ensures.made
