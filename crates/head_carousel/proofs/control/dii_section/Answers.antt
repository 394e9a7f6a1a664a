use Rattle.std.proofs.Common.{◌≡◌, ◌≤◌, length, ap, ◌∙◌, arith}
use Rattle.dsmcc_msg.specs.Written.{DiiDraft, dii_bytes}
use Rattle.head_plan.specs.Plans.{GroupData}
use Rattle.head_carousel.specs.GroupFiles.{GroupFiles}
use Rattle.head_carousel.proofs.BlockLaws.{raw_small}
use Rattle.head_carousel.proofs.ControlLaws.{dii_is, dii_made}
use Rattle.head_carousel.proofs.control.dii_section.Goals as goal

pub add_modules-requires-clause-small : goal.add_modules-requires-clause-small
add_modules-requires-clause-small c =
    let size : c.plan.inside.block_size ≡ c.args.group.now.group.block_size = ap (λ (g : GroupData). g.block_size) c.plan.view_is ∙ ap (λ (g : GroupFiles). g.group.block_size) c.group.view_is in
    raw_small (λ f. f.items) c.args.group.now c.group.inside.files.now (ap (λ (g : GroupFiles). g.files) c.group.view_is) (omega (arith, size, c.plan.invariant.block_some)) (omega (arith, size, c.plan.invariant.block_most)) c.requires.small

pub returns-in-Ok-clause-made : goal.returns-in-Ok-clause-made
returns-in-Ok-clause-made c =
    let id = ap (λ (g : GroupFiles). g.id) c.group.view_is in
    let size = ap (λ (g : GroupData). g.block_size) c.plan.view_is ∙ ap (λ (g : GroupFiles). g.group.block_size) c.group.view_is in
    let version = ap (λ (g : GroupData). g.module_version) c.plan.view_is ∙ ap (λ (g : GroupFiles). g.group.module_version) c.group.view_is in
    let files = ap (λ (g : GroupFiles). g.files) c.group.view_is in
    c.in-Ok.ensures.made ∙ ap dii_bytes (dii_is c.in_ok-writer.writer c.add_modules.new.writer c.args.group.now _ _ _ _ c.in_ok-writer.ensures c.in_ok-add_modules.ensures id size version files)

pub returns-in-Ok-clause-right : goal.returns-in-Ok-clause-right
returns-in-Ok-clause-right c =
    let few : length c.add_modules.new.writer.bytes ≤ 4050 = omega (arith, ap (λ (w : DiiDraft). length w.bytes) c.writer.view_is, c.writer.invariant.room) in
    dii_made c.add_modules.new.writer c.in-Ok.section.items few c.in-Ok.ensures.made
