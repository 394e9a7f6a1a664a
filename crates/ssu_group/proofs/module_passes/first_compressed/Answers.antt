use Rattle.std.proofs.Common.{◌≡◌, true, refl}
use Rattle.std.specs.List.{find}
use Rattle.std.specs.Option.{option_map, is_some}
use Rattle.wire.specs.Items.{items_of}
use Rattle.dsmcc_msg.specs.Control.{module_entry}
use Rattle.si_desc.specs.Descriptors.{first_body}
use Rattle.ssu_group.specs.Plan.{is_compressed, compressed_module_tag}
use Rattle.ssu_group.specs.Refusal.{first_compressed, id_of}
use Rattle.ssu_group.proofs.module_passes.first_compressed.Goals as goal

pub returns-then-is_compressed : goal.returns-then-is_compressed
unfolding first_compressed
returns-then-is_compressed c =
    let same : option_map id_of (find is_compressed (items_of module_entry c.loop-module.module-iterator)) ≡ option_map id_of (find is_compressed c.args.dii.now.modules) = c.loop-module.invariant in
    let is : is_some (first_body compressed_module_tag c.in-Some.module.info.now) ≡ true = cc in
    rw (← same, c.in-Some.ensures.steps, is) refl
