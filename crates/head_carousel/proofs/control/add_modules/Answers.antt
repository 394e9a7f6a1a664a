use Rattle.std.proofs.Common.{length, take, ap, arith}
use Rattle.std.specs.Prelude.{map}
use Rattle.std.proofs.lemmas.List.{length-map, length-take}
use Rattle.dsmcc_msg.specs.Written.{DiiDraft}
use Rattle.head_carousel.specs.GroupFiles.{numbered}
use Rattle.head_carousel.proofs.ControlLaws.{module_more, modules_length, no_modules}
use Rattle.head_carousel.proofs.ListLaws.{numbered_more}
use Rattle.head_carousel.proofs.control.add_modules.Goals as goal

pub loop-index-init : goal.loop-index-init
unfolding numbered
loop-index-init c = no_modules c.args.writer.now c.args.version c.requires.none c.requires.empty

pub add_module-requires-clause-room : goal.add_module-requires-clause-room
add_module-requires-clause-room c =
    let files = map (λ f. f.items) (take c.loop-index.index c.args.files.now) in
    let few = length-map (take c.loop-index.index c.args.files.now) (λ f. f.items) in
    let all = length-take c.loop-index.index c.args.files.now in
    omega (arith, ap (λ (w : DiiDraft). length w.bytes) c.loop-index.invariant, modules_length c.args.version 1 files, few, all, c.requires.few, c.loop-index-test.true)

pub loop-index-preserved : goal.loop-index-preserved
loop-index-preserved c =
    let more = numbered_more (λ f. f.items) 1 c.args.files.now c.loop-index.index c.index-files-index.result c.loop-index-test.true c.index-files-index.is in
    module_more c.args.writer.now c.loop-index.writer c.add_module.new.writer c.args.version _ _ _ c.loop-index.invariant c.in_ok-add_module.ensures
    (rw (← c.deref.ensures.value) at more)
