use Rattle.std.proofs.Common.{List, None, get_or, subst, ◌+◌, ◌∙◌}
use Rattle.std.specs.Prelude.{Contains}
use Rattle.std.proofs.lemmas.List.Elements.{Contains-get_or}
use Rattle.ssu_group.proofs.MapLaws.{all_marked}
use Rattle.ssu_group.specs.declared.module_plan.ModulePlan.{ModulePlan}
use Rattle.flash_stage.proofs.TextLaws.{module_below}
use Rattle.box_tests.proofs.flash_stage_tests.module_crcs.Goals as goal

pub module_crc-requires-clause-whole : goal.module_crc-requires-clause-whole
module_crc-requires-clause-whole g c k below =
    let i = c.loop-module in
    let plan = c.args.plan.now in
    let none : ModulePlan = record { id = 0; version = 0; size = 0; at = 0; first = 0; blocks = 0; crc = None } in
    let m : ModulePlan = get_or c.as_slice-module-items.result.now i.module-index none in
    let among : Contains plan.modules.items m = subst (λ (ms : List ModulePlan). Contains ms m) c.as_slice-module-items.ensures.value (Contains-get_or c.as_slice-module-items.result.now i.module-index none c.loop-module-test.true) in
    i.invariant.same (m.first + k) ∙ all_marked (g.S.Stage.has c.args.stage.now) plan.places c.requires.whole (m.first + k) (module_below plan.block_size plan.modules.items plan.places plan.total m k plan.planned among below)
