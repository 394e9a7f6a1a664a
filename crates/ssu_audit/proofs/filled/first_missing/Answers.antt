use Rattle.std.proofs.Common.{◌≡◌, ℕ, ◌+◌, ◌<◌, get_or, drop, Option, Some, None, sym, ap, ◌∙◌, arith}
use Rattle.std.specs.Option.{option_map, option_or}
use Rattle.ssu_group.specs.declared.module_plan.ModulePlan.{ModulePlan}
use Rattle.flash_stage.proofs.TextLaws.{module_below}
use Rattle.ssu_audit.specs.Filled.{lacks, missing_in, missing_of}
use Rattle.ssu_audit.specs.Kept.{block_at}
use Rattle.ssu_audit.proofs.Below.{below-is}
use Rattle.ssu_audit.proofs.Missing.{among-at, missing-at, missing-end}
use Rattle.ssu_audit.proofs.filled.first_missing.Goals as goal

abbrev none : ModulePlan
none = record { id = 0; version = 0; size = 0; at = 0; first = 0; blocks = 0; crc = None }

pub overflow_add-result : goal.overflow_add-result
overflow_add-result c =
    let plan = c.args.plan.now in
    let items = c.as_slice-module-items.result.now in
    let i = c.loop-module.module-index in
    let m = get_or items i none in
    let among = among-at plan.modules.items items i none c.as_slice-module-items.ensures.value c.loop-module-test.true in
    let found : missing_in (block_at c.args.blocks.now) plan m ≡ Some c.in-Some.block = sym c.missing_in.ensures ∙ c.in-Some.is in
    let below : c.in-Some.block < m.blocks = below-is (lacks (block_at c.args.blocks.now) plan m) m.blocks c.in-Some.block found in
    let inside = module_below plan.block_size plan.modules.items plan.places plan.total m c.in-Some.block plan.planned among below in
    let most = plan.planned.most_places in
    omega arith

pub returns-in-Some : goal.returns-in-Some
returns-in-Some c =
    let kept = block_at c.args.blocks.now in
    let plan = c.args.plan.now in
    let items = c.as_slice-module-items.result.now in
    let i = c.loop-module.module-index in
    let m = get_or items i none in
    let found : missing_in kept plan m ≡ Some c.in-Some.block = sym c.missing_in.ensures ∙ c.in-Some.is in
    sym (
    sym c.loop-module.invariant
    ∙ missing-at kept plan plan.modules.items items i none c.as_slice-module-items.ensures.value c.loop-module-test.true
    ∙ ap (λ (o : Option ℕ). option_or (option_map (λ (block : ℕ). m.first + block) o) (missing_of kept plan (drop (i + 1) plan.modules.items))) found)

pub loop-module-preserved : goal.loop-module-preserved
loop-module-preserved c =
    let kept = block_at c.args.blocks.now in
    let plan = c.args.plan.now in
    let items = c.as_slice-module-items.result.now in
    let i = c.loop-module.module-index in
    let m = get_or items i none in
    let found : missing_in kept plan m ≡ None = sym c.missing_in.ensures ∙ c.in_default.is in
    sym (
    missing-at kept plan plan.modules.items items i none c.as_slice-module-items.ensures.value c.loop-module-test.true
    ∙ ap (λ (o : Option ℕ). option_or (option_map (λ (block : ℕ). m.first + block) o) (missing_of kept plan (drop (i + 1) plan.modules.items))) found)
    ∙ c.loop-module.invariant

pub returns : goal.returns
returns c =
    let plan = c.args.plan.now in
    sym (missing-end (block_at c.args.blocks.now) plan plan.modules.items c.as_slice-module-items.result.now c.loop-module.module-index c.as_slice-module-items.ensures.value c.loop-module-test.false)
    ∙ c.loop-module.invariant
