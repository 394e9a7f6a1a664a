use Rattle.std.proofs.Common.{◌≡◌, ◌+◌, ◌<◌, ◌≤◌, List, length, get_or, Some, None, sym, subst, ◌∙◌, arith}
use Rattle.std.specs.List.{find}
use Rattle.ssu_group.specs.declared.module_plan.ModulePlan.{ModulePlan}
use Rattle.group_image.specs.Image.{missing_in, image_of}
use Rattle.ssu_group.specs.Carried.{is_wrong}
use Rattle.tool_load.proofs.GrowingLaws.{all_reached, all_crcs}
use Rattle.tool_load.proofs.VerdictLaws.{modules_inside, incomplete_is, loaded_is, bad_is}
use Rattle.tool_load.proofs.deciding.verdict_of_blocks.Goals as goal

pub returns-then-missing-gt0-clause-verdict : goal.returns-then-missing-gt0-clause-verdict
returns-then-missing-gt0-clause-verdict c = λ sections is.
    incomplete_is c.args.blocks.now sections c.chosen.result c.missing-missing.result is c.chosen.ensures c.missing-missing.ensures (omega arith)

pub first_wrong-requires-clause-reached : goal.first_wrong-requires-clause-reached
first_wrong-requires-clause-reached c =
    let blocks = c.args.blocks.now in
    all_reached blocks.plan blocks.image blocks.is_for blocks.reaches (sym c.missing-missing.ensures ∙ omega arith)

pub first_wrong-requires-clause-sums : goal.first_wrong-requires-clause-sums
first_wrong-requires-clause-sums c =
    let blocks = c.args.blocks.now in
    all_crcs blocks.plan blocks.image blocks.sums blocks.summed

pub first_wrong-requires-clause-inside : goal.first_wrong-requires-clause-inside
first_wrong-requires-clause-inside c = λ k d below.
    let blocks = c.args.blocks.now in
    let inside : (get_or c.as_slice.result.now k d).at + (get_or c.as_slice.result.now k d).size ≤ blocks.plan.total =
    subst (λ (ms : List ModulePlan). k < length ms → (get_or ms k d).at + (get_or ms k d).size ≤ blocks.plan.total) (sym c.as_slice.ensures.value)
    (modules_inside blocks.plan k d) below in
    omega (arith, inside, blocks.is_for.total)

pub returns-in-None-clause-verdict : goal.returns-in-None-clause-verdict
returns-in-None-clause-verdict c = λ sections is.
    let blocks = c.args.blocks.now in
    let none : missing_in blocks.image ≡ 0 = sym c.missing-missing.ensures ∙ omega arith in
    let right : find (is_wrong (image_of blocks.image)) blocks.plan.modules.items ≡ None =
    subst (λ (ms : List ModulePlan). find (is_wrong (image_of blocks.image)) ms ≡ None) c.as_slice.ensures.value c.in-None.ensures in
    loaded_is blocks sections c.chosen-in-None.result is c.chosen-in-None.ensures none right

pub returns-in-Some-clause-verdict : goal.returns-in-Some-clause-verdict
returns-in-Some-clause-verdict c = λ sections is.
    let blocks = c.args.blocks.now in
    let none : missing_in blocks.image ≡ 0 = sym c.missing-missing.ensures ∙ omega arith in
    let found = c.in-Some.ensures in
    let first : find (is_wrong (image_of blocks.image)) blocks.plan.modules.items ≡ Some found.0 =
    subst (λ (ms : List ModulePlan). find (is_wrong (image_of blocks.image)) ms ≡ Some found.0) c.as_slice.ensures.value found.1 in
    bad_is blocks sections found.0 c.in-Some.wrong is none first found.2
