use Rattle.std.proofs.Common.{◌∙◌, ap, arith, length, map, subst}
use Rattle.std.proofs.lemmas.List.{length-map}
use Rattle.head_carousel.specs.Sections.{sections_of}
use Rattle.head_plan.specs.Plans.{PlanData, mentions}
use Rattle.tool_sample.specs.Sample.{plan_in}
use Rattle.tool_sample.proofs.PlanLaws.{IsWant, files_for_names, made_of, total_few}
use Rattle.tool_sample.proofs.plan.section_count.Goals as goal

pub sections-requires : goal.sections-requires
sections-requires c = record {
  images = omega (
    arith,
    length-map c.args.modules.now (λ m. m.items),
    ap length c.requires.modules,
    files_for_names c.args.number 1,
    ap (λ (p : PlanData). length (mentions p.group)) c.in_ok-plan.ensures,
  );
}

pub returns-in-Ok-clause-few : goal.returns-in-Ok-clause-few
returns-in-Ok-clause-few c =
    let images = map (λ m. m.items) c.args.modules.now in
    let list = c.in-Ok.ensures.ok ∙ ap (λ (p : PlanData). sections_of p images) c.in_ok-plan.ensures ∙ ap (sections_of (plan_in c.args.number 1)) c.requires.modules in
    omega (arith, c.len.ensures, ap length list, total_few c.args.number)

pub unreachable-requires : goal.unreachable-requires
unreachable-requires c =
    let images = map (λ m. m.items) c.args.modules.now in
    let fault = c.in-Err-ImageTooLong.field-0 in
    subst IsWant c.in-Err-ImageTooLong.field-0-is
    (made_of c.args.number 1 c.in_ok-plan.plan images fault c.in_ok-plan.ensures c.requires.modules c.in-Err-ImageTooLong.ensures.cause)

pub unreachable-requires-in-Err-TooManySections : goal.unreachable-requires-in-Err-TooManySections
unreachable-requires-in-Err-TooManySections c =
    let images = map (λ m. m.items) c.args.modules.now in
    let fault = c.in-Err-TooManySections.field-0 in
    subst IsWant c.in-Err-TooManySections.field-0-is
    (made_of c.args.number 1 c.in_ok-plan.plan images fault c.in_ok-plan.ensures c.requires.modules c.in-Err-TooManySections.ensures.cause)
