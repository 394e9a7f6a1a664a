use Rattle.std.proofs.Common.{ap, arith, length, map, refl, subst}
use Rattle.std.proofs.lemmas.List.{length-map}
use Rattle.head_plan.specs.Plans.{PlanData, mentions}
use Rattle.tool_sample.specs.Sample.{script_of, the_box}
use Rattle.tool_sample.proofs.EndLaws.{IsMemory}
use Rattle.tool_sample.proofs.OutcomeLaws.{broadcast_is, called_with, concluded, no_fault}
use Rattle.tool_sample.proofs.PlanLaws.{files_for_names}
use Rattle.tool_sample.proofs.sampling.outcome_of_sections.Goals as goal

pub broadcast_to-requires : goal.broadcast_to-requires
broadcast_to-requires c = omega (
  arith,
  length-map c.args.modules.now (λ m. m.items),
  ap length c.requires.modules,
  files_for_names c.args.number c.turns.result,
  ap (λ (p : PlanData). length (mentions p.group)) c.in_ok-plan.ensures,
)

pub returns-in-Ok : goal.returns-in-Ok
returns-in-Ok c =
    let number = c.args.number in
    let images = map (λ m. m.items) c.args.modules.now in
    let b = called_with c.in_ok-plan.plan images (script_of number) in
    let is = broadcast_is number c.args.sections c.turns.result c.in_ok-plan.plan images (script_of number) c.in_ok-plan.ensures
    c.turns.ensures.value c.requires.count c.requires.modules refl in
    concluded number b the_box c.in_ok-flash.flash c.broadcast_to.new.flash c.in-Ok.outcome is refl
    c.in_ok-flash.ensures c.in-Ok.ensures.broadcasts.ok

pub unreachable-requires : goal.unreachable-requires
unreachable-requires c =
    let number = c.args.number in
    let images = map (λ m. m.items) c.args.modules.now in
    let b = called_with c.in_ok-plan.plan images (script_of number) in
    let is = broadcast_is number c.args.sections c.turns.result c.in_ok-plan.plan images (script_of number) c.in_ok-plan.ensures
    c.turns.ensures.value c.requires.count c.requires.modules refl in
    subst IsMemory c.in-Err-Build.field-0-is
    (no_fault number b the_box c.in_ok-flash.flash c.broadcast_to.new.flash c.in-Err-Build.field-0 is refl
    c.in_ok-flash.ensures c.requires.sendable c.in-Err-Build.ensures.broadcasts.err)

pub unreachable-requires-in-Err-Load : goal.unreachable-requires-in-Err-Load
unreachable-requires-in-Err-Load c =
    let number = c.args.number in
    let images = map (λ m. m.items) c.args.modules.now in
    let b = called_with c.in_ok-plan.plan images (script_of number) in
    let is = broadcast_is number c.args.sections c.turns.result c.in_ok-plan.plan images (script_of number) c.in_ok-plan.ensures
    c.turns.ensures.value c.requires.count c.requires.modules refl in
    subst IsMemory c.in-Err-Load.field-0-is
    (no_fault number b the_box c.in_ok-flash.flash c.broadcast_to.new.flash c.in-Err-Load.field-0 is refl
    c.in_ok-flash.ensures c.requires.sendable c.in-Err-Load.ensures.broadcasts.err)

pub unreachable-requires-in-Err-Boot : goal.unreachable-requires-in-Err-Boot
unreachable-requires-in-Err-Boot c =
    let number = c.args.number in
    let images = map (λ m. m.items) c.args.modules.now in
    let b = called_with c.in_ok-plan.plan images (script_of number) in
    let is = broadcast_is number c.args.sections c.turns.result c.in_ok-plan.plan images (script_of number) c.in_ok-plan.ensures
    c.turns.ensures.value c.requires.count c.requires.modules refl in
    subst IsMemory c.in-Err-Boot.field-0-is
    (no_fault number b the_box c.in_ok-flash.flash c.broadcast_to.new.flash c.in-Err-Boot.field-0 is refl
    c.in_ok-flash.ensures c.requires.sendable c.in-Err-Boot.ensures.broadcasts.err)
