use Rattle.std.proofs.Common.{List, ◌≡◌, None, Some, refl, subst, ◌∙◌, arith}
use Rattle.std.specs.List.{find}
use Rattle.ssu_group.specs.Carried.{carried_image, IsWrong, is_wrong}
use Rattle.ssu_group.specs.declared.module_plan.ModulePlan.{ModulePlan}
use Rattle.ssu_loader.proofs.SearchLaws.{filled_stays, holds_stays, looked_at, looked_on, looked_through, stays_joined, stays_none}
use Rattle.ssu_loader.proofs.wrong.first_wrong.Goals as goal

pub loop-part-init : goal.loop-part-init
loop-part-init g c = record {
  works = c.requires.works;
  stays = stays_none g.S.Stage g.F.Flash g.met.F.Flash.only_now c.args.stage.now c.args.bank.now c.args.flash.now;
  most = refl;
  later = omega arith;
  found = λ tells fills filled holds. refl;
}

pub returns-in_err-wrong_of-clause-stays : goal.returns-in_err-wrong_of-clause-stays
returns-in_err-wrong_of-clause-stays g c =
    stays_joined g.S.Stage g.F.Flash c.args.stage.now c.loop-part.stage c.wrong_of.new.stage c.args.bank.now c.loop-part.bank c.wrong_of.new.bank
    c.args.flash.now c.loop-part.flash c.wrong_of.new.flash c.loop-part.invariant.stays c.in_err-wrong_of.ensures.stays

pub returns-in-Some-clause-stays : goal.returns-in-Some-clause-stays
returns-in-Some-clause-stays g c =
    stays_joined g.S.Stage g.F.Flash c.args.stage.now c.loop-part.stage c.wrong_of.new.stage c.args.bank.now c.loop-part.bank c.wrong_of.new.bank
    c.args.flash.now c.loop-part.flash c.wrong_of.new.flash c.loop-part.invariant.stays c.wrong_of.ensures.stays

pub returns-in-Some-clause-wrong : goal.returns-in-Some-clause-wrong
returns-in-Some-clause-wrong g c = λ tells fills filled holds.
    let l = c.loop-part in
    let plan = c.args.plan.now in
    let image = carried_image plan fills in
    let filled' = filled_stays g.S.Stage g.F.Flash plan fills c.args.stage.now l.stage c.args.bank.now l.bank c.args.flash.now l.flash l.invariant.stays filled in
    let holds' = holds_stays g.S.Stage g.F.Flash plan fills c.args.stage.now l.stage c.args.bank.now l.bank c.args.flash.now l.flash tells l.invariant.stays holds in
    let P : List ModulePlan → Type 0 = λ modules. (m : ModulePlan) × (find (is_wrong image) modules ≡ Some m) × IsWrong image m c.in-Some.wrong in
    subst P c.as_slice-part-items.ensures.value
    (looked_at image c.as_slice-part-items.result.now l.part-index _ c.in_ok-wrong_of.field-0 c.in-Some.wrong c.loop-part-test.true c.in-Some.is
    (c.in_ok-wrong_of.ensures.wrong tells fills filled' holds') (l.invariant.found tells fills filled holds))

pub loop-part-preserved : goal.loop-part-preserved
loop-part-preserved g c = record {
  works = c.in_ok-wrong_of.ensures.works;
  stays = stays_joined g.S.Stage g.F.Flash c.args.stage.now c.loop-part.stage c.wrong_of.new.stage c.args.bank.now c.loop-part.bank c.wrong_of.new.bank
      c.args.flash.now c.loop-part.flash c.wrong_of.new.flash c.loop-part.invariant.stays c.wrong_of.ensures.stays;
  most = c.wrong_of.ensures.most ∙ c.loop-part.invariant.most;
  later = omega (arith, c.loop-part.invariant.later, c.wrong_of.ensures.cause.later);
  found = λ tells fills filled holds.
      let l = c.loop-part in
      let plan = c.args.plan.now in
      let filled' = filled_stays g.S.Stage g.F.Flash plan fills c.args.stage.now l.stage c.args.bank.now l.bank c.args.flash.now l.flash l.invariant.stays filled in
      let holds' = holds_stays g.S.Stage g.F.Flash plan fills c.args.stage.now l.stage c.args.bank.now l.bank c.args.flash.now l.flash tells l.invariant.stays holds in
      looked_on (carried_image plan fills) c.as_slice-part-items.result.now l.part-index _ c.in_ok-wrong_of.field-0 c.loop-part-test.true c.in-None.is
      (c.in_ok-wrong_of.ensures.wrong tells fills filled' holds')
      ∙ l.invariant.found tells fills filled holds;
}

pub returns-clause-wrong : goal.returns-clause-wrong
returns-clause-wrong g c = λ tells fills filled holds.
    let P : List ModulePlan → Type 0 = λ modules. find (is_wrong (carried_image c.args.plan.now fills)) modules ≡ None in
    subst P c.as_slice-part-items.ensures.value
    (looked_through (carried_image c.args.plan.now fills) c.as_slice-part-items.result.now c.loop-part.part-index c.loop-part-test.false
    (c.loop-part.invariant.found tells fills filled holds))
