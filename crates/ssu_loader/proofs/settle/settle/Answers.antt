use Rattle.std.proofs.Common.{◌≡◌, ℕ, List, inl, inr, sym, ap, subst, ◌∙◌, arith}
use Rattle.bank_kept.specs.Leaving.{HoldsNoMore}
use Rattle.flash_bank.proofs.LeavingLemmas.{keeps_boot_same}
use Rattle.flash_bank.specs.Bank.{geometry_of}
use Rattle.flash_bank.specs.Leaving.{KeepsBoot}
use Rattle.std.specs.Prelude.{IfOk, IfSome}
use Rattle.flash_dev.proofs.Moments.{joined, weaker}
use Rattle.flash_layout.specs.Layout.{Geometry}
use Rattle.flash_stage.specs.Keeping.{StagesNone}
use Rattle.flash_stage.specs.Outline.{Outline}
use Rattle.flash_stage.proofs.KeptLaws.{same_no_more}
use Rattle.flash_stage.proofs.LeavingLaws.{banks_joined}
use Rattle.ssu_group.specs.Map.{missing_below}
use Rattle.ssu_loader.specs.Settling.{Settles, SettlingLeaves}
use Rattle.ssu_loader.specs.Staging.{StagingLeaves}
use Rattle.ssu_loader.proofs.AnsweringLaws.{at_none, at_some, if_ok, some_one}
use Rattle.ssu_loader.proofs.LeftLaws.{left_now, left_read}
use Rattle.ssu_loader.proofs.KeepingLaws.{leaves_moved}
use Rattle.ssu_loader.proofs.SearchLaws.{filled_stays, holds_stays}
use Rattle.ssu_loader.proofs.SettlingLaws.{answer_moved, has_wrong, none_missing, none_wrong, settling_moved, some_missing}
use Rattle.ssu_loader.proofs.StagedLaws.{leaves_same, no_more_moved, staging_moved, wrong_group}
use Rattle.ssu_loader.proofs.UnlessLaws.{never_wrong, unless_from, unless_one}
use Rattle.ssu_loader.proofs.WrongLaws.{no_prev_left}
use Rattle.ssu_loader.proofs.settle.settle.Goals as goal

pub returns-then-missing-gt0-clause-missing : goal.returns-then-missing-gt0-clause-missing
returns-then-missing-gt0-clause-missing g c = λ fills includes.
    let s = g.S.Stage in
    let plan = c.args.choice.now.plan in
    let has = s.has c.args.stage.now in
    let places : (s.plan_of c.args.stage.now).places ≡ plan.places = ap (λ (o : Outline). o.places) c.requires.works.planned in
    let count : missing_below has plan.places ≡ c.missing.result = ap (missing_below has) (sym places) ∙ sym c.missing.ensures in
    some_missing plan fills has includes (omega (arith, count, c.if-missing-gt0.true))

pub returns-then-missing-gt0-clause-left : goal.returns-then-missing-gt0-clause-left
returns-then-missing-gt0-clause-left g c = λ tells fills filled holds.
    let f = g.F.Flash in
    let x = f.contents c.args.flash.now in
    left_now f g.met.F.Flash.only_now c.args.flash.now (SettlingLeaves c.args.choice.now fills c.args.bank.now x)
    (inl (keeps_boot_same (geometry_of c.args.bank.now) x (c.requires.works.lent.fits tells).sound))

pub returns-then-missing-gt0-clause-no_more : goal.returns-then-missing-gt0-clause-no_more
returns-then-missing-gt0-clause-no_more g c = λ tells. same_no_more (geometry_of c.args.bank.now) (g.F.Flash.contents c.args.flash.now)

pub returns-then-missing-gt0-clause-no_more_left : goal.returns-then-missing-gt0-clause-no_more_left
returns-then-missing-gt0-clause-no_more_left g c = λ tells.
    let f = g.F.Flash in
    let x = f.contents c.args.flash.now in
    left_now f g.met.F.Flash.only_now c.args.flash.now (HoldsNoMore (geometry_of c.args.bank.now) x) (same_no_more (geometry_of c.args.bank.now) x)

pub returns-then-missing-gt0-clause-staging : goal.returns-then-missing-gt0-clause-staging
returns-then-missing-gt0-clause-staging g c = λ tells keeps fills filled holds.
    leaves_same c.args.choice.now fills c.args.bank.now (g.F.Flash.contents c.args.flash.now)

pub returns-then-missing-gt0-clause-staging_left : goal.returns-then-missing-gt0-clause-staging_left
returns-then-missing-gt0-clause-staging_left g c = λ tells keeps fills filled holds.
    let f = g.F.Flash in
    let x = f.contents c.args.flash.now in
    left_now f g.met.F.Flash.only_now c.args.flash.now (StagingLeaves 0 c.args.choice.now fills c.args.bank.now x) (leaves_same c.args.choice.now fills c.args.bank.now x)

pub returns-in_err-wrong-clause-no_more : goal.returns-in_err-wrong-clause-no_more
returns-in_err-wrong-clause-no_more g c = λ tells.
    let f = g.F.Flash in
    let x = f.contents c.args.flash.now in
    subst (HoldsNoMore (geometry_of c.args.bank.now) x) (sym (c.first_wrong.ensures.stays.reads.same tells)) (same_no_more (geometry_of c.args.bank.now) x)

pub returns-in_err-wrong-clause-no_more_left : goal.returns-in_err-wrong-clause-no_more_left
returns-in_err-wrong-clause-no_more_left g c = λ tells.
    let f = g.F.Flash in
    let x = f.contents c.args.flash.now in
    left_read f c.args.flash.now c.first_wrong.new.flash (HoldsNoMore (geometry_of c.args.bank.now) x) tells c.first_wrong.ensures.stays.reads
    (same_no_more (geometry_of c.args.bank.now) x)

pub returns-in_err-wrong-clause-staging : goal.returns-in_err-wrong-clause-staging
returns-in_err-wrong-clause-staging g c = λ tells keeps fills filled holds.
    let f = g.F.Flash in
    let x = f.contents c.args.flash.now in
    subst (StagingLeaves 0 c.args.choice.now fills c.args.bank.now x) (sym (c.first_wrong.ensures.stays.reads.same tells)) (leaves_same c.args.choice.now fills c.args.bank.now x)

pub returns-in_err-wrong-clause-staging_left : goal.returns-in_err-wrong-clause-staging_left
returns-in_err-wrong-clause-staging_left g c = λ tells keeps fills filled holds.
    let f = g.F.Flash in
    let x = f.contents c.args.flash.now in
    left_read f c.args.flash.now c.first_wrong.new.flash (StagingLeaves 0 c.args.choice.now fills c.args.bank.now x) tells c.first_wrong.ensures.stays.reads
    (leaves_same c.args.choice.now fills c.args.bank.now x)

pub returns-in_err-wrong-clause-left : goal.returns-in_err-wrong-clause-left
returns-in_err-wrong-clause-left g c = λ tells fills filled holds.
    let f = g.F.Flash in
    let x = f.contents c.args.flash.now in
    left_read f c.args.flash.now c.first_wrong.new.flash (SettlingLeaves c.args.choice.now fills c.args.bank.now x) tells c.first_wrong.ensures.stays.reads
    (inl (keeps_boot_same (geometry_of c.args.bank.now) x (c.requires.works.lent.fits tells).sound))

pub returns-in_ok-forget-in-Some-clause-settled : goal.returns-in_ok-forget-in-Some-clause-settled
returns-in_ok-forget-in-Some-clause-settled g c = λ tells fills filled holds.
    let choice = c.args.choice.now in
    let has = g.S.Stage.has c.args.stage.now in
    let is = at_some _ _ c.in_ok-wrong.field-0 c.in-Some.wrong c.in-Some.is (c.in_ok-wrong.ensures.wrong tells fills filled holds) in
    let count : missing_below has choice.plan.places ≡ c.missing.result = ap (λ (o : Outline). missing_below has o.places) (sym c.requires.works.planned) ∙ sym c.missing.ensures in
    let whole : missing_below has choice.plan.places ≡ 0 = omega (arith, count, c.if-missing-gt0.false) in
    let f = g.F.Flash in
    let bank = c.args.bank.now in
    let w = c.first_wrong.new in
    let x = f.contents c.args.flash.now in
    let stays = c.first_wrong.ensures.stays in
    let y = f.contents c.forget.new.flash in (
      has_wrong choice fills is.0 c.in-Some.wrong (none_missing choice.plan fills has filled whole) is.1 is.2,
      leaves_moved bank w.bank x y stays.same_bank (subst (λ (from : List ℕ). KeepsBoot (geometry_of w.bank) from y) (stays.reads.same tells) (c.in_ok-forget-in-Some.ensures.held tells)),
    )

pub returns-in_ok-forget-in-Some-clause-held : goal.returns-in_ok-forget-in-Some-clause-held
returns-in_ok-forget-in-Some-clause-held g c = λ tells fills filled holds.
    let f = g.F.Flash in
    let bank = c.args.bank.now in
    let w = c.first_wrong.new in
    let x = f.contents c.args.flash.now in
    let stays = c.first_wrong.ensures.stays in
    inl (leaves_moved bank w.bank x (f.contents c.forget.new.flash) stays.same_bank
    (subst (λ (from : List ℕ). KeepsBoot (geometry_of w.bank) from (f.contents c.forget.new.flash)) (stays.reads.same tells) (c.in_ok-forget-in-Some.ensures.held tells)))

pub returns-in_ok-forget-in-Some-clause-left : goal.returns-in_ok-forget-in-Some-clause-left
returns-in_ok-forget-in-Some-clause-left g c = λ tells fills filled holds.
    let f = g.F.Flash in
    let bank = c.args.bank.now in
    let w = c.first_wrong.new in
    let x = f.contents c.args.flash.now in
    let stays = c.first_wrong.ensures.stays in
    let P : List ℕ → Type 0 = SettlingLeaves c.args.choice.now fills bank x in
    joined f.moment f.left_since c.args.flash.now w.flash c.forget.new.flash P
    (left_read f c.args.flash.now w.flash P tells stays.reads (inl (keeps_boot_same (geometry_of bank) x (c.requires.works.lent.fits tells).sound)))
    (weaker f.moment f.left_since w.flash c.forget.new.flash (KeepsBoot (geometry_of w.bank) (f.contents w.flash)) P
    (λ y leaves. inl (leaves_moved bank w.bank x y stays.same_bank (subst (λ (from : List ℕ). KeepsBoot (geometry_of w.bank) from y) (stays.reads.same tells) leaves)))
    (c.in_ok-forget-in-Some.ensures.left tells))

pub returns-in_ok-forget-in-Some-clause-same_bank : goal.returns-in_ok-forget-in-Some-clause-same_bank
returns-in_ok-forget-in-Some-clause-same_bank g c = banks_joined c.args.bank.now c.first_wrong.new.bank c.forget.new.bank c.first_wrong.ensures.stays.same_bank c.in_ok-forget-in-Some.ensures.same_bank

pub returns-in_ok-forget-in-Some-clause-no_more : goal.returns-in_ok-forget-in-Some-clause-no_more
returns-in_ok-forget-in-Some-clause-no_more g c = λ tells.
    let f = g.F.Flash in
    let bank = c.args.bank.now in
    let w = c.first_wrong.new in
    let x = f.contents c.args.flash.now in
    let stays = c.first_wrong.ensures.stays in
    no_more_moved bank w.bank x (f.contents c.forget.new.flash) stays.same_bank
    (subst (λ (from : List ℕ). HoldsNoMore (geometry_of w.bank) from (f.contents c.forget.new.flash)) (stays.reads.same tells) (c.in_ok-forget-in-Some.ensures.no_more tells))

pub returns-in_ok-forget-in-Some-clause-no_more_left : goal.returns-in_ok-forget-in-Some-clause-no_more_left
returns-in_ok-forget-in-Some-clause-no_more_left g c = λ tells.
    let f = g.F.Flash in
    let bank = c.args.bank.now in
    let w = c.first_wrong.new in
    let x = f.contents c.args.flash.now in
    let stays = c.first_wrong.ensures.stays in
    let P : List ℕ → Type 0 = HoldsNoMore (geometry_of bank) x in
    joined f.moment f.left_since c.args.flash.now w.flash c.forget.new.flash P
    (left_read f c.args.flash.now w.flash P tells stays.reads (same_no_more (geometry_of bank) x))
    (weaker f.moment f.left_since w.flash c.forget.new.flash (HoldsNoMore (geometry_of w.bank) (f.contents w.flash)) P
    (λ y leaves. no_more_moved bank w.bank x y stays.same_bank (subst (λ (from : List ℕ). HoldsNoMore (geometry_of w.bank) from y) (stays.reads.same tells) leaves))
    (c.in_ok-forget-in-Some.ensures.no_more_left tells))

pub returns-in_ok-forget-in-Some-clause-staging : goal.returns-in_ok-forget-in-Some-clause-staging
returns-in_ok-forget-in-Some-clause-staging g c = λ tells keeps fills filled holds.
    let choice = c.args.choice.now in
    let has = g.S.Stage.has c.args.stage.now in
    let is = at_some _ _ c.in_ok-wrong.field-0 c.in-Some.wrong c.in-Some.is (c.in_ok-wrong.ensures.wrong tells fills filled holds) in
    let count : missing_below has choice.plan.places ≡ c.missing.result = ap (λ (o : Outline). missing_below has o.places) (sym c.requires.works.planned) ∙ sym c.missing.ensures in
    let whole : missing_below has choice.plan.places ≡ 0 = omega (arith, count, c.if-missing-gt0.false) in
    let wrong = wrong_group choice fills is.0 c.in-Some.wrong (none_missing choice.plan fills has filled whole) is.1 is.2 in
    inr (inl wrong)

pub returns-in_ok-forget-in-Some-clause-staging_left : goal.returns-in_ok-forget-in-Some-clause-staging_left
returns-in_ok-forget-in-Some-clause-staging_left g c = λ tells keeps fills filled holds.
    let choice = c.args.choice.now in
    let has = g.S.Stage.has c.args.stage.now in
    let is = at_some _ _ c.in_ok-wrong.field-0 c.in-Some.wrong c.in-Some.is (c.in_ok-wrong.ensures.wrong tells fills filled holds) in
    let count : missing_below has choice.plan.places ≡ c.missing.result = ap (λ (o : Outline). missing_below has o.places) (sym c.requires.works.planned) ∙ sym c.missing.ensures in
    let whole : missing_below has choice.plan.places ≡ 0 = omega (arith, count, c.if-missing-gt0.false) in
    let wrong = wrong_group choice fills is.0 c.in-Some.wrong (none_missing choice.plan fills has filled whole) is.1 is.2 in
    let f = g.F.Flash in
    let w = c.first_wrong.new in
    let x = f.contents c.args.flash.now in
    let P : List ℕ → Type 0 = StagingLeaves 0 c.args.choice.now fills c.args.bank.now x in
    joined f.moment f.left_since c.args.flash.now w.flash c.forget.new.flash P
    (left_read f c.args.flash.now w.flash P tells c.first_wrong.ensures.stays.reads (leaves_same c.args.choice.now fills c.args.bank.now x))
    (weaker f.moment f.left_since w.flash c.forget.new.flash (KeepsBoot (geometry_of w.bank) (f.contents w.flash)) P (λ y leaves. inr (inl wrong)) (c.in_ok-forget-in-Some.ensures.left tells))

pub returns-in_ok-forget-in-Some-clause-forgotten : goal.returns-in_ok-forget-in-Some-clause-forgotten
returns-in_ok-forget-in-Some-clause-forgotten g c = λ tells keeps.
    let y = g.F.Flash.contents c.forget.new.flash in
    subst (λ (blocks : Geometry). StagesNone blocks y) c.first_wrong.ensures.stays.same_bank.geometry (c.in_ok-forget-in-Some.ensures.none tells keeps)

pub returns-in_err-forget-in-Some-clause-held : goal.returns-in_err-forget-in-Some-clause-held
returns-in_err-forget-in-Some-clause-held g c = λ tells fills filled holds.
    let f = g.F.Flash in
    let bank = c.args.bank.now in
    let w = c.first_wrong.new in
    let x = f.contents c.args.flash.now in
    let stays = c.first_wrong.ensures.stays in
    inl (leaves_moved bank w.bank x (f.contents c.forget.new.flash) stays.same_bank
    (subst (λ (from : List ℕ). KeepsBoot (geometry_of w.bank) from (f.contents c.forget.new.flash)) (stays.reads.same tells) (c.in_err-forget-in-Some.ensures.held tells)))

pub returns-in_err-forget-in-Some-clause-left : goal.returns-in_err-forget-in-Some-clause-left
returns-in_err-forget-in-Some-clause-left g c = λ tells fills filled holds.
    let f = g.F.Flash in
    let bank = c.args.bank.now in
    let w = c.first_wrong.new in
    let x = f.contents c.args.flash.now in
    let stays = c.first_wrong.ensures.stays in
    let P : List ℕ → Type 0 = SettlingLeaves c.args.choice.now fills bank x in
    joined f.moment f.left_since c.args.flash.now w.flash c.forget.new.flash P
    (left_read f c.args.flash.now w.flash P tells stays.reads (inl (keeps_boot_same (geometry_of bank) x (c.requires.works.lent.fits tells).sound)))
    (weaker f.moment f.left_since w.flash c.forget.new.flash (KeepsBoot (geometry_of w.bank) (f.contents w.flash)) P
    (λ y leaves. inl (leaves_moved bank w.bank x y stays.same_bank (subst (λ (from : List ℕ). KeepsBoot (geometry_of w.bank) from y) (stays.reads.same tells) leaves)))
    (c.in_err-forget-in-Some.ensures.left tells))

pub returns-in_err-forget-in-Some-clause-same_bank : goal.returns-in_err-forget-in-Some-clause-same_bank
returns-in_err-forget-in-Some-clause-same_bank g c =
    unless_from c.from_residual-in_err-forget-in-Some.result _
    (banks_joined c.args.bank.now c.first_wrong.new.bank c.forget.new.bank c.first_wrong.ensures.stays.same_bank c.in_err-forget-in-Some.ensures.same_bank)

pub returns-in_err-forget-in-Some-clause-no_more : goal.returns-in_err-forget-in-Some-clause-no_more
returns-in_err-forget-in-Some-clause-no_more g c = λ tells.
    let f = g.F.Flash in
    let bank = c.args.bank.now in
    let w = c.first_wrong.new in
    let x = f.contents c.args.flash.now in
    let stays = c.first_wrong.ensures.stays in
    no_more_moved bank w.bank x (f.contents c.forget.new.flash) stays.same_bank
    (subst (λ (from : List ℕ). HoldsNoMore (geometry_of w.bank) from (f.contents c.forget.new.flash)) (stays.reads.same tells) (c.in_err-forget-in-Some.ensures.no_more tells))

pub returns-in_err-forget-in-Some-clause-no_more_left : goal.returns-in_err-forget-in-Some-clause-no_more_left
returns-in_err-forget-in-Some-clause-no_more_left g c = λ tells.
    let f = g.F.Flash in
    let bank = c.args.bank.now in
    let w = c.first_wrong.new in
    let x = f.contents c.args.flash.now in
    let stays = c.first_wrong.ensures.stays in
    let P : List ℕ → Type 0 = HoldsNoMore (geometry_of bank) x in
    joined f.moment f.left_since c.args.flash.now w.flash c.forget.new.flash P
    (left_read f c.args.flash.now w.flash P tells stays.reads (same_no_more (geometry_of bank) x))
    (weaker f.moment f.left_since w.flash c.forget.new.flash (HoldsNoMore (geometry_of w.bank) (f.contents w.flash)) P
    (λ y leaves. no_more_moved bank w.bank x y stays.same_bank (subst (λ (from : List ℕ). HoldsNoMore (geometry_of w.bank) from y) (stays.reads.same tells) leaves))
    (c.in_err-forget-in-Some.ensures.no_more_left tells))

pub returns-in_err-forget-in-Some-clause-staging : goal.returns-in_err-forget-in-Some-clause-staging
returns-in_err-forget-in-Some-clause-staging g c = λ tells keeps fills filled holds.
    let choice = c.args.choice.now in
    let has = g.S.Stage.has c.args.stage.now in
    let is = at_some _ _ c.in_ok-wrong.field-0 c.in-Some.wrong c.in-Some.is (c.in_ok-wrong.ensures.wrong tells fills filled holds) in
    let count : missing_below has choice.plan.places ≡ c.missing.result = ap (λ (o : Outline). missing_below has o.places) (sym c.requires.works.planned) ∙ sym c.missing.ensures in
    let whole : missing_below has choice.plan.places ≡ 0 = omega (arith, count, c.if-missing-gt0.false) in
    let wrong = wrong_group choice fills is.0 c.in-Some.wrong (none_missing choice.plan fills has filled whole) is.1 is.2 in
    inr (inl wrong)

pub returns-in_err-forget-in-Some-clause-staging_left : goal.returns-in_err-forget-in-Some-clause-staging_left
returns-in_err-forget-in-Some-clause-staging_left g c = λ tells keeps fills filled holds.
    let choice = c.args.choice.now in
    let has = g.S.Stage.has c.args.stage.now in
    let is = at_some _ _ c.in_ok-wrong.field-0 c.in-Some.wrong c.in-Some.is (c.in_ok-wrong.ensures.wrong tells fills filled holds) in
    let count : missing_below has choice.plan.places ≡ c.missing.result = ap (λ (o : Outline). missing_below has o.places) (sym c.requires.works.planned) ∙ sym c.missing.ensures in
    let whole : missing_below has choice.plan.places ≡ 0 = omega (arith, count, c.if-missing-gt0.false) in
    let wrong = wrong_group choice fills is.0 c.in-Some.wrong (none_missing choice.plan fills has filled whole) is.1 is.2 in
    let f = g.F.Flash in
    let w = c.first_wrong.new in
    let x = f.contents c.args.flash.now in
    let P : List ℕ → Type 0 = StagingLeaves 0 c.args.choice.now fills c.args.bank.now x in
    joined f.moment f.left_since c.args.flash.now w.flash c.forget.new.flash P
    (left_read f c.args.flash.now w.flash P tells c.first_wrong.ensures.stays.reads (leaves_same c.args.choice.now fills c.args.bank.now x))
    (weaker f.moment f.left_since w.flash c.forget.new.flash (KeepsBoot (geometry_of w.bank) (f.contents w.flash)) P (λ y leaves. inr (inl wrong)) (c.in_err-forget-in-Some.ensures.left tells))

pub returns-in-None-clause-settled : goal.returns-in-None-clause-settled
returns-in-None-clause-settled g c = λ tells fills filled holds.
    let s = g.S.Stage in
    let f = g.F.Flash in
    let w = c.first_wrong.new in
    let choice = c.args.choice.now in
    let plan = choice.plan in
    let stays = c.first_wrong.ensures.stays in
    let right = none_wrong choice fills (at_none _ _ c.in_ok-wrong.field-0 c.in-None.is (c.in_ok-wrong.ensures.wrong tells fills filled holds)) in
    let filled' = filled_stays s f plan fills c.args.stage.now w.stage c.args.bank.now w.bank c.args.flash.now w.flash stays filled in
    let holds' = holds_stays s f plan fills c.args.stage.now w.stage c.args.bank.now w.bank c.args.flash.now w.flash tells stays holds in
    let y = f.contents c.install.new.flash in
    let P : List ℕ → Type 0 = λ x. IfOk c.install.result (λ answer. IfSome answer (Settles choice fills w.bank x y)) in
    if_ok _ _ c.install.result (λ answer. answer_moved choice fills c.args.bank.now w.bank (f.contents c.args.flash.now) y answer stays.same_bank)
    (subst P (stays.reads.same tells) (c.install.ensures.settled tells fills filled' holds' right))

pub returns-in-None-clause-held : goal.returns-in-None-clause-held
returns-in-None-clause-held g c = λ tells fills filled holds.
    let s = g.S.Stage in
    let f = g.F.Flash in
    let w = c.first_wrong.new in
    let choice = c.args.choice.now in
    let plan = choice.plan in
    let stays = c.first_wrong.ensures.stays in
    let right = none_wrong choice fills (at_none _ _ c.in_ok-wrong.field-0 c.in-None.is (c.in_ok-wrong.ensures.wrong tells fills filled holds)) in
    let filled' = filled_stays s f plan fills c.args.stage.now w.stage c.args.bank.now w.bank c.args.flash.now w.flash stays filled in
    let holds' = holds_stays s f plan fills c.args.stage.now w.stage c.args.bank.now w.bank c.args.flash.now w.flash tells stays holds in
    let y = f.contents c.install.new.flash in
    let P : List ℕ → Type 0 = λ x. SettlingLeaves choice fills w.bank x y in
    settling_moved choice fills c.args.bank.now w.bank (f.contents c.args.flash.now) y stays.same_bank
    (subst P (stays.reads.same tells) (c.install.ensures.held tells fills filled' holds' right))

pub returns-in-None-clause-left : goal.returns-in-None-clause-left
returns-in-None-clause-left g c = λ tells fills filled holds.
    let s = g.S.Stage in
    let f = g.F.Flash in
    let w = c.first_wrong.new in
    let choice = c.args.choice.now in
    let plan = choice.plan in
    let bank = c.args.bank.now in
    let x = f.contents c.args.flash.now in
    let stays = c.first_wrong.ensures.stays in
    let right = none_wrong choice fills (at_none _ _ c.in_ok-wrong.field-0 c.in-None.is (c.in_ok-wrong.ensures.wrong tells fills filled holds)) in
    let filled' = filled_stays s f plan fills c.args.stage.now w.stage bank w.bank c.args.flash.now w.flash stays filled in
    let holds' = holds_stays s f plan fills c.args.stage.now w.stage bank w.bank c.args.flash.now w.flash tells stays holds in
    let P : List ℕ → Type 0 = SettlingLeaves choice fills bank x in
    let Q : List ℕ → List ℕ → Type 0 = λ from y. SettlingLeaves choice fills w.bank from y in
    joined f.moment f.left_since c.args.flash.now w.flash c.install.new.flash P
    (left_read f c.args.flash.now w.flash P tells stays.reads (inl (keeps_boot_same (geometry_of bank) x (c.requires.works.lent.fits tells).sound)))
    (weaker f.moment f.left_since w.flash c.install.new.flash (Q (f.contents w.flash)) P
    (λ y leaves. settling_moved choice fills bank w.bank x y stays.same_bank (subst (λ (from : List ℕ). Q from y) (stays.reads.same tells) leaves))
    (c.install.ensures.left tells fills filled' holds' right))

pub returns-in-None-clause-no_more : goal.returns-in-None-clause-no_more
returns-in-None-clause-no_more g c = λ tells.
    let f = g.F.Flash in
    let w = c.first_wrong.new in
    let stays = c.first_wrong.ensures.stays in
    let y = f.contents c.install.new.flash in
    no_more_moved c.args.bank.now w.bank (f.contents c.args.flash.now) y stays.same_bank
    (subst (λ (from : List ℕ). HoldsNoMore (geometry_of w.bank) from y) (stays.reads.same tells) (c.install.ensures.no_more tells))

pub returns-in-None-clause-no_more_left : goal.returns-in-None-clause-no_more_left
returns-in-None-clause-no_more_left g c = λ tells.
    let f = g.F.Flash in
    let w = c.first_wrong.new in
    let bank = c.args.bank.now in
    let x = f.contents c.args.flash.now in
    let stays = c.first_wrong.ensures.stays in
    let P : List ℕ → Type 0 = HoldsNoMore (geometry_of bank) x in
    joined f.moment f.left_since c.args.flash.now w.flash c.install.new.flash P
    (left_read f c.args.flash.now w.flash P tells stays.reads (same_no_more (geometry_of bank) x))
    (weaker f.moment f.left_since w.flash c.install.new.flash (HoldsNoMore (geometry_of w.bank) (f.contents w.flash)) P
    (λ y leaves. no_more_moved bank w.bank x y stays.same_bank (subst (λ (from : List ℕ). HoldsNoMore (geometry_of w.bank) from y) (stays.reads.same tells) leaves))
    (c.install.ensures.no_more_left tells))

pub returns-in-None-clause-forgotten : goal.returns-in-None-clause-forgotten
returns-in-None-clause-forgotten g c = λ tells keeps. never_wrong c.install.result _ c.install.ensures.never

pub returns-in-None-clause-staging : goal.returns-in-None-clause-staging
returns-in-None-clause-staging g c = λ tells keeps fills filled holds.
    let s = g.S.Stage in
    let f = g.F.Flash in
    let w = c.first_wrong.new in
    let choice = c.args.choice.now in
    let plan = choice.plan in
    let stays = c.first_wrong.ensures.stays in
    let right = none_wrong choice fills (at_none _ _ c.in_ok-wrong.field-0 c.in-None.is (c.in_ok-wrong.ensures.wrong tells fills filled holds)) in
    let filled' = filled_stays s f plan fills c.args.stage.now w.stage c.args.bank.now w.bank c.args.flash.now w.flash stays filled in
    let holds' = holds_stays s f plan fills c.args.stage.now w.stage c.args.bank.now w.bank c.args.flash.now w.flash tells stays holds in
    let y = f.contents c.install.new.flash in
    let P : List ℕ → Type 0 = λ x. StagingLeaves 0 choice fills w.bank x y in
    staging_moved 0 choice fills c.args.bank.now w.bank (f.contents c.args.flash.now) y stays.same_bank
    (subst P (stays.reads.same tells) (c.install.ensures.staging tells keeps fills filled' holds' right))

pub returns-in-None-clause-staging_left : goal.returns-in-None-clause-staging_left
returns-in-None-clause-staging_left g c = λ tells keeps fills filled holds.
    let s = g.S.Stage in
    let f = g.F.Flash in
    let w = c.first_wrong.new in
    let choice = c.args.choice.now in
    let plan = choice.plan in
    let bank = c.args.bank.now in
    let x = f.contents c.args.flash.now in
    let stays = c.first_wrong.ensures.stays in
    let right = none_wrong choice fills (at_none _ _ c.in_ok-wrong.field-0 c.in-None.is (c.in_ok-wrong.ensures.wrong tells fills filled holds)) in
    let filled' = filled_stays s f plan fills c.args.stage.now w.stage bank w.bank c.args.flash.now w.flash stays filled in
    let holds' = holds_stays s f plan fills c.args.stage.now w.stage bank w.bank c.args.flash.now w.flash tells stays holds in
    let P : List ℕ → Type 0 = StagingLeaves 0 choice fills bank x in
    let Q : List ℕ → List ℕ → Type 0 = λ from y. StagingLeaves 0 choice fills w.bank from y in
    joined f.moment f.left_since c.args.flash.now w.flash c.install.new.flash P
    (left_read f c.args.flash.now w.flash P tells stays.reads (leaves_same choice fills bank x))
    (weaker f.moment f.left_since w.flash c.install.new.flash (Q (f.contents w.flash)) P
    (λ y leaves. staging_moved 0 choice fills bank w.bank x y stays.same_bank (subst (λ (from : List ℕ). Q from y) (stays.reads.same tells) leaves))
    (c.install.ensures.staging_left tells keeps fills filled' holds' right))

pub returns-in_ok-forget-in-Some-clause-group : goal.returns-in_ok-forget-in-Some-clause-group
returns-in_ok-forget-in-Some-clause-group g c = rw c.in-Some.is at c.in_ok-wrong.ensures.differs

pub returns-in_ok-forget-in-Some-clause-whole : goal.returns-in_ok-forget-in-Some-clause-whole
returns-in_ok-forget-in-Some-clause-whole g c = λ fills filled.
    let plan = c.args.choice.now.plan in
    let has = g.S.Stage.has c.args.stage.now in
    let count : missing_below has plan.places ≡ c.missing.result = ap (λ (o : Outline). missing_below has o.places) (sym c.requires.works.planned) ∙ sym c.missing.ensures in
    let whole : missing_below has plan.places ≡ 0 = omega (arith, count, c.if-missing-gt0.false) in
    none_missing plan fills has filled whole

pub returns-in-None-clause-whole : goal.returns-in-None-clause-whole
returns-in-None-clause-whole g c = λ fills filled.
    let plan = c.args.choice.now.plan in
    let has = g.S.Stage.has c.args.stage.now in
    let count : missing_below has plan.places ≡ c.missing.result = ap (λ (o : Outline). missing_below has o.places) (sym c.requires.works.planned) ∙ sym c.missing.ensures in
    let whole : missing_below has plan.places ≡ 0 = omega (arith, count, c.if-missing-gt0.false) in
    if_ok _ _ c.install.result (λ answer. some_one answer _ _ (λ verdict of_group. none_missing plan fills has filled whole)) c.install.ensures.group

pub returns-in-None-clause-same_bank : goal.returns-in-None-clause-same_bank
returns-in-None-clause-same_bank g c =
    let w = c.first_wrong.new.bank in
    unless_one c.install.result _ _ (banks_joined c.args.bank.now w c.install.new.bank c.first_wrong.ensures.stays.same_bank) c.install.ensures.same_bank

pub returns-in_ok-forget-in-Some-clause-no_prev : goal.returns-in_ok-forget-in-Some-clause-no_prev
returns-in_ok-forget-in-Some-clause-no_prev g c = λ tells in_bank.
    let f = g.F.Flash in
    let bank = c.args.bank.now in
    let works = c.requires.works in
    let w = c.first_wrong.new in
    let stays = c.first_wrong.ensures.stays in
    let y = f.contents c.forget.new.flash in
    no_prev_left bank w.bank (f.contents c.args.flash.now) (f.contents w.flash) y (works.lent.fits tells) (g.met.S.Stage.in_bank_begun in_bank c.args.stage.now bank works.ready) stays.same_bank (stays.reads.same tells)
    (c.in_ok-forget-in-Some.ensures.held tells)

pub returns-in-None-clause-no_prev : goal.returns-in-None-clause-no_prev
returns-in-None-clause-no_prev g c = λ tells in_bank. never_wrong c.install.result _ c.install.ensures.never
