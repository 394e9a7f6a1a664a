use Rattle.std.proofs.Common.{ℕ, List, inl, sym, ap, subst, ◌∙◌}
use Rattle.std.specs.Prelude.{IfOk}
use Rattle.bank_kept.specs.Leaving.{HoldsNoMore, KeepsStaged}
use Rattle.flash_bank.specs.Bank.{geometry_of}
use Rattle.flash_bank.specs.Leaving.{KeepsBoot}
use Rattle.flash_bank.specs.declared.bank.Bank.{Bank}
use Rattle.ssu_group.specs.Carried.{with_section}
use Rattle.flash_layout.specs.Layout.{Geometry}
use Rattle.flash_stage.specs.Keeping.{StagesNone}
use Rattle.flash_dev.proofs.Moments.{joined, weaker}
use Rattle.ssu_loader.specs.Collecting.{HasFilled, HoldsFilling, IncludesFilled}
use Rattle.ssu_loader.specs.Leaving.{IfBadModule}
use Rattle.ssu_loader.specs.Storing.{HasNoPrev}
use Rattle.ssu_loader.specs.Settling.{SettlingLeaves}
use Rattle.ssu_loader.specs.Staging.{HoldsWithSection, StagingLeaves}
use Rattle.ssu_loader.proofs.AnsweringLaws.{both_if_ok, if_ok, none_one, none_two}
use Rattle.ssu_loader.proofs.SettlingLaws.{answer_moved, settles_joined, settling_joined, settling_moved}
use Rattle.flash_stage.proofs.LeavingLaws.{banks_joined}
use Rattle.ssu_loader.proofs.FillingLaws.{filled_includes}
use Rattle.ssu_loader.proofs.StagedLaws.{holds_joined, no_more_moved, staging_joined, staging_moved}
use Rattle.ssu_loader.proofs.UnlessLaws.{unless_one}
use Rattle.ssu_loader.proofs.gather.gather.Goals as goal

pub returns-clause-filled : goal.returns-clause-filled
returns-clause-filled g c = λ fills filled.
    let s = g.S.Stage in
    let plan = c.args.choice.now.plan in
    let more = with_section c.args.choice.now.plan c.args.section.now fills in
    let taken = c.in_ok-take_block.ensures.filled fills filled in
    both_if_ok _ _ _ c.settle.result (λ answer. none_two answer _ _ _ (λ same some.
    (subst (λ (stage : g.row.S.Denot). HasFilled s plan more stage) (sym same.0) taken, some)))
    c.settle.ensures.same (c.settle.ensures.missing more (filled_includes plan (s.has c.take_block.new.stage) more taken))

pub returns-clause-includes : goal.returns-clause-includes
returns-clause-includes g c = λ fills includes.
    let s = g.S.Stage in
    let plan = c.args.choice.now.plan in
    let more = with_section c.args.choice.now.plan c.args.section.now fills in
    let taken = c.in_ok-take_block.ensures.includes fills includes in
    both_if_ok _ _ _ c.settle.result (λ answer. none_two answer _ _ _ (λ same some.
    (subst (λ (stage : g.row.S.Denot). IncludesFilled s plan more stage) (sym same.0) taken, some)))
    c.settle.ensures.same (c.settle.ensures.missing more taken)

pub returns-clause-message : goal.returns-clause-message
returns-clause-message g c =
    if_ok _ _ c.settle.result (λ answer. none_one answer _ _ (λ same. ap g.S.Stage.message_of same.0 ∙ c.in_ok-take_block.ensures.message)) c.settle.ensures.same

pub returns-clause-bytes : goal.returns-clause-bytes
returns-clause-bytes g c = λ tells fills filled holds.
    let s = g.S.Stage in
    let f = g.F.Flash in
    let t = c.take_block.new in
    let plan = c.args.choice.now.plan in
    let more = with_section c.args.choice.now.plan c.args.section.now fills in
    let taken = c.in_ok-take_block.ensures.bytes tells fills filled holds in
    if_ok _ _ c.settle.result (λ answer. none_one answer _ _ (λ same.
    subst (λ (stage : g.row.S.Denot). HoldsFilling s plan more stage c.settle.new.bank (f.contents c.settle.new.flash)) (sym same.0)
    (subst (λ (bank : Bank). HoldsFilling s plan more t.stage bank (f.contents c.settle.new.flash)) (sym same.1)
    (subst (λ (flash : g.row.F.Denot). HoldsFilling s plan more t.stage t.bank (f.contents flash)) (sym same.2) taken))))
    c.settle.ensures.same

pub returns-clause-settled : goal.returns-clause-settled
returns-clause-settled g c = λ tells fills filled holds.
    let f = g.F.Flash in
    let t = c.take_block.new in
    let bank = c.args.bank.now in
    let choice = c.args.choice.now in
    let more = with_section c.args.choice.now.plan c.args.section.now fills in
    let x = f.contents c.args.flash.now in
    let y = f.contents t.flash in
    let z = f.contents c.settle.new.flash in
    if_ok _ _ c.settle.result (λ answer settles.
    settles_joined choice more bank x y z answer (c.requires.works.lent.fits tells) (c.in_ok-take_block.ensures.held tells)
    (answer_moved choice more bank t.bank y z answer c.in_ok-take_block.ensures.same_bank settles))
    (c.settle.ensures.settled tells more (c.in_ok-take_block.ensures.filled fills filled) (c.in_ok-take_block.ensures.bytes tells fills filled holds))

pub returns-clause-held : goal.returns-clause-held
returns-clause-held g c = λ tells fills filled holds.
    let f = g.F.Flash in
    let t = c.take_block.new in
    let bank = c.args.bank.now in
    let choice = c.args.choice.now in
    let more = with_section c.args.choice.now.plan c.args.section.now fills in
    let x = f.contents c.args.flash.now in
    let y = f.contents t.flash in
    let z = f.contents c.settle.new.flash in
    settling_joined choice more bank x y z (c.requires.works.lent.fits tells) (c.in_ok-take_block.ensures.held tells)
    (settling_moved choice more bank t.bank y z c.in_ok-take_block.ensures.same_bank
    (c.settle.ensures.held tells more (c.in_ok-take_block.ensures.filled fills filled) (c.in_ok-take_block.ensures.bytes tells fills filled holds)))

pub returns-clause-left : goal.returns-clause-left
returns-clause-left g c = λ tells fills filled holds.
    let f = g.F.Flash in
    let t = c.take_block.new in
    let bank = c.args.bank.now in
    let choice = c.args.choice.now in
    let more = with_section c.args.choice.now.plan c.args.section.now fills in
    let x = f.contents c.args.flash.now in
    let y = f.contents t.flash in
    let P : List ℕ → Type 0 = SettlingLeaves choice more bank x in
    joined f.moment f.left_since c.args.flash.now t.flash c.settle.new.flash P
    (weaker f.moment f.left_since c.args.flash.now t.flash (KeepsBoot (geometry_of bank) x) P (λ z leaves. inl leaves) (c.in_ok-take_block.ensures.left tells))
    (weaker f.moment f.left_since t.flash c.settle.new.flash (SettlingLeaves choice more t.bank y) P
    (λ z leaves. settling_joined choice more bank x y z (c.requires.works.lent.fits tells) (c.in_ok-take_block.ensures.held tells)
    (settling_moved choice more bank t.bank y z c.in_ok-take_block.ensures.same_bank leaves))
    (c.settle.ensures.left tells more (c.in_ok-take_block.ensures.filled fills filled) (c.in_ok-take_block.ensures.bytes tells fills filled holds)))

pub returns-clause-whole : goal.returns-clause-whole
returns-clause-whole g c = λ fills filled. c.settle.ensures.whole (with_section c.args.choice.now.plan c.args.section.now fills) (c.in_ok-take_block.ensures.filled fills filled)

pub returns-in_err-take_block-clause-left : goal.returns-in_err-take_block-clause-left
returns-in_err-take_block-clause-left g c = λ tells fills filled holds.
    let f = g.F.Flash in
    let bank = c.args.bank.now in
    let x = f.contents c.args.flash.now in
    weaker f.moment f.left_since c.args.flash.now c.take_block.new.flash (KeepsBoot (geometry_of bank) x) (SettlingLeaves c.args.choice.now (with_section c.args.choice.now.plan c.args.section.now fills) bank x)
    (λ z leaves. inl leaves) (c.in_err-take_block.ensures.left tells)

pub returns-clause-kept : goal.returns-clause-kept
returns-clause-kept g c = λ tells.
    let f = g.F.Flash in
    let bank = c.args.bank.now in
    let x = f.contents c.args.flash.now in
    if_ok _ _ c.settle.result (λ answer. none_one answer _ _ (λ same.
    subst (λ (flash : g.row.F.Denot). KeepsBoot (geometry_of bank) x (f.contents flash)) (sym same.2) (c.in_ok-take_block.ensures.held tells)))
    c.settle.ensures.same

pub returns-clause-same_bank : goal.returns-clause-same_bank
returns-clause-same_bank g c =
    let t = c.take_block.new.bank in
    unless_one c.settle.result _ _ (banks_joined c.args.bank.now t c.settle.new.bank c.in_ok-take_block.ensures.same_bank) c.settle.ensures.same_bank

pub returns-clause-forgotten : goal.returns-clause-forgotten
returns-clause-forgotten g c = λ tells keeps.
    let y = g.F.Flash.contents c.settle.new.flash in
    subst (λ (blocks : Geometry). IfOk c.settle.result (λ answer. IfBadModule answer (StagesNone blocks y))) c.in_ok-take_block.ensures.same_bank.geometry
    (c.settle.ensures.forgotten tells keeps)

pub returns-clause-one_more : goal.returns-clause-one_more
returns-clause-one_more g c = λ tells.
    let s = g.S.Stage in
    let f = g.F.Flash in
    let t = c.take_block.new in
    let bank = c.args.bank.now in
    let z = f.contents c.settle.new.flash in
    holds_joined s.KEEPS (geometry_of bank) (s.message_of c.args.stage.now) c.args.choice.now.plan c.args.section.now (f.contents c.args.flash.now) (f.contents t.flash) z
    (c.in_ok-take_block.ensures.one_more tells)
    (no_more_moved bank t.bank (f.contents t.flash) z c.in_ok-take_block.ensures.same_bank (c.settle.ensures.no_more tells))

pub returns-clause-one_more_left : goal.returns-clause-one_more_left
returns-clause-one_more_left g c = λ tells.
    let s = g.S.Stage in
    let f = g.F.Flash in
    let t = c.take_block.new in
    let bank = c.args.bank.now in
    let x = f.contents c.args.flash.now in
    let y = f.contents t.flash in
    let message = s.message_of c.args.stage.now in
    let plan = c.args.choice.now.plan in
    let section = c.args.section.now in
    let P : List ℕ → Type 0 = HoldsWithSection s.KEEPS (geometry_of bank) message plan section x in
    joined f.moment f.left_since c.args.flash.now t.flash c.settle.new.flash P (c.in_ok-take_block.ensures.one_more_left tells)
    (weaker f.moment f.left_since t.flash c.settle.new.flash (HoldsNoMore (geometry_of t.bank) y) P
    (λ z leaves. holds_joined s.KEEPS (geometry_of bank) message plan section x y z (c.in_ok-take_block.ensures.one_more tells)
    (no_more_moved bank t.bank y z c.in_ok-take_block.ensures.same_bank leaves))
    (c.settle.ensures.no_more_left tells))

pub returns-clause-staged : goal.returns-clause-staged
returns-clause-staged g c = λ tells keeps.
    let f = g.F.Flash in
    let blocks = geometry_of c.args.bank.now in
    let x = f.contents c.args.flash.now in
    if_ok _ _ c.settle.result (λ answer. none_one answer _ _ (λ same.
    subst (λ (flash : g.row.F.Denot). KeepsStaged blocks 0 0 x (f.contents flash)) (sym same.2) (c.in_ok-take_block.ensures.staged tells keeps)))
    c.settle.ensures.same

pub returns-in_err-take_block-clause-staging : goal.returns-in_err-take_block-clause-staging
returns-in_err-take_block-clause-staging g c = λ tells keeps fills filled holds. inl (c.in_err-take_block.ensures.staged_held tells keeps)

pub returns-in_err-take_block-clause-staging_left : goal.returns-in_err-take_block-clause-staging_left
returns-in_err-take_block-clause-staging_left g c = λ tells keeps fills filled holds.
    let f = g.F.Flash in
    let bank = c.args.bank.now in
    let x = f.contents c.args.flash.now in
    weaker f.moment f.left_since c.args.flash.now c.take_block.new.flash (KeepsStaged (geometry_of bank) 1 1 x)
    (StagingLeaves 1 c.args.choice.now (with_section c.args.choice.now.plan c.args.section.now fills) bank x) (λ z leaves. inl leaves)
    (c.in_err-take_block.ensures.staged_left tells keeps)

pub returns-clause-staging : goal.returns-clause-staging
returns-clause-staging g c = λ tells keeps fills filled holds.
    let f = g.F.Flash in
    let t = c.take_block.new in
    let bank = c.args.bank.now in
    let choice = c.args.choice.now in
    let more = with_section c.args.choice.now.plan c.args.section.now fills in
    let x = f.contents c.args.flash.now in
    let y = f.contents t.flash in
    let z = f.contents c.settle.new.flash in
    staging_joined 1 choice more bank x y z (c.requires.works.lent.fits tells) (c.in_ok-take_block.ensures.held tells) (c.in_ok-take_block.ensures.staged tells keeps)
    (staging_moved 0 choice more bank t.bank y z c.in_ok-take_block.ensures.same_bank
    (c.settle.ensures.staging tells keeps more (c.in_ok-take_block.ensures.filled fills filled) (c.in_ok-take_block.ensures.bytes tells fills filled holds)))

pub returns-clause-staging_left : goal.returns-clause-staging_left
returns-clause-staging_left g c = λ tells keeps fills filled holds.
    let f = g.F.Flash in
    let t = c.take_block.new in
    let bank = c.args.bank.now in
    let choice = c.args.choice.now in
    let more = with_section c.args.choice.now.plan c.args.section.now fills in
    let x = f.contents c.args.flash.now in
    let y = f.contents t.flash in
    let P : List ℕ → Type 0 = StagingLeaves 1 choice more bank x in
    joined f.moment f.left_since c.args.flash.now t.flash c.settle.new.flash P
    (weaker f.moment f.left_since c.args.flash.now t.flash (KeepsStaged (geometry_of bank) 1 1 x) P (λ z leaves. inl leaves) (c.in_ok-take_block.ensures.staged_left tells keeps))
    (weaker f.moment f.left_since t.flash c.settle.new.flash (StagingLeaves 0 choice more t.bank y) P
    (λ z leaves. staging_joined 1 choice more bank x y z (c.requires.works.lent.fits tells) (c.in_ok-take_block.ensures.held tells)
    (c.in_ok-take_block.ensures.staged tells keeps) (staging_moved 0 choice more bank t.bank y z c.in_ok-take_block.ensures.same_bank leaves))
    (c.settle.ensures.staging_left tells keeps more (c.in_ok-take_block.ensures.filled fills filled) (c.in_ok-take_block.ensures.bytes tells fills filled holds)))

pub returns-clause-no_prev : goal.returns-clause-no_prev
returns-clause-no_prev g c = λ tells in_bank.
    let y = g.F.Flash.contents c.settle.new.flash in
    subst (λ (blocks : Geometry). IfOk c.settle.result (λ answer. IfBadModule answer (HasNoPrev blocks y))) c.in_ok-take_block.ensures.same_bank.geometry
    (c.settle.ensures.no_prev tells in_bank)
