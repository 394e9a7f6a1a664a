use Rattle.std.proofs.Common.{ℕ, List}
use Rattle.flash_bank.specs.Bank.{current_of, geometry_of}
use Rattle.flash_bank.specs.Record.{next_record}
use Rattle.flash_dev.proofs.Moments.{weaker}
use Rattle.flash_stage.specs.Keeping.{KeepsStagedUnlessInstalled}
use Rattle.flash_stage.specs.Leaving.{FinishLeaves}
use Rattle.flash_stage.specs.Outline.{group_text}
use Rattle.ssu_loader.specs.Settling.{SettlingLeaves}
use Rattle.ssu_loader.proofs.SettlingLaws.{finish_settles, image_is, installs_whole, none_missing}
use Rattle.ssu_loader.specs.Staging.{StagingLeaves}
use Rattle.ssu_loader.proofs.StagedLaws.{both_left, finish_staging}
use Rattle.ssu_loader.proofs.settle.install.Goals as goal

pub returns-in_err-finish-clause-held : goal.returns-in_err-finish-clause-held
returns-in_err-finish-clause-held g c = λ tells fills filled holds right.
    let s = g.S.Stage in
    let x = g.F.Flash.contents c.args.flash.now in
    let text = s.bytes_at c.args.stage.now c.args.bank.now x in
    let plan = c.args.choice.now.plan in
    let has = s.has c.args.stage.now in
    let outline = s.plan_of c.args.stage.now in
    finish_settles c.args.choice.now fills c.args.bank.now x (g.F.Flash.contents c.finish.new.flash) outline (group_text text outline)
    c.requires.works.planned (none_missing plan fills has filled c.requires.whole)
    (image_is plan fills has filled text holds.lengths holds.texts c.requires.whole outline c.requires.works.planned) right (c.in_err-finish.ensures.held tells)

pub returns-in_err-finish-clause-left : goal.returns-in_err-finish-clause-left
returns-in_err-finish-clause-left g c = λ tells fills filled holds right.
    let s = g.S.Stage in
    let f = g.F.Flash in
    let bank = c.args.bank.now in
    let choice = c.args.choice.now in
    let x = f.contents c.args.flash.now in
    let text = s.bytes_at c.args.stage.now bank x in
    let has = s.has c.args.stage.now in
    let outline = s.plan_of c.args.stage.now in
    let P : List ℕ → Type 0 = FinishLeaves (geometry_of bank) (next_record (current_of bank) outline.total choice.software choice.group) (group_text text outline) x in
    weaker f.moment f.left_since c.args.flash.now c.finish.new.flash P (SettlingLeaves choice fills bank x)
    (λ y. finish_settles choice fills bank x y outline (group_text text outline)
    c.requires.works.planned (none_missing choice.plan fills has filled c.requires.whole)
    (image_is choice.plan fills has filled text holds.lengths holds.texts c.requires.whole outline c.requires.works.planned) right)
    (c.in_err-finish.ensures.left tells)

pub returns-clause-settled : goal.returns-clause-settled
returns-clause-settled g c = λ tells fills filled holds right.
    let s = g.S.Stage in
    let x = g.F.Flash.contents c.args.flash.now in
    let text = s.bytes_at c.args.stage.now c.args.bank.now x in
    let plan = c.args.choice.now.plan in
    let has = s.has c.args.stage.now in
    let outline = s.plan_of c.args.stage.now in (
      c.chosen.ensures,
      installs_whole c.args.choice.now fills c.args.bank.now x (g.F.Flash.contents c.finish.new.flash) outline (group_text text outline)
          c.requires.works.planned (none_missing plan fills has filled c.requires.whole)
          (image_is plan fills has filled text holds.lengths holds.texts c.requires.whole outline c.requires.works.planned) right (c.in_ok-finish.ensures.done tells),
    )

pub returns-clause-held : goal.returns-clause-held
returns-clause-held g c = λ tells fills filled holds right.
    let s = g.S.Stage in
    let x = g.F.Flash.contents c.args.flash.now in
    let text = s.bytes_at c.args.stage.now c.args.bank.now x in
    let plan = c.args.choice.now.plan in
    let has = s.has c.args.stage.now in
    let outline = s.plan_of c.args.stage.now in
    finish_settles c.args.choice.now fills c.args.bank.now x (g.F.Flash.contents c.finish.new.flash) outline (group_text text outline)
    c.requires.works.planned (none_missing plan fills has filled c.requires.whole)
    (image_is plan fills has filled text holds.lengths holds.texts c.requires.whole outline c.requires.works.planned) right (c.in_ok-finish.ensures.held tells)

pub returns-clause-left : goal.returns-clause-left
returns-clause-left g c = λ tells fills filled holds right.
    let s = g.S.Stage in
    let f = g.F.Flash in
    let bank = c.args.bank.now in
    let choice = c.args.choice.now in
    let x = f.contents c.args.flash.now in
    let text = s.bytes_at c.args.stage.now bank x in
    let has = s.has c.args.stage.now in
    let outline = s.plan_of c.args.stage.now in
    let P : List ℕ → Type 0 = FinishLeaves (geometry_of bank) (next_record (current_of bank) outline.total choice.software choice.group) (group_text text outline) x in
    weaker f.moment f.left_since c.args.flash.now c.finish.new.flash P (SettlingLeaves choice fills bank x)
    (λ y. finish_settles choice fills bank x y outline (group_text text outline)
    c.requires.works.planned (none_missing choice.plan fills has filled c.requires.whole)
    (image_is choice.plan fills has filled text holds.lengths holds.texts c.requires.whole outline c.requires.works.planned) right)
    (c.in_ok-finish.ensures.left tells)

pub returns-in_err-finish-clause-staging : goal.returns-in_err-finish-clause-staging
returns-in_err-finish-clause-staging g c = λ tells keeps fills filled holds right.
    let s = g.S.Stage in
    let x = g.F.Flash.contents c.args.flash.now in
    let y = g.F.Flash.contents c.finish.new.flash in
    let bank = c.args.bank.now in
    let choice = c.args.choice.now in
    let text = s.bytes_at c.args.stage.now bank x in
    let has = s.has c.args.stage.now in
    let outline = s.plan_of c.args.stage.now in
    finish_staging choice fills bank x y (finish_settles choice fills bank x y outline (group_text text outline)
    c.requires.works.planned (none_missing choice.plan fills has filled c.requires.whole)
    (image_is choice.plan fills has filled text holds.lengths holds.texts c.requires.whole outline c.requires.works.planned) right (c.in_err-finish.ensures.held tells))
    (c.in_err-finish.ensures.staged_held tells keeps)

pub returns-in_err-finish-clause-staging_left : goal.returns-in_err-finish-clause-staging_left
returns-in_err-finish-clause-staging_left g c = λ tells keeps fills filled holds right.
    let s = g.S.Stage in
    let f = g.F.Flash in
    let bank = c.args.bank.now in
    let choice = c.args.choice.now in
    let x = f.contents c.args.flash.now in
    let text = s.bytes_at c.args.stage.now bank x in
    let has = s.has c.args.stage.now in
    let outline = s.plan_of c.args.stage.now in
    let P : List ℕ → Type 0 = FinishLeaves (geometry_of bank) (next_record (current_of bank) outline.total choice.software choice.group) (group_text text outline) x in
    let Q : List ℕ → Type 0 = KeepsStagedUnlessInstalled (geometry_of bank) x in
    weaker f.moment f.left_since c.args.flash.now c.finish.new.flash (λ y. P y × Q y) (StagingLeaves 0 choice fills bank x)
    (λ y both. finish_staging choice fills bank x y (finish_settles choice fills bank x y outline (group_text text outline)
    c.requires.works.planned (none_missing choice.plan fills has filled c.requires.whole)
    (image_is choice.plan fills has filled text holds.lengths holds.texts c.requires.whole outline c.requires.works.planned) right both.0) both.1)
    (both_left f c.args.flash.now c.finish.new.flash P Q (c.in_err-finish.ensures.left tells) (c.in_err-finish.ensures.staged_left tells keeps))

pub returns-clause-staging : goal.returns-clause-staging
returns-clause-staging g c = λ tells keeps fills filled holds right.
    let s = g.S.Stage in
    let x = g.F.Flash.contents c.args.flash.now in
    let y = g.F.Flash.contents c.finish.new.flash in
    let bank = c.args.bank.now in
    let choice = c.args.choice.now in
    let text = s.bytes_at c.args.stage.now bank x in
    let has = s.has c.args.stage.now in
    let outline = s.plan_of c.args.stage.now in
    finish_staging choice fills bank x y (finish_settles choice fills bank x y outline (group_text text outline)
    c.requires.works.planned (none_missing choice.plan fills has filled c.requires.whole)
    (image_is choice.plan fills has filled text holds.lengths holds.texts c.requires.whole outline c.requires.works.planned) right (c.in_ok-finish.ensures.held tells))
    (c.in_ok-finish.ensures.staged_held tells keeps)

pub returns-clause-staging_left : goal.returns-clause-staging_left
returns-clause-staging_left g c = λ tells keeps fills filled holds right.
    let s = g.S.Stage in
    let f = g.F.Flash in
    let bank = c.args.bank.now in
    let choice = c.args.choice.now in
    let x = f.contents c.args.flash.now in
    let text = s.bytes_at c.args.stage.now bank x in
    let has = s.has c.args.stage.now in
    let outline = s.plan_of c.args.stage.now in
    let P : List ℕ → Type 0 = FinishLeaves (geometry_of bank) (next_record (current_of bank) outline.total choice.software choice.group) (group_text text outline) x in
    let Q : List ℕ → Type 0 = KeepsStagedUnlessInstalled (geometry_of bank) x in
    weaker f.moment f.left_since c.args.flash.now c.finish.new.flash (λ y. P y × Q y) (StagingLeaves 0 choice fills bank x)
    (λ y both. finish_staging choice fills bank x y (finish_settles choice fills bank x y outline (group_text text outline)
    c.requires.works.planned (none_missing choice.plan fills has filled c.requires.whole)
    (image_is choice.plan fills has filled text holds.lengths holds.texts c.requires.whole outline c.requires.works.planned) right both.0) both.1)
    (both_left f c.args.flash.now c.finish.new.flash P Q (c.in_ok-finish.ensures.left tells) (c.in_ok-finish.ensures.staged_left tells keeps))
