use Rattle.std.proofs.Common.{ℕ, List, inl, inr, sym, subst, ◌∙◌, ap}
use Rattle.std.specs.Prelude.{IfOk}
use Rattle.bank_kept.specs.Leaving.{HoldsNoMore, KeepsStaged}
use Rattle.flash_bank.specs.Bank.{geometry_of, len_of}
use Rattle.flash_bank.specs.Leaving.{KeepsBoot}
use Rattle.flash_bank.specs.declared.bank.Bank.{Bank}
use Rattle.flash_dev.proofs.Moments.{joined, weaker}
use Rattle.flash_layout.specs.Layout.{Geometry}
use Rattle.flash_stage.specs.Keeping.{HasWholeMargin, IsPlanOfMessage, StagesNone}
use Rattle.flash_stage.proofs.KeptLaws.{joined_no_more}
use Rattle.flash_stage.proofs.LeavingLaws.{banks_joined}
use Rattle.ssu_loader.specs.Collecting.{HasFilled, HoldsFilling}
use Rattle.ssu_loader.specs.Leaving.{IfBadModule}
use Rattle.ssu_loader.specs.Storing.{HasNoPrev}
use Rattle.ssu_loader.specs.Settling.{SettlingLeaves}
use Rattle.ssu_loader.specs.Staging.{IsStagedGroup, StagingLeaves}
use Rattle.ssu_loader.specs.Starting.{KeepsAtStart}
use Rattle.ssu_loader.proofs.AnsweringLaws.{both_if_ok, if_ok, none_one, none_two}
use Rattle.ssu_loader.proofs.FillingLaws.{filled_includes}
use Rattle.ssu_loader.proofs.SettlingLaws.{answer_moved, settles_joined, settling_joined, settling_moved}
use Rattle.ssu_loader.proofs.StagedLaws.{no_more_moved, staging_joined, staging_moved}
use Rattle.ssu_loader.proofs.StartingLaws.{starts_filled, starts_holding}
use Rattle.ssu_loader.proofs.UnlessLaws.{unless_one}
use Rattle.ssu_loader.proofs.gather.start.Goals as goal

pub returns-clause-message : goal.returns-clause-message
returns-clause-message g c = λ keeps.
    if_ok _ _ c.settle.result (λ answer. none_one answer _ _ (λ same. ap g.S.Stage.message_of same.0 ∙ (c.in_ok-start.ensures.message keeps ∙ c.as_slice.ensures.value))) c.settle.ensures.same

pub returns-clause-filled : goal.returns-clause-filled
returns-clause-filled g c = λ fills known start.
    let own = subst (λ (m : List ℕ). KeepsAtStart g.S.Stage g.F.Flash m c.args.choice.now.plan fills c.args.bank.now c.args.flash.now) (sym c.as_slice.ensures.value) start in
    let s = g.S.Stage in
    let plan = c.args.choice.now.plan in
    let filled = starts_filled s g.F.Flash c.as_slice.result.now plan fills c.args.bank.now c.args.flash.now own c.start.new.self known c.in_ok-start.ensures.empty c.in_ok-start.ensures.kept in
    both_if_ok _ _ _ c.settle.result (λ answer. none_two answer _ _ _ (λ same some.
    (subst (λ (stage : g.row.S.Denot). HasFilled s plan fills stage) (sym same.0) filled, some)))
    c.settle.ensures.same (c.settle.ensures.missing fills (filled_includes plan (s.has c.start.new.self) fills filled))

pub returns-clause-whole : goal.returns-clause-whole
returns-clause-whole g c = λ fills known start.
    let own = subst (λ (m : List ℕ). KeepsAtStart g.S.Stage g.F.Flash m c.args.choice.now.plan fills c.args.bank.now c.args.flash.now) (sym c.as_slice.ensures.value) start in
    c.settle.ensures.whole fills
    (starts_filled g.S.Stage g.F.Flash c.as_slice.result.now c.args.choice.now.plan fills c.args.bank.now c.args.flash.now own c.start.new.self known c.in_ok-start.ensures.empty c.in_ok-start.ensures.kept)

pub returns-clause-bytes : goal.returns-clause-bytes
returns-clause-bytes g c = λ tells fills start.
    let own = subst (λ (m : List ℕ). KeepsAtStart g.S.Stage g.F.Flash m c.args.choice.now.plan fills c.args.bank.now c.args.flash.now) (sym c.as_slice.ensures.value) start in
    let of_message = subst (λ (m : List ℕ). IsPlanOfMessage (len_of c.args.bank.now) m c.args.choice.now.plan) (sym c.as_slice.ensures.value) c.requires.of_message in
    let s = g.S.Stage in
    let f = g.F.Flash in
    let t = c.start.new in
    let plan = c.args.choice.now.plan in
    let holds = starts_holding s f c.as_slice.result.now plan fills c.args.bank.now c.args.flash.now own t.self t.bank (f.contents t.flash) _ tells (c.requires.lent.fits tells)
    of_message (c.in_ok-start.ensures.kept_bytes tells) in
    if_ok _ _ c.settle.result (λ answer. none_one answer _ _ (λ same.
    subst (λ (stage : g.row.S.Denot). HoldsFilling s plan fills stage c.settle.new.bank (f.contents c.settle.new.flash)) (sym same.0)
    (subst (λ (bank : Bank). HoldsFilling s plan fills t.self bank (f.contents c.settle.new.flash)) (sym same.1)
    (subst (λ (flash : g.row.F.Denot). HoldsFilling s plan fills t.self t.bank (f.contents flash)) (sym same.2) holds))))
    c.settle.ensures.same

pub returns-clause-kept : goal.returns-clause-kept
returns-clause-kept g c = λ tells.
    let f = g.F.Flash in
    let bank = c.args.bank.now in
    let x = f.contents c.args.flash.now in
    if_ok _ _ c.settle.result (λ answer. none_one answer _ _ (λ same.
    subst (λ (flash : g.row.F.Denot). KeepsBoot (geometry_of bank) x (f.contents flash)) (sym same.2) (c.in_ok-start.ensures.held tells)))
    c.settle.ensures.same

pub returns-clause-settled : goal.returns-clause-settled
returns-clause-settled g c = λ tells fills start.
    let own = subst (λ (m : List ℕ). KeepsAtStart g.S.Stage g.F.Flash m c.args.choice.now.plan fills c.args.bank.now c.args.flash.now) (sym c.as_slice.ensures.value) start in
    let of_message = subst (λ (m : List ℕ). IsPlanOfMessage (len_of c.args.bank.now) m c.args.choice.now.plan) (sym c.as_slice.ensures.value) c.requires.of_message in
    let s = g.S.Stage in
    let f = g.F.Flash in
    let t = c.start.new in
    let bank = c.args.bank.now in
    let choice = c.args.choice.now in
    let x = f.contents c.args.flash.now in
    let y = f.contents t.flash in
    let z = f.contents c.settle.new.flash in
    let filled = starts_filled s f c.as_slice.result.now choice.plan fills bank c.args.flash.now own t.self (inr tells) c.in_ok-start.ensures.empty c.in_ok-start.ensures.kept in
    let holds = starts_holding s f c.as_slice.result.now choice.plan fills bank c.args.flash.now own t.self t.bank y _ tells (c.requires.lent.fits tells)
    of_message (c.in_ok-start.ensures.kept_bytes tells) in
    if_ok _ _ c.settle.result (λ answer settles.
    settles_joined choice fills bank x y z answer (c.requires.lent.fits tells) (c.in_ok-start.ensures.held tells)
    (answer_moved choice fills bank t.bank y z answer c.in_ok-start.ensures.same_bank settles))
    (c.settle.ensures.settled tells fills filled holds)

pub returns-in_err-start-clause-held : goal.returns-in_err-start-clause-held
returns-in_err-start-clause-held g c = λ tells fills start.
    inl (c.in_err-start.ensures.held tells)

pub returns-in_err-start-clause-left : goal.returns-in_err-start-clause-left
returns-in_err-start-clause-left g c = λ tells fills start.
    let f = g.F.Flash in
    let bank = c.args.bank.now in
    let x = f.contents c.args.flash.now in
    weaker f.moment f.left_since c.args.flash.now c.start.new.flash (KeepsBoot (geometry_of bank) x) (SettlingLeaves c.args.choice.now fills bank x)
    (λ z leaves. inl leaves) (c.in_err-start.ensures.left tells)

pub returns-clause-held : goal.returns-clause-held
returns-clause-held g c = λ tells fills start.
    let own = subst (λ (m : List ℕ). KeepsAtStart g.S.Stage g.F.Flash m c.args.choice.now.plan fills c.args.bank.now c.args.flash.now) (sym c.as_slice.ensures.value) start in
    let of_message = subst (λ (m : List ℕ). IsPlanOfMessage (len_of c.args.bank.now) m c.args.choice.now.plan) (sym c.as_slice.ensures.value) c.requires.of_message in
    let s = g.S.Stage in
    let f = g.F.Flash in
    let t = c.start.new in
    let bank = c.args.bank.now in
    let choice = c.args.choice.now in
    let x = f.contents c.args.flash.now in
    let y = f.contents t.flash in
    let z = f.contents c.settle.new.flash in
    let filled = starts_filled s f c.as_slice.result.now choice.plan fills bank c.args.flash.now own t.self (inr tells) c.in_ok-start.ensures.empty c.in_ok-start.ensures.kept in
    let holds = starts_holding s f c.as_slice.result.now choice.plan fills bank c.args.flash.now own t.self t.bank y _ tells (c.requires.lent.fits tells)
    of_message (c.in_ok-start.ensures.kept_bytes tells) in
    settling_joined choice fills bank x y z (c.requires.lent.fits tells) (c.in_ok-start.ensures.held tells)
    (settling_moved choice fills bank t.bank y z c.in_ok-start.ensures.same_bank (c.settle.ensures.held tells fills filled holds))

pub returns-clause-left : goal.returns-clause-left
returns-clause-left g c = λ tells fills start.
    let own = subst (λ (m : List ℕ). KeepsAtStart g.S.Stage g.F.Flash m c.args.choice.now.plan fills c.args.bank.now c.args.flash.now) (sym c.as_slice.ensures.value) start in
    let of_message = subst (λ (m : List ℕ). IsPlanOfMessage (len_of c.args.bank.now) m c.args.choice.now.plan) (sym c.as_slice.ensures.value) c.requires.of_message in
    let s = g.S.Stage in
    let f = g.F.Flash in
    let t = c.start.new in
    let bank = c.args.bank.now in
    let choice = c.args.choice.now in
    let x = f.contents c.args.flash.now in
    let y = f.contents t.flash in
    let filled = starts_filled s f c.as_slice.result.now choice.plan fills bank c.args.flash.now own t.self (inr tells) c.in_ok-start.ensures.empty c.in_ok-start.ensures.kept in
    let holds = starts_holding s f c.as_slice.result.now choice.plan fills bank c.args.flash.now own t.self t.bank y _ tells (c.requires.lent.fits tells)
    of_message (c.in_ok-start.ensures.kept_bytes tells) in
    let P : List ℕ → Type 0 = SettlingLeaves choice fills bank x in
    joined f.moment f.left_since c.args.flash.now t.flash c.settle.new.flash P
    (weaker f.moment f.left_since c.args.flash.now t.flash (KeepsBoot (geometry_of bank) x) P (λ z leaves. inl leaves) (c.in_ok-start.ensures.left tells))
    (weaker f.moment f.left_since t.flash c.settle.new.flash (SettlingLeaves choice fills t.bank y) P
    (λ z leaves. settling_joined choice fills bank x y z (c.requires.lent.fits tells) (c.in_ok-start.ensures.held tells)
    (settling_moved choice fills bank t.bank y z c.in_ok-start.ensures.same_bank leaves))
    (c.settle.ensures.left tells fills filled holds))

pub returns-clause-same_bank : goal.returns-clause-same_bank
returns-clause-same_bank g c =
    let t = c.start.new.bank in
    unless_one c.settle.result _ _ (banks_joined c.args.bank.now t c.settle.new.bank c.in_ok-start.ensures.same_bank) c.settle.ensures.same_bank

-- ---- what is held and staged

pub returns-clause-forgotten : goal.returns-clause-forgotten
returns-clause-forgotten g c = λ tells keeps.
    let y = g.F.Flash.contents c.settle.new.flash in
    subst (λ (blocks : Geometry). IfOk c.settle.result (λ answer. IfBadModule answer (StagesNone blocks y))) c.in_ok-start.ensures.same_bank.geometry
    (c.settle.ensures.forgotten tells keeps)

pub returns-clause-no_more : goal.returns-clause-no_more
returns-clause-no_more g c = λ tells.
    let f = g.F.Flash in
    let t = c.start.new in
    let bank = c.args.bank.now in
    let y = f.contents t.flash in
    let z = f.contents c.settle.new.flash in
    joined_no_more (geometry_of bank) (f.contents c.args.flash.now) y z (c.in_ok-start.ensures.no_more tells)
    (no_more_moved bank t.bank y z c.in_ok-start.ensures.same_bank (c.settle.ensures.no_more tells))

pub returns-clause-no_more_left : goal.returns-clause-no_more_left
returns-clause-no_more_left g c = λ tells.
    let f = g.F.Flash in
    let t = c.start.new in
    let bank = c.args.bank.now in
    let x = f.contents c.args.flash.now in
    let y = f.contents t.flash in
    let P : List ℕ → Type 0 = HoldsNoMore (geometry_of bank) x in
    joined f.moment f.left_since c.args.flash.now t.flash c.settle.new.flash P (c.in_ok-start.ensures.no_more_left tells)
    (weaker f.moment f.left_since t.flash c.settle.new.flash (HoldsNoMore (geometry_of t.bank) y) P
    (λ z leaves. joined_no_more (geometry_of bank) x y z (c.in_ok-start.ensures.no_more tells)
    (no_more_moved bank t.bank y z c.in_ok-start.ensures.same_bank leaves))
    (c.settle.ensures.no_more_left tells))

pub returns-clause-resumed : goal.returns-clause-resumed
returns-clause-resumed g c = λ tells keeps group.
    let staged = subst (IsStagedGroup (geometry_of c.args.bank.now) (g.F.Flash.contents c.args.flash.now)) (sym c.as_slice.ensures.value) group in
    let f = g.F.Flash in
    let blocks = geometry_of c.args.bank.now in
    let x = f.contents c.args.flash.now in
    if_ok _ _ c.settle.result (λ answer. none_one answer _ _ (λ same.
    subst (λ (flash : g.row.F.Denot). KeepsStaged blocks 0 0 x (f.contents flash)) (sym same.2) (c.in_ok-start.ensures.resumed tells keeps staged.0 staged.1)))
    c.settle.ensures.same

pub returns-clause-fresh : goal.returns-clause-fresh
returns-clause-fresh g c = λ tells keeps other.
    let f = g.F.Flash in
    let blocks = geometry_of c.args.bank.now in
    if_ok _ _ c.settle.result (λ answer. none_one answer _ _ (λ same.
    subst (λ (flash : g.row.F.Denot). HasWholeMargin blocks (f.contents flash)) (sym same.2) (c.in_ok-start.ensures.fresh tells keeps (λ dii group. other (subst (IsStagedGroup blocks (f.contents c.args.flash.now)) c.as_slice.ensures.value (dii, group))))))
    c.settle.ensures.same

pub returns-in_err-start-clause-staging : goal.returns-in_err-start-clause-staging
returns-in_err-start-clause-staging g c = λ tells keeps group fills start.
    let staged = subst (IsStagedGroup (geometry_of c.args.bank.now) (g.F.Flash.contents c.args.flash.now)) (sym c.as_slice.ensures.value) group in
    inl (c.in_err-start.ensures.resumed tells keeps staged.0 staged.1)

pub returns-in_err-start-clause-staging_left : goal.returns-in_err-start-clause-staging_left
returns-in_err-start-clause-staging_left g c = λ tells keeps group fills start.
    let staged = subst (IsStagedGroup (geometry_of c.args.bank.now) (g.F.Flash.contents c.args.flash.now)) (sym c.as_slice.ensures.value) group in
    let f = g.F.Flash in
    let bank = c.args.bank.now in
    let x = f.contents c.args.flash.now in
    weaker f.moment f.left_since c.args.flash.now c.start.new.flash (KeepsStaged (geometry_of bank) 0 0 x) (StagingLeaves 0 c.args.choice.now fills bank x)
    (λ z leaves. inl leaves) (c.in_err-start.ensures.resumed_left tells keeps staged.0 staged.1)

pub returns-clause-staging : goal.returns-clause-staging
returns-clause-staging g c = λ tells keeps group fills start.
    let own = subst (λ (m : List ℕ). KeepsAtStart g.S.Stage g.F.Flash m c.args.choice.now.plan fills c.args.bank.now c.args.flash.now) (sym c.as_slice.ensures.value) start in
    let of_message = subst (λ (m : List ℕ). IsPlanOfMessage (len_of c.args.bank.now) m c.args.choice.now.plan) (sym c.as_slice.ensures.value) c.requires.of_message in
    let staged = subst (IsStagedGroup (geometry_of c.args.bank.now) (g.F.Flash.contents c.args.flash.now)) (sym c.as_slice.ensures.value) group in
    let s = g.S.Stage in
    let f = g.F.Flash in
    let t = c.start.new in
    let bank = c.args.bank.now in
    let choice = c.args.choice.now in
    let x = f.contents c.args.flash.now in
    let y = f.contents t.flash in
    let z = f.contents c.settle.new.flash in
    let filled = starts_filled s f c.as_slice.result.now choice.plan fills bank c.args.flash.now own t.self (inr tells) c.in_ok-start.ensures.empty c.in_ok-start.ensures.kept in
    let holds = starts_holding s f c.as_slice.result.now choice.plan fills bank c.args.flash.now own t.self t.bank y _ tells (c.requires.lent.fits tells)
    of_message (c.in_ok-start.ensures.kept_bytes tells) in
    staging_joined 0 choice fills bank x y z (c.requires.lent.fits tells) (c.in_ok-start.ensures.held tells) (c.in_ok-start.ensures.resumed tells keeps staged.0 staged.1)
    (staging_moved 0 choice fills bank t.bank y z c.in_ok-start.ensures.same_bank (c.settle.ensures.staging tells keeps fills filled holds))

pub returns-clause-staging_left : goal.returns-clause-staging_left
returns-clause-staging_left g c = λ tells keeps group fills start.
    let own = subst (λ (m : List ℕ). KeepsAtStart g.S.Stage g.F.Flash m c.args.choice.now.plan fills c.args.bank.now c.args.flash.now) (sym c.as_slice.ensures.value) start in
    let of_message = subst (λ (m : List ℕ). IsPlanOfMessage (len_of c.args.bank.now) m c.args.choice.now.plan) (sym c.as_slice.ensures.value) c.requires.of_message in
    let staged = subst (IsStagedGroup (geometry_of c.args.bank.now) (g.F.Flash.contents c.args.flash.now)) (sym c.as_slice.ensures.value) group in
    let s = g.S.Stage in
    let f = g.F.Flash in
    let t = c.start.new in
    let bank = c.args.bank.now in
    let choice = c.args.choice.now in
    let x = f.contents c.args.flash.now in
    let y = f.contents t.flash in
    let filled = starts_filled s f c.as_slice.result.now choice.plan fills bank c.args.flash.now own t.self (inr tells) c.in_ok-start.ensures.empty c.in_ok-start.ensures.kept in
    let holds = starts_holding s f c.as_slice.result.now choice.plan fills bank c.args.flash.now own t.self t.bank y _ tells (c.requires.lent.fits tells)
    of_message (c.in_ok-start.ensures.kept_bytes tells) in
    let P : List ℕ → Type 0 = StagingLeaves 0 choice fills bank x in
    joined f.moment f.left_since c.args.flash.now t.flash c.settle.new.flash P
    (weaker f.moment f.left_since c.args.flash.now t.flash (KeepsStaged (geometry_of bank) 0 0 x) P (λ z leaves. inl leaves) (c.in_ok-start.ensures.resumed_left tells keeps staged.0 staged.1))
    (weaker f.moment f.left_since t.flash c.settle.new.flash (StagingLeaves 0 choice fills t.bank y) P
    (λ z leaves. staging_joined 0 choice fills bank x y z (c.requires.lent.fits tells) (c.in_ok-start.ensures.held tells) (c.in_ok-start.ensures.resumed tells keeps staged.0 staged.1)
    (staging_moved 0 choice fills bank t.bank y z c.in_ok-start.ensures.same_bank leaves))
    (c.settle.ensures.staging_left tells keeps fills filled holds))

pub returns-clause-no_prev : goal.returns-clause-no_prev
returns-clause-no_prev g c = λ tells in_bank.
    let y = g.F.Flash.contents c.settle.new.flash in
    subst (λ (blocks : Geometry). IfOk c.settle.result (λ answer. IfBadModule answer (HasNoPrev blocks y))) c.in_ok-start.ensures.same_bank.geometry
    (c.settle.ensures.no_prev tells in_bank)
