use Rattle.std.proofs.Common.{◌≡◌, ◌<◌, ◌≤◌, ℕ, ◌∷◌, true, inl, inr, subst, arith}
use Rattle.flash_bank.proofs.LeavingLemmas.{keeps_boot_same}
use Rattle.flash_bank.specs.Bank.{geometry_of}
use Rattle.flash_dev.proofs.Moments.{weaker}
use Rattle.flash_layout.specs.Layout.{Geometry}
use Rattle.flash_stage.specs.Keeping.{IsPlanOfMessage}
use Rattle.ssu_route.specs.Windows.{beginnings}
use Rattle.ssu_loader.specs.Opening.{fills_at}
use Rattle.ssu_loader.specs.Collecting.{HoldsFilling}
use Rattle.bank_kept.specs.Leaving.{HoldsNoMore}
use Rattle.ssu_loader.specs.Lasting.{Lasts}
use Rattle.ssu_loader.specs.Leaving.{SectionsLeave}
use Rattle.ssu_loader.specs.Life.{HoldsHeard}
use Rattle.ssu_loader.specs.Remaining.{StagesLast}
use Rattle.ssu_loader.specs.Settling.{SettlingLeaves}
use Rattle.ssu_loader.specs.Staging.{IsStagedGroup}
use Rattle.ssu_loader.specs.Starting.{KnowsKept}
use Rattle.ssu_loader.proofs.AnsweringLaws.{both_if_ok, if_ok, inside_if_ok, inside_where_none, none_one, six_where_none, three_if_ok}
use Rattle.ssu_loader.proofs.ChoiceLaws.{begun_stands, choice_fits, none_at, plan_of_message}
use Rattle.ssu_loader.proofs.CollectingLaws.{BegunWith, begun_collects, begun_goes_on, begun_leaves, begun_seen, begun_starts, many_reached, many_seen}
use Rattle.ssu_loader.proofs.DecisionLaws.{few_begin}
use Rattle.ssu_loader.proofs.HoldingLaws.{holds_itself, holds_no_more}
use Rattle.ssu_loader.proofs.LastingLaws.{begun_lasts, begun_lasts_held, begun_lasts_left, lasts_same}
use Rattle.ssu_loader.proofs.LeftLaws.{left_now}
use Rattle.ssu_loader.proofs.MarginLaws.{begun_margin, margin_same}
use Rattle.ssu_loader.proofs.UnlessLaws.{unless_none}
use Rattle.ssu_loader.proofs.collector.Collector.begin.Goals as goal

-- ---- one choice too many

pub returns-then-self-eq-MAX_CHOICES-clause-goes_on : goal.returns-then-self-eq-MAX_CHOICES-clause-goes_on
returns-then-self-eq-MAX_CHOICES-clause-goes_on g c = λ tells me item heard ahead.
    let x = g.F.Flash.contents c.args.flash.now in (
      many_reached g.S.Stage g.F.Flash me item heard c.args.self.now c.args.flash.now ahead c.if-self-eq-MAX_CHOICES.true (inr tells),
      keeps_boot_same (geometry_of c.args.self.now.bank) x (ahead.gathers.lent.fits tells).sound,
    )

pub returns-then-self-eq-MAX_CHOICES-clause-left : goal.returns-then-self-eq-MAX_CHOICES-clause-left
returns-then-self-eq-MAX_CHOICES-clause-left g c = λ tells me item heard ahead.
    let f = g.F.Flash in
    let x = f.contents c.args.flash.now in
    left_now f g.met.F.Flash.only_now c.args.flash.now (SectionsLeave me (item ∷ heard) c.args.self.now.bank x)
    (inl (keeps_boot_same (geometry_of c.args.self.now.bank) x (ahead.gathers.lent.fits tells).sound))

pub returns-then-self-eq-MAX_CHOICES-clause-seen : goal.returns-then-self-eq-MAX_CHOICES-clause-seen
returns-then-self-eq-MAX_CHOICES-clause-seen g c = λ me item heard ahead.
    many_seen g.S.Stage g.F.Flash me item heard c.args.self.now c.args.flash.now ahead c.if-self-eq-MAX_CHOICES.true

-- ---- a choice that began stands

pub returns-in-None-clause-collects : goal.returns-in-None-clause-collects
returns-in-None-clause-collects g c = λ me item heard ahead.
    absurd (begun_stands me item heard ahead.changes (none_at _ c.choice.result c.in-None.is (c.choice.ensures.standing me (item ∷ heard) ahead.stands)))

pub returns-in-None-clause-left : goal.returns-in-None-clause-left
returns-in-None-clause-left g c = λ tells me item heard ahead.
    absurd (begun_stands me item heard ahead.changes (none_at _ c.choice.result c.in-None.is (c.choice.ensures.standing me (item ∷ heard) ahead.stands)))

pub returns-in-None-clause-seen : goal.returns-in-None-clause-seen
returns-in-None-clause-seen g c = λ me item heard ahead.
    absurd (begun_stands me item heard ahead.changes (none_at _ c.choice.result c.in-None.is (c.choice.ensures.standing me (item ∷ heard) ahead.stands)))

pub returns-in-None-clause-too_many : goal.returns-in-None-clause-too_many
returns-in-None-clause-too_many g c = λ me item heard ahead.
    absurd (begun_stands me item heard ahead.changes (none_at _ c.choice.result c.in-None.is (c.choice.ensures.standing me (item ∷ heard) ahead.stands)))

-- ---- it begins

pub start-requires-clause-inside : goal.start-requires-clause-inside
start-requires-clause-inside g c =
    let u = c.requires.usable in
    let fits = choice_fits u.me (u.item ∷ u.heard) c.in-Some.choice.now (c.in-Some.ensures.usable u.me (u.item ∷ u.heard) u.ahead.stands) in
    omega (arith, fits, u.ahead.gathers.len)

pub start-requires-clause-of_message : goal.start-requires-clause-of_message
start-requires-clause-of_message g c =
    let u = c.requires.usable in
    let items = u.item ∷ u.heard in
    let choice = c.in-Some.choice.now in
    let is = c.in-Some.ensures.chosen u.me items u.ahead.stands in
    subst (λ (n : ℕ). IsPlanOfMessage n choice.message.items choice.plan) u.ahead.gathers.len
    (plan_of_message u.me items choice (c.in-Some.ensures.usable u.me items u.ahead.stands) is.message)

pub returns-in-Some-clause-collects : goal.returns-in-Some-clause-collects
returns-in-Some-clause-collects g c = λ me item heard ahead.
    let s = g.S.Stage in
    let f = g.F.Flash in
    let self = c.args.self.now in
    let flash = c.args.flash.now in
    let new = c.start.new in
    let choice = c.in-Some.choice.now in
    let w = fills_at me (item ∷ heard) choice.plan in
    let is = c.in-Some.ensures.chosen me (item ∷ heard) ahead.stands in
    let usable = c.in-Some.ensures.usable me (item ∷ heard) ahead.stands in
    let few : self.choices ≤ 16 = ahead.gathers.hears.few in
    let below : self.choices < 16 = grind (arith, few, c.if-self-eq-MAX_CHOICES.false) in
    let starts = begun_starts s f me item heard self flash choice ahead is usable below in
    six_where_none c.start.result _ _ _ (s.KEEPS ≡ true → s.message_of new.stage ≡ choice.message.items)
    (KnowsKept s f → BegunWith s f me item heard self flash choice ahead is usable below new.stage) (f.tells → HoldsFilling s choice.plan w new.stage new.bank (f.contents new.flash)) _
    (λ works bank most message filled holds.
    begun_collects s f me item heard self flash choice ahead is usable below g.met.S.Stage.in_bank_begun g.met.S.Stage.keeps g.met.S.Stage.keeps_none new.stage new.bank new.flash works bank most message filled holds)
    c.start.ensures.works (unless_none c.start.result _ c.start.ensures.same_bank) c.start.ensures.most
    (inside_where_none c.start.result _ _ c.start.ensures.message)
    (inside_where_none c.start.result _ _ (λ kept. c.start.ensures.filled w kept starts))
    (inside_where_none c.start.result _ _ (λ tells. c.start.ensures.bytes tells w starts))

pub returns-in-Some-clause-seen : goal.returns-in-Some-clause-seen
returns-in-Some-clause-seen g c = λ me item heard ahead.
    let s = g.S.Stage in
    let f = g.F.Flash in
    let self = c.args.self.now in
    let flash = c.args.flash.now in
    let choice = c.in-Some.choice.now in
    let w = fills_at me (item ∷ heard) choice.plan in
    let is = c.in-Some.ensures.chosen me (item ∷ heard) ahead.stands in
    let usable = c.in-Some.ensures.usable me (item ∷ heard) ahead.stands in
    let few : self.choices ≤ 16 = ahead.gathers.hears.few in
    let below : self.choices < 16 = grind (arith, few, c.if-self-eq-MAX_CHOICES.false) in
    let starts = begun_starts s f me item heard self flash choice ahead is usable below in
    three_if_ok _ _ _ _ c.start.result
    (λ answer filled on whole. begun_seen s f me item heard self flash choice ahead is usable below c.start.new.stage answer filled on whole)
    (inside_if_ok (KnowsKept s f) _ c.start.result (λ kept. c.start.ensures.filled w kept starts)) c.start.ensures.group
    (inside_if_ok (KnowsKept s f) _ c.start.result (λ kept. c.start.ensures.whole w kept starts))

pub returns-in-Some-clause-goes_on : goal.returns-in-Some-clause-goes_on
returns-in-Some-clause-goes_on g c = λ tells me item heard ahead.
    let s = g.S.Stage in
    let f = g.F.Flash in
    let self = c.args.self.now in
    let flash = c.args.flash.now in
    let choice = c.in-Some.choice.now in
    let w = fills_at me (item ∷ heard) choice.plan in
    let is = c.in-Some.ensures.chosen me (item ∷ heard) ahead.stands in
    let usable = c.in-Some.ensures.usable me (item ∷ heard) ahead.stands in
    let few : self.choices ≤ 16 = ahead.gathers.hears.few in
    let below : self.choices < 16 = grind (arith, few, c.if-self-eq-MAX_CHOICES.false) in
    let starts = begun_starts s f me item heard self flash choice ahead is usable below in
    both_if_ok _ _ _ c.start.result (λ answer kept settled.
    begun_goes_on s f me item heard self flash choice ahead is usable below tells (f.contents flash) (f.contents c.start.new.flash) answer kept settled)
    (c.start.ensures.kept tells) (c.start.ensures.settled tells w starts)

pub returns-in-Some-clause-held : goal.returns-in-Some-clause-held
returns-in-Some-clause-held g c = λ tells me item heard ahead.
    let s = g.S.Stage in
    let f = g.F.Flash in
    let self = c.args.self.now in
    let flash = c.args.flash.now in
    let choice = c.in-Some.choice.now in
    let w = fills_at me (item ∷ heard) choice.plan in
    let is = c.in-Some.ensures.chosen me (item ∷ heard) ahead.stands in
    let usable = c.in-Some.ensures.usable me (item ∷ heard) ahead.stands in
    let few : self.choices ≤ 16 = ahead.gathers.hears.few in
    let below : self.choices < 16 = grind (arith, few, c.if-self-eq-MAX_CHOICES.false) in
    let starts = begun_starts s f me item heard self flash choice ahead is usable below in
    begun_leaves s f me item heard self flash choice ahead is usable below tells (f.contents flash) (f.contents c.start.new.flash) (c.start.ensures.held tells w starts)

pub returns-in-Some-clause-left : goal.returns-in-Some-clause-left
returns-in-Some-clause-left g c = λ tells me item heard ahead.
    let s = g.S.Stage in
    let f = g.F.Flash in
    let self = c.args.self.now in
    let flash = c.args.flash.now in
    let choice = c.in-Some.choice.now in
    let x = f.contents flash in
    let w = fills_at me (item ∷ heard) choice.plan in
    let is = c.in-Some.ensures.chosen me (item ∷ heard) ahead.stands in
    let usable = c.in-Some.ensures.usable me (item ∷ heard) ahead.stands in
    let few : self.choices ≤ 16 = ahead.gathers.hears.few in
    let below : self.choices < 16 = grind (arith, few, c.if-self-eq-MAX_CHOICES.false) in
    let starts = begun_starts s f me item heard self flash choice ahead is usable below in
    weaker f.moment f.left_since flash c.start.new.flash (SettlingLeaves choice w self.bank x) (SectionsLeave me (item ∷ heard) self.bank x)
    (λ y leaves. begun_leaves s f me item heard self flash choice ahead is usable below tells x y leaves) (c.start.ensures.left tells w starts)

pub returns-in-Some-clause-too_many : goal.returns-in-Some-clause-too_many
returns-in-Some-clause-too_many g c = λ me item heard ahead many.
    let self = c.args.self.now in
    let count = ahead.gathers.hears.counted in
    let few : self.choices ≤ 16 = ahead.gathers.hears.few in
    let below : beginnings me heard < 16 = grind (arith, count, few, c.if-self-eq-MAX_CHOICES.false) in
    let not = few_begin me item heard below in
    absurd cc

-- ---- what is held

pub returns-then-self-eq-MAX_CHOICES-clause-holds_left : goal.returns-then-self-eq-MAX_CHOICES-clause-holds_left
returns-then-self-eq-MAX_CHOICES-clause-holds_left g c = λ tells me item heard ahead.
    let f = g.F.Flash in
    let x = f.contents c.args.flash.now in
    let blocks = geometry_of c.args.self.now.bank in
    left_now f g.met.F.Flash.only_now c.args.flash.now (HoldsHeard blocks me (item ∷ heard) x) (holds_itself blocks me (item ∷ heard) x)

pub returns-in-None-clause-holds_left : goal.returns-in-None-clause-holds_left
returns-in-None-clause-holds_left g c = λ tells me item heard ahead.
    absurd (begun_stands me item heard ahead.changes (none_at _ c.choice.result c.in-None.is (c.choice.ensures.standing me (item ∷ heard) ahead.stands)))

pub returns-in-Some-clause-holds : goal.returns-in-Some-clause-holds
returns-in-Some-clause-holds g c = λ tells me item heard ahead.
    let f = g.F.Flash in
    holds_no_more (geometry_of c.args.self.now.bank) me (item ∷ heard) (f.contents c.args.flash.now) (f.contents c.start.new.flash) (c.start.ensures.no_more tells)

pub returns-in-Some-clause-holds_left : goal.returns-in-Some-clause-holds_left
returns-in-Some-clause-holds_left g c = λ tells me item heard ahead.
    let f = g.F.Flash in
    let x = f.contents c.args.flash.now in
    let blocks = geometry_of c.args.self.now.bank in
    weaker f.moment f.left_since c.args.flash.now c.start.new.flash (HoldsNoMore blocks x) (HoldsHeard blocks me (item ∷ heard) x)
    (λ y call. holds_no_more blocks me (item ∷ heard) x y call) (c.start.ensures.no_more_left tells)

-- ---- what stays staged

pub returns-then-self-eq-MAX_CHOICES-clause-lasts : goal.returns-then-self-eq-MAX_CHOICES-clause-lasts
returns-then-self-eq-MAX_CHOICES-clause-lasts g c = λ keeps tells me item heard ahead.
    lasts_same 0 (geometry_of c.args.self.now.bank) me (item ∷ heard) heard (g.F.Flash.contents c.args.flash.now)

pub returns-then-self-eq-MAX_CHOICES-clause-lasts_held : goal.returns-then-self-eq-MAX_CHOICES-clause-lasts_held
returns-then-self-eq-MAX_CHOICES-clause-lasts_held g c = λ keeps tells me item heard ahead.
    lasts_same 1 (geometry_of c.args.self.now.bank) me (item ∷ heard) heard (g.F.Flash.contents c.args.flash.now)

pub returns-then-self-eq-MAX_CHOICES-clause-lasts_left : goal.returns-then-self-eq-MAX_CHOICES-clause-lasts_left
returns-then-self-eq-MAX_CHOICES-clause-lasts_left g c = λ keeps tells me item heard ahead.
    let f = g.F.Flash in
    let x = f.contents c.args.flash.now in
    let blocks = geometry_of c.args.self.now.bank in
    left_now f g.met.F.Flash.only_now c.args.flash.now (Lasts 1 blocks me (item ∷ heard) heard x) (lasts_same 1 blocks me (item ∷ heard) heard x)

pub returns-in-None-clause-lasts : goal.returns-in-None-clause-lasts
returns-in-None-clause-lasts g c = λ keeps tells me item heard ahead.
    absurd (begun_stands me item heard ahead.changes (none_at _ c.choice.result c.in-None.is (c.choice.ensures.standing me (item ∷ heard) ahead.stands)))

pub returns-in-None-clause-lasts_held : goal.returns-in-None-clause-lasts_held
returns-in-None-clause-lasts_held g c = λ keeps tells me item heard ahead.
    absurd (begun_stands me item heard ahead.changes (none_at _ c.choice.result c.in-None.is (c.choice.ensures.standing me (item ∷ heard) ahead.stands)))

pub returns-in-None-clause-lasts_left : goal.returns-in-None-clause-lasts_left
returns-in-None-clause-lasts_left g c = λ keeps tells me item heard ahead.
    absurd (begun_stands me item heard ahead.changes (none_at _ c.choice.result c.in-None.is (c.choice.ensures.standing me (item ∷ heard) ahead.stands)))

pub returns-in-Some-clause-lasts : goal.returns-in-Some-clause-lasts
returns-in-Some-clause-lasts g c = λ keeps tells me item heard ahead.
    let s = g.S.Stage in
    let f = g.F.Flash in
    let self = c.args.self.now in
    let flash = c.args.flash.now in
    let choice = c.in-Some.choice.now in
    let w = fills_at me (item ∷ heard) choice.plan in
    let is = c.in-Some.ensures.chosen me (item ∷ heard) ahead.stands in
    let usable = c.in-Some.ensures.usable me (item ∷ heard) ahead.stands in
    let few : self.choices ≤ 16 = ahead.gathers.hears.few in
    let below : self.choices < 16 = grind (arith, few, c.if-self-eq-MAX_CHOICES.false) in
    let starts = begun_starts s f me item heard self flash choice ahead is usable below in
    both_if_ok _ _ _ c.start.result (λ answer resumed settles.
    begun_lasts s f me item heard self flash choice ahead is usable below keeps tells (f.contents c.start.new.flash) answer resumed settles)
    (inside_if_ok (IsStagedGroup (geometry_of self.bank) (f.contents flash) choice.message.items) _ c.start.result (λ group. c.start.ensures.resumed tells keeps group))
    (c.start.ensures.settled tells w starts)

pub returns-in-Some-clause-lasts_held : goal.returns-in-Some-clause-lasts_held
returns-in-Some-clause-lasts_held g c = λ keeps tells me item heard ahead.
    let s = g.S.Stage in
    let f = g.F.Flash in
    let self = c.args.self.now in
    let flash = c.args.flash.now in
    let choice = c.in-Some.choice.now in
    let w = fills_at me (item ∷ heard) choice.plan in
    let is = c.in-Some.ensures.chosen me (item ∷ heard) ahead.stands in
    let usable = c.in-Some.ensures.usable me (item ∷ heard) ahead.stands in
    let few : self.choices ≤ 16 = ahead.gathers.hears.few in
    let below : self.choices < 16 = grind (arith, few, c.if-self-eq-MAX_CHOICES.false) in
    let starts = begun_starts s f me item heard self flash choice ahead is usable below in
    begun_lasts_held s f me item heard self flash choice ahead is usable below keeps tells (f.contents c.start.new.flash) (λ group. c.start.ensures.staging tells keeps group w starts)

pub returns-in-Some-clause-lasts_left : goal.returns-in-Some-clause-lasts_left
returns-in-Some-clause-lasts_left g c = λ keeps tells me item heard ahead.
    let s = g.S.Stage in
    let f = g.F.Flash in
    let self = c.args.self.now in
    let flash = c.args.flash.now in
    let choice = c.in-Some.choice.now in
    let w = fills_at me (item ∷ heard) choice.plan in
    let is = c.in-Some.ensures.chosen me (item ∷ heard) ahead.stands in
    let usable = c.in-Some.ensures.usable me (item ∷ heard) ahead.stands in
    let few : self.choices ≤ 16 = ahead.gathers.hears.few in
    let below : self.choices < 16 = grind (arith, few, c.if-self-eq-MAX_CHOICES.false) in
    let starts = begun_starts s f me item heard self flash choice ahead is usable below in
    begun_lasts_left s f me item heard self flash choice ahead is usable below keeps tells c.start.new.flash (c.start.ensures.no_more_left tells)
    (λ group. c.start.ensures.staging_left tells keeps group w starts)

pub returns-in-None-clause-margin : goal.returns-in-None-clause-margin
returns-in-None-clause-margin g c = λ keeps tells me item heard ahead.
    margin_same (geometry_of c.args.self.now.bank) (g.F.Flash.contents c.args.flash.now)

pub returns-in-Some-clause-margin : goal.returns-in-Some-clause-margin
returns-in-Some-clause-margin g c = λ keeps tells me item heard ahead.
    let s = g.S.Stage in
    let f = g.F.Flash in
    let self = c.args.self.now in
    let flash = c.args.flash.now in
    let choice = c.in-Some.choice.now in
    let is = c.in-Some.ensures.chosen me (item ∷ heard) ahead.stands in
    let usable = c.in-Some.ensures.usable me (item ∷ heard) ahead.stands in
    let few : self.choices ≤ 16 = ahead.gathers.hears.few in
    let below : self.choices < 16 = grind (arith, few, c.if-self-eq-MAX_CHOICES.false) in
    let y = f.contents c.start.new.flash in
    let Staged : Type 0 = IsStagedGroup (geometry_of self.bank) (f.contents flash) choice.message.items in
    three_if_ok _ _ _ _ c.start.result (λ answer stages resumed fresh.
    begun_margin s f me item heard self flash choice ahead is usable below keeps tells y answer stages resumed fresh)
    (if_ok _ _ c.start.result (λ answer. none_one answer _ _ (λ col.
    subst (λ (blocks : Geometry). StagesLast me (item ∷ heard) blocks y) c.start.ensures.geometry (col.gathers.staged keeps tells)))
    (returns-in-Some-clause-collects g c me item heard ahead))
    (inside_if_ok Staged _ c.start.result (λ group. c.start.ensures.resumed tells keeps group))
    (inside_if_ok (Staged → ⊥) _ c.start.result (λ none. c.start.ensures.fresh tells keeps none))
