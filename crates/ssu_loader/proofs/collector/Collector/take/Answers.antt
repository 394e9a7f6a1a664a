use Rattle.std.proofs.Common.{◌≡◌, ◌≢◌, ◌≤◌, ◌∷◌, Some, arith, inl, inr, refl, subst, sym, ◌∙◌}
use Rattle.flash_bank.proofs.LeavingLemmas.{keeps_boot_same}
use Rattle.flash_bank.specs.Bank.{geometry_of}
use Rattle.std.specs.Prelude.{IsSome}
use Rattle.flash_dev.proofs.Moments.{weaker}
use Rattle.flash_layout.specs.Layout.{Geometry}
use Rattle.route_tables.specs.Next.{heard_on}
use Rattle.ssu_route.specs.Choosing.{level_7}
use Rattle.ssu_route.specs.Queries.{carousel_pid}
use Rattle.ssu_group.specs.Carried.{filling, missing_places, with_section}
use Rattle.ssu_loader.specs.Opening.{fills_at}
use Rattle.ssu_route.specs.Windows.{window}
use Rattle.ssu_route.specs.declared.change.Change.TheVariants as change
use Rattle.ssu_route.proofs.Choices.{section_joins}
use Rattle.ssu_loader.specs.Collecting.{HasFilled, HoldsFilling}
use Rattle.ssu_loader.specs.Lasting.{Lasts}
use Rattle.ssu_loader.specs.Leaving.{SectionsLeave}
use Rattle.ssu_loader.specs.Life.{HoldsHeard}
use Rattle.ssu_loader.specs.Remaining.{StagesLast}
use Rattle.ssu_loader.specs.Settling.{SettlingLeaves}
use Rattle.ssu_loader.specs.Staging.{HoldsWithSection, StagingLeaves}
use Rattle.ssu_loader.specs.Starting.{KnowsKept}
use Rattle.ssu_loader.proofs.AnsweringLaws.{both_if_ok, four_if_ok, if_ok, inside_if_ok, inside_where_none, none_one, seven_where_none}
use Rattle.ssu_loader.proofs.ChoiceLaws.{choice_back, none_at, passes_by, some_at, some_began}
use Rattle.ssu_loader.proofs.CollectingLaws.{none_collects, passed_collects, taken_collects, taken_filled, taken_goes_on, taken_holds, taken_includes, taken_leaves, taken_seen, undecided_of}
use Rattle.ssu_loader.proofs.HoldingLaws.{holds_itself, holds_taken}
use Rattle.ssu_loader.proofs.LastingLaws.{lasts_same, taken_lasts, taken_lasts_left}
use Rattle.ssu_loader.proofs.LeftLaws.{left_now}
use Rattle.ssu_loader.proofs.MarginLaws.{margin_same, taken_margin}
use Rattle.ssu_loader.proofs.UnlessLaws.{unless_none}
use Rattle.ssu_loader.proofs.collector.Collector.take.Goals as goal

pub gather-requires : goal.gather-requires
gather-requires g c =
    let u = c.requires.usable in
    let items = u.item ∷ u.heard in
    let some : IsSome (level_7 u.me items) = some_at _ c.choice.result c.in-Some.choice c.in-Some.is (c.choice.ensures.standing u.me items u.ahead.stands) in
    record {
      right = c.requires.right;
      works = u.ahead.gathers.works c.in-Some.choice.now (choice_back u.me u.item u.heard c.in-Some.choice.now u.ahead.changes some (c.in-Some.ensures.chosen u.me items u.ahead.stands));
    }

pub returns-in-None-clause-collects : goal.returns-in-None-clause-collects
returns-in-None-clause-collects g c = λ me heard ahead.
    let item = heard_on c.args.pid c.args.section.now in
    none_collects g.S.Stage g.F.Flash me item heard c.args.self.now c.args.flash.now ahead.stands
    (λ chosen. let both : change.Same ≡ change.Chosen = sym ahead.changes ∙ chosen in absurd cc)
    (none_at (level_7 me (item ∷ heard)) c.choice.result c.in-None.is (c.choice.ensures.standing me (item ∷ heard) ahead.stands)) ahead.gathers

pub returns-in-None-clause-left : goal.returns-in-None-clause-left
returns-in-None-clause-left g c = λ tells me heard ahead.
    let f = g.F.Flash in
    let x = f.contents c.args.flash.now in
    left_now f g.met.F.Flash.only_now c.args.flash.now (SectionsLeave me (heard_on c.args.pid c.args.section.now ∷ heard) c.args.self.now.bank x)
    (inl (keeps_boot_same (geometry_of c.args.self.now.bank) x (ahead.gathers.lent.fits tells).sound))

pub returns-then-is_on-clause-collects : goal.returns-then-is_on-clause-collects
returns-then-is_on-clause-collects g c = λ me heard ahead.
    let s = g.S.Stage in
    let f = g.F.Flash in
    let self = c.args.self.now in
    let flash = c.args.flash.now in
    let choice = c.in-Some.choice.now in
    let item = heard_on c.args.pid c.args.section.now in
    let w = fills_at me heard choice.plan in
    let new = c.gather.new in
    let is = c.in-Some.ensures.chosen me (item ∷ heard) ahead.stands in
    let usable = c.in-Some.ensures.usable me (item ∷ heard) ahead.stands in
    let some : IsSome (level_7 me (item ∷ heard)) = some_at _ c.choice.result c.in-Some.choice c.in-Some.is (c.choice.ensures.standing me (item ∷ heard) ahead.stands) in
    let on : carousel_pid me (item ∷ heard) ≡ Some c.args.pid = sym (c.carousel.ensures me (item ∷ heard) ahead.stands) ∙ c.is_on.ensures.yes c.if-is_on.true in
    let joins = section_joins me item heard c.args.pid ahead.changes some on refl in
    let now = with_section choice.plan c.args.section.now in
    seven_where_none c.gather.result _ _ _ _ _
    (KnowsKept s f → HasFilled s choice.plan (now w) new.stage × (1 ≤ missing_places choice.plan (now w))) (f.tells → HoldsFilling s choice.plan (now w) new.stage new.bank (f.contents new.flash)) _
    (λ works bank most message includes filled holds. taken_collects s f me item heard self flash choice ahead is usable some joins g.met.S.Stage.in_bank_begun g.met.S.Stage.keeps g.met.S.Stage.keeps_none
    new.stage new.bank new.flash works bank most message includes filled holds)
    c.gather.ensures.works (unless_none c.gather.result _ c.gather.ensures.same_bank) c.gather.ensures.most c.gather.ensures.message
    (c.gather.ensures.includes (filling choice.plan (window me heard)) (taken_includes s f me item heard self flash choice ahead is usable some))
    (inside_where_none c.gather.result _ _ (λ kept. c.gather.ensures.filled w (taken_filled s f me item heard self flash choice ahead is usable some kept)))
    (inside_where_none c.gather.result _ _ (λ tells. c.gather.ensures.bytes tells w (taken_filled s f me item heard self flash choice ahead is usable some (inr tells))
    (taken_holds s f me item heard self flash choice ahead is usable some joins tells)))

pub returns-then-is_on-clause-goes_on : goal.returns-then-is_on-clause-goes_on
returns-then-is_on-clause-goes_on g c = λ tells me heard ahead.
    let s = g.S.Stage in
    let f = g.F.Flash in
    let self = c.args.self.now in
    let flash = c.args.flash.now in
    let choice = c.in-Some.choice.now in
    let item = heard_on c.args.pid c.args.section.now in
    let w = fills_at me heard choice.plan in
    let is = c.in-Some.ensures.chosen me (item ∷ heard) ahead.stands in
    let usable = c.in-Some.ensures.usable me (item ∷ heard) ahead.stands in
    let some : IsSome (level_7 me (item ∷ heard)) = some_at _ c.choice.result c.in-Some.choice c.in-Some.is (c.choice.ensures.standing me (item ∷ heard) ahead.stands) in
    let on : carousel_pid me (item ∷ heard) ≡ Some c.args.pid = sym (c.carousel.ensures me (item ∷ heard) ahead.stands) ∙ c.is_on.ensures.yes c.if-is_on.true in
    let joins = section_joins me item heard c.args.pid ahead.changes some on refl in
    both_if_ok _ _ _ c.gather.result (λ answer kept settled.
    taken_goes_on s f me item heard self flash choice ahead is usable some joins tells (f.contents flash) (f.contents c.gather.new.flash) answer kept settled)
    (c.gather.ensures.kept tells)
    (c.gather.ensures.settled tells w (taken_filled s f me item heard self flash choice ahead is usable some (inr tells)) (taken_holds s f me item heard self flash choice ahead is usable some joins tells))

pub returns-then-is_on-clause-held : goal.returns-then-is_on-clause-held
returns-then-is_on-clause-held g c = λ tells me heard ahead.
    let s = g.S.Stage in
    let f = g.F.Flash in
    let self = c.args.self.now in
    let flash = c.args.flash.now in
    let choice = c.in-Some.choice.now in
    let item = heard_on c.args.pid c.args.section.now in
    let w = fills_at me heard choice.plan in
    let is = c.in-Some.ensures.chosen me (item ∷ heard) ahead.stands in
    let usable = c.in-Some.ensures.usable me (item ∷ heard) ahead.stands in
    let some : IsSome (level_7 me (item ∷ heard)) = some_at _ c.choice.result c.in-Some.choice c.in-Some.is (c.choice.ensures.standing me (item ∷ heard) ahead.stands) in
    let on : carousel_pid me (item ∷ heard) ≡ Some c.args.pid = sym (c.carousel.ensures me (item ∷ heard) ahead.stands) ∙ c.is_on.ensures.yes c.if-is_on.true in
    let joins = section_joins me item heard c.args.pid ahead.changes some on refl in
    taken_leaves s f me item heard self flash choice ahead is usable some joins tells (f.contents flash) (f.contents c.gather.new.flash)
    (c.gather.ensures.held tells w (taken_filled s f me item heard self flash choice ahead is usable some (inr tells)) (taken_holds s f me item heard self flash choice ahead is usable some joins tells))

pub returns-then-is_on-clause-left : goal.returns-then-is_on-clause-left
returns-then-is_on-clause-left g c = λ tells me heard ahead.
    let s = g.S.Stage in
    let f = g.F.Flash in
    let self = c.args.self.now in
    let flash = c.args.flash.now in
    let choice = c.in-Some.choice.now in
    let item = heard_on c.args.pid c.args.section.now in
    let w = fills_at me heard choice.plan in
    let x = f.contents flash in
    let is = c.in-Some.ensures.chosen me (item ∷ heard) ahead.stands in
    let usable = c.in-Some.ensures.usable me (item ∷ heard) ahead.stands in
    let some : IsSome (level_7 me (item ∷ heard)) = some_at _ c.choice.result c.in-Some.choice c.in-Some.is (c.choice.ensures.standing me (item ∷ heard) ahead.stands) in
    let on : carousel_pid me (item ∷ heard) ≡ Some c.args.pid = sym (c.carousel.ensures me (item ∷ heard) ahead.stands) ∙ c.is_on.ensures.yes c.if-is_on.true in
    let joins = section_joins me item heard c.args.pid ahead.changes some on refl in
    weaker f.moment f.left_since flash c.gather.new.flash (SettlingLeaves choice (with_section choice.plan c.args.section.now w) self.bank x) (SectionsLeave me (item ∷ heard) self.bank x)
    (λ z leaves. taken_leaves s f me item heard self flash choice ahead is usable some joins tells x z leaves)
    (c.gather.ensures.left tells w (taken_filled s f me item heard self flash choice ahead is usable some (inr tells)) (taken_holds s f me item heard self flash choice ahead is usable some joins tells))

pub returns-else-is_on-clause-collects : goal.returns-else-is_on-clause-collects
returns-else-is_on-clause-collects g c = λ me heard ahead.
    let s = g.S.Stage in
    let f = g.F.Flash in
    let choice = c.in-Some.choice.now in
    let item = heard_on c.args.pid c.args.section.now in
    let is = c.in-Some.ensures.chosen me (item ∷ heard) ahead.stands in
    let usable = c.in-Some.ensures.usable me (item ∷ heard) ahead.stands in
    let some : IsSome (level_7 me (item ∷ heard)) = some_at _ c.choice.result c.in-Some.choice c.in-Some.is (c.choice.ensures.standing me (item ∷ heard) ahead.stands) in
    let off : carousel_pid me (item ∷ heard) ≢ Some c.args.pid = λ on. c.is_on.ensures.no c.if-is_on.false (c.carousel.ensures me (item ∷ heard) ahead.stands ∙ on) in
    passed_collects s f me item heard c.args.self.now c.args.flash.now choice ahead is usable some g.met.S.Stage.in_bank_begun g.met.S.Stage.keeps g.met.S.Stage.keeps_none (passes_by me item heard ahead.changes some off)

pub returns-else-is_on-clause-goes_on : goal.returns-else-is_on-clause-goes_on
returns-else-is_on-clause-goes_on g c = λ tells me heard ahead.
    keeps_boot_same (geometry_of c.args.self.now.bank) (g.F.Flash.contents c.args.flash.now) (ahead.gathers.lent.fits tells).sound

pub returns-else-is_on-clause-left : goal.returns-else-is_on-clause-left
returns-else-is_on-clause-left g c = λ tells me heard ahead.
    let f = g.F.Flash in
    let x = f.contents c.args.flash.now in
    left_now f g.met.F.Flash.only_now c.args.flash.now (SectionsLeave me (heard_on c.args.pid c.args.section.now ∷ heard) c.args.self.now.bank x)
    (inl (keeps_boot_same (geometry_of c.args.self.now.bank) x (ahead.gathers.lent.fits tells).sound))

pub returns-in-None-clause-seen : goal.returns-in-None-clause-seen
returns-in-None-clause-seen g c = λ me heard ahead.
    let item = heard_on c.args.pid c.args.section.now in
    let collects = none_collects g.S.Stage g.F.Flash me item heard c.args.self.now c.args.flash.now ahead.stands
    (λ chosen. let both : change.Same ≡ change.Chosen = sym ahead.changes ∙ chosen in absurd cc)
    (none_at (level_7 me (item ∷ heard)) c.choice.result c.in-None.is (c.choice.ensures.standing me (item ∷ heard) ahead.stands)) ahead.gathers in
    undecided_of g.S.Stage g.F.Flash me (item ∷ heard) c.args.self.now c.args.flash.now collects.gathers

pub returns-then-is_on-clause-seen : goal.returns-then-is_on-clause-seen
returns-then-is_on-clause-seen g c = λ me heard ahead.
    let s = g.S.Stage in
    let f = g.F.Flash in
    let self = c.args.self.now in
    let flash = c.args.flash.now in
    let choice = c.in-Some.choice.now in
    let item = heard_on c.args.pid c.args.section.now in
    let w = fills_at me heard choice.plan in
    let is = c.in-Some.ensures.chosen me (item ∷ heard) ahead.stands in
    let usable = c.in-Some.ensures.usable me (item ∷ heard) ahead.stands in
    let some : IsSome (level_7 me (item ∷ heard)) = some_at _ c.choice.result c.in-Some.choice c.in-Some.is (c.choice.ensures.standing me (item ∷ heard) ahead.stands) in
    let on : carousel_pid me (item ∷ heard) ≡ Some c.args.pid = sym (c.carousel.ensures me (item ∷ heard) ahead.stands) ∙ c.is_on.ensures.yes c.if-is_on.true in
    let joins = section_joins me item heard c.args.pid ahead.changes some on refl in
    four_if_ok _ _ _ _ _ c.gather.result (λ answer includes filled on whole.
    taken_seen s f me item heard self flash choice ahead is usable some joins c.gather.new.stage answer includes filled on whole)
    (c.gather.ensures.includes (filling choice.plan (window me heard)) (taken_includes s f me item heard self flash choice ahead is usable some))
    (inside_if_ok (KnowsKept s f) _ c.gather.result (λ kept. c.gather.ensures.filled w (taken_filled s f me item heard self flash choice ahead is usable some kept)))
    c.gather.ensures.group
    (inside_if_ok (KnowsKept s f) _ c.gather.result (λ kept. c.gather.ensures.whole w (taken_filled s f me item heard self flash choice ahead is usable some kept)))

pub returns-then-is_on-clause-untouched : goal.returns-then-is_on-clause-untouched
returns-then-is_on-clause-untouched g c = λ me heard ahead none.
    let item = heard_on c.args.pid c.args.section.now in
    let some : IsSome (level_7 me (item ∷ heard)) = some_at _ c.choice.result c.in-Some.choice c.in-Some.is (c.choice.ensures.standing me (item ∷ heard) ahead.stands) in
    let began = some_began me (item ∷ heard) some in
    absurd (omega (arith, began, none))

pub returns-else-is_on-clause-seen : goal.returns-else-is_on-clause-seen
returns-else-is_on-clause-seen g c = λ me heard ahead.
    let s = g.S.Stage in
    let f = g.F.Flash in
    let self = c.args.self.now in
    let flash = c.args.flash.now in
    let choice = c.in-Some.choice.now in
    let item = heard_on c.args.pid c.args.section.now in
    let is = c.in-Some.ensures.chosen me (item ∷ heard) ahead.stands in
    let usable = c.in-Some.ensures.usable me (item ∷ heard) ahead.stands in
    let some : IsSome (level_7 me (item ∷ heard)) = some_at _ c.choice.result c.in-Some.choice c.in-Some.is (c.choice.ensures.standing me (item ∷ heard) ahead.stands) in
    let off : carousel_pid me (item ∷ heard) ≢ Some c.args.pid = λ on. c.is_on.ensures.no c.if-is_on.false (c.carousel.ensures me (item ∷ heard) ahead.stands ∙ on) in
    let collects = passed_collects s f me item heard self flash choice ahead is usable some g.met.S.Stage.in_bank_begun g.met.S.Stage.keeps g.met.S.Stage.keeps_none (passes_by me item heard ahead.changes some off) in
    undecided_of s f me (item ∷ heard) self flash collects.gathers

-- ---- what is held

pub returns-in-None-clause-holds_left : goal.returns-in-None-clause-holds_left
returns-in-None-clause-holds_left g c = λ tells me heard ahead.
    let f = g.F.Flash in
    let x = f.contents c.args.flash.now in
    let blocks = geometry_of c.args.self.now.bank in
    let items = heard_on c.args.pid c.args.section.now ∷ heard in
    left_now f g.met.F.Flash.only_now c.args.flash.now (HoldsHeard blocks me items x) (holds_itself blocks me items x)

pub returns-else-is_on-clause-holds_left : goal.returns-else-is_on-clause-holds_left
returns-else-is_on-clause-holds_left g c = λ tells me heard ahead.
    let f = g.F.Flash in
    let x = f.contents c.args.flash.now in
    let blocks = geometry_of c.args.self.now.bank in
    let items = heard_on c.args.pid c.args.section.now ∷ heard in
    left_now f g.met.F.Flash.only_now c.args.flash.now (HoldsHeard blocks me items x) (holds_itself blocks me items x)

pub returns-then-is_on-clause-holds : goal.returns-then-is_on-clause-holds
returns-then-is_on-clause-holds g c = λ tells me heard ahead.
    let s = g.S.Stage in
    let f = g.F.Flash in
    let self = c.args.self.now in
    let flash = c.args.flash.now in
    let choice = c.in-Some.choice.now in
    let item = heard_on c.args.pid c.args.section.now in
    let is = c.in-Some.ensures.chosen me (item ∷ heard) ahead.stands in
    let usable = c.in-Some.ensures.usable me (item ∷ heard) ahead.stands in
    let some : IsSome (level_7 me (item ∷ heard)) = some_at _ c.choice.result c.in-Some.choice c.in-Some.is (c.choice.ensures.standing me (item ∷ heard) ahead.stands) in
    let on : carousel_pid me (item ∷ heard) ≡ Some c.args.pid = sym (c.carousel.ensures me (item ∷ heard) ahead.stands) ∙ c.is_on.ensures.yes c.if-is_on.true in
    let joins = section_joins me item heard c.args.pid ahead.changes some on refl in
    holds_taken s f me item heard self flash choice ahead is usable some joins (f.contents flash) (f.contents c.gather.new.flash) (c.gather.ensures.one_more tells)

pub returns-then-is_on-clause-holds_left : goal.returns-then-is_on-clause-holds_left
returns-then-is_on-clause-holds_left g c = λ tells me heard ahead.
    let s = g.S.Stage in
    let f = g.F.Flash in
    let self = c.args.self.now in
    let flash = c.args.flash.now in
    let choice = c.in-Some.choice.now in
    let item = heard_on c.args.pid c.args.section.now in
    let is = c.in-Some.ensures.chosen me (item ∷ heard) ahead.stands in
    let usable = c.in-Some.ensures.usable me (item ∷ heard) ahead.stands in
    let some : IsSome (level_7 me (item ∷ heard)) = some_at _ c.choice.result c.in-Some.choice c.in-Some.is (c.choice.ensures.standing me (item ∷ heard) ahead.stands) in
    let on : carousel_pid me (item ∷ heard) ≡ Some c.args.pid = sym (c.carousel.ensures me (item ∷ heard) ahead.stands) ∙ c.is_on.ensures.yes c.if-is_on.true in
    let joins = section_joins me item heard c.args.pid ahead.changes some on refl in
    let x = f.contents flash in
    weaker f.moment f.left_since flash c.gather.new.flash (HoldsWithSection s.KEEPS (geometry_of self.bank) (s.message_of self.stage) choice.plan item.section x)
    (HoldsHeard (geometry_of self.bank) me (item ∷ heard) x)
    (λ y call. holds_taken s f me item heard self flash choice ahead is usable some joins x y call) (c.gather.ensures.one_more_left tells)

-- ---- what stays staged

pub returns-in-None-clause-lasts : goal.returns-in-None-clause-lasts
returns-in-None-clause-lasts g c = λ keeps tells me heard ahead.
    lasts_same 0 (geometry_of c.args.self.now.bank) me (heard_on c.args.pid c.args.section.now ∷ heard) heard (g.F.Flash.contents c.args.flash.now)

pub returns-in-None-clause-lasts_held : goal.returns-in-None-clause-lasts_held
returns-in-None-clause-lasts_held g c = λ keeps tells me heard ahead.
    lasts_same 1 (geometry_of c.args.self.now.bank) me (heard_on c.args.pid c.args.section.now ∷ heard) heard (g.F.Flash.contents c.args.flash.now)

pub returns-in-None-clause-lasts_left : goal.returns-in-None-clause-lasts_left
returns-in-None-clause-lasts_left g c = λ keeps tells me heard ahead.
    let f = g.F.Flash in
    let x = f.contents c.args.flash.now in
    let blocks = geometry_of c.args.self.now.bank in
    let items = heard_on c.args.pid c.args.section.now ∷ heard in
    left_now f g.met.F.Flash.only_now c.args.flash.now (Lasts 1 blocks me items heard x) (lasts_same 1 blocks me items heard x)

pub returns-else-is_on-clause-lasts : goal.returns-else-is_on-clause-lasts
returns-else-is_on-clause-lasts g c = λ keeps tells me heard ahead.
    lasts_same 0 (geometry_of c.args.self.now.bank) me (heard_on c.args.pid c.args.section.now ∷ heard) heard (g.F.Flash.contents c.args.flash.now)

pub returns-else-is_on-clause-lasts_held : goal.returns-else-is_on-clause-lasts_held
returns-else-is_on-clause-lasts_held g c = λ keeps tells me heard ahead.
    lasts_same 1 (geometry_of c.args.self.now.bank) me (heard_on c.args.pid c.args.section.now ∷ heard) heard (g.F.Flash.contents c.args.flash.now)

pub returns-else-is_on-clause-lasts_left : goal.returns-else-is_on-clause-lasts_left
returns-else-is_on-clause-lasts_left g c = λ keeps tells me heard ahead.
    let f = g.F.Flash in
    let x = f.contents c.args.flash.now in
    let blocks = geometry_of c.args.self.now.bank in
    let items = heard_on c.args.pid c.args.section.now ∷ heard in
    left_now f g.met.F.Flash.only_now c.args.flash.now (Lasts 1 blocks me items heard x) (lasts_same 1 blocks me items heard x)

pub returns-then-is_on-clause-lasts : goal.returns-then-is_on-clause-lasts
returns-then-is_on-clause-lasts g c = λ keeps tells me heard ahead.
    let s = g.S.Stage in
    let f = g.F.Flash in
    let self = c.args.self.now in
    let flash = c.args.flash.now in
    let choice = c.in-Some.choice.now in
    let item = heard_on c.args.pid c.args.section.now in
    let w = fills_at me heard choice.plan in
    let is = c.in-Some.ensures.chosen me (item ∷ heard) ahead.stands in
    let usable = c.in-Some.ensures.usable me (item ∷ heard) ahead.stands in
    let some : IsSome (level_7 me (item ∷ heard)) = some_at _ c.choice.result c.in-Some.choice c.in-Some.is (c.choice.ensures.standing me (item ∷ heard) ahead.stands) in
    let on : carousel_pid me (item ∷ heard) ≡ Some c.args.pid = sym (c.carousel.ensures me (item ∷ heard) ahead.stands) ∙ c.is_on.ensures.yes c.if-is_on.true in
    let joins = section_joins me item heard c.args.pid ahead.changes some on refl in
    let filled = taken_filled s f me item heard self flash choice ahead is usable some (inr tells) in
    let holds = taken_holds s f me item heard self flash choice ahead is usable some joins tells in
    both_if_ok _ _ _ c.gather.result (λ answer kept settles.
    taken_lasts s f me item heard self flash choice ahead is usable some joins tells (f.contents c.gather.new.flash) answer kept settles)
    (c.gather.ensures.staged tells keeps) (c.gather.ensures.settled tells w filled holds)

pub returns-then-is_on-clause-lasts_held : goal.returns-then-is_on-clause-lasts_held
returns-then-is_on-clause-lasts_held g c = λ keeps tells me heard ahead.
    let s = g.S.Stage in
    let f = g.F.Flash in
    let self = c.args.self.now in
    let flash = c.args.flash.now in
    let choice = c.in-Some.choice.now in
    let item = heard_on c.args.pid c.args.section.now in
    let w = fills_at me heard choice.plan in
    let is = c.in-Some.ensures.chosen me (item ∷ heard) ahead.stands in
    let usable = c.in-Some.ensures.usable me (item ∷ heard) ahead.stands in
    let some : IsSome (level_7 me (item ∷ heard)) = some_at _ c.choice.result c.in-Some.choice c.in-Some.is (c.choice.ensures.standing me (item ∷ heard) ahead.stands) in
    let on : carousel_pid me (item ∷ heard) ≡ Some c.args.pid = sym (c.carousel.ensures me (item ∷ heard) ahead.stands) ∙ c.is_on.ensures.yes c.if-is_on.true in
    let joins = section_joins me item heard c.args.pid ahead.changes some on refl in
    let filled = taken_filled s f me item heard self flash choice ahead is usable some (inr tells) in
    let holds = taken_holds s f me item heard self flash choice ahead is usable some joins tells in
    taken_lasts_left s f me item heard self flash choice ahead is usable some joins tells (f.contents c.gather.new.flash) (c.gather.ensures.staging tells keeps w filled holds)

pub returns-then-is_on-clause-lasts_left : goal.returns-then-is_on-clause-lasts_left
returns-then-is_on-clause-lasts_left g c = λ keeps tells me heard ahead.
    let s = g.S.Stage in
    let f = g.F.Flash in
    let self = c.args.self.now in
    let flash = c.args.flash.now in
    let choice = c.in-Some.choice.now in
    let item = heard_on c.args.pid c.args.section.now in
    let w = fills_at me heard choice.plan in
    let is = c.in-Some.ensures.chosen me (item ∷ heard) ahead.stands in
    let usable = c.in-Some.ensures.usable me (item ∷ heard) ahead.stands in
    let some : IsSome (level_7 me (item ∷ heard)) = some_at _ c.choice.result c.in-Some.choice c.in-Some.is (c.choice.ensures.standing me (item ∷ heard) ahead.stands) in
    let on : carousel_pid me (item ∷ heard) ≡ Some c.args.pid = sym (c.carousel.ensures me (item ∷ heard) ahead.stands) ∙ c.is_on.ensures.yes c.if-is_on.true in
    let joins = section_joins me item heard c.args.pid ahead.changes some on refl in
    let filled = taken_filled s f me item heard self flash choice ahead is usable some (inr tells) in
    let holds = taken_holds s f me item heard self flash choice ahead is usable some joins tells in
    let x = f.contents flash in
    weaker f.moment f.left_since flash c.gather.new.flash (StagingLeaves 1 choice (with_section choice.plan c.args.section.now w) self.bank x)
    (Lasts 1 (geometry_of self.bank) me (item ∷ heard) heard x)
    (λ y leaves. taken_lasts_left s f me item heard self flash choice ahead is usable some joins tells y leaves) (c.gather.ensures.staging_left tells keeps w filled holds)

pub returns-in-None-clause-margin : goal.returns-in-None-clause-margin
returns-in-None-clause-margin g c = λ keeps tells me heard ahead.
    margin_same (geometry_of c.args.self.now.bank) (g.F.Flash.contents c.args.flash.now)

pub returns-else-is_on-clause-margin : goal.returns-else-is_on-clause-margin
returns-else-is_on-clause-margin g c = λ keeps tells me heard ahead.
    margin_same (geometry_of c.args.self.now.bank) (g.F.Flash.contents c.args.flash.now)

pub returns-then-is_on-clause-margin : goal.returns-then-is_on-clause-margin
returns-then-is_on-clause-margin g c = λ keeps tells me heard ahead.
    let s = g.S.Stage in
    let f = g.F.Flash in
    let item = heard_on c.args.pid c.args.section.now in
    let y = f.contents c.gather.new.flash in
    both_if_ok _ _ _ c.gather.result (λ answer stages kept. taken_margin s f me item heard c.args.self.now c.args.flash.now ahead keeps tells y answer stages kept)
    (if_ok _ _ c.gather.result (λ answer. none_one answer _ _ (λ col.
    subst (λ (blocks : Geometry). StagesLast me (item ∷ heard) blocks y) c.gather.ensures.geometry (col.gathers.staged keeps tells)))
    (returns-then-is_on-clause-collects g c me heard ahead))
    (c.gather.ensures.staged tells keeps)
