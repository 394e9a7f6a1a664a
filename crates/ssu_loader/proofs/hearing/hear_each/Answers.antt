use Rattle.std.proofs.Common.{◌≡◌, ℕ, List, ◌∷◌, take, inl, subst, ap, ◌∙◌, arith}
use Rattle.flash_bank.specs.Bank.{geometry_of}
use Rattle.flash_bank.specs.Leaving.{KeepsBoot}
use Rattle.std.specs.Prelude.{Ok, Some}
use Rattle.flash_dev.proofs.Moments.{weaker}
use Rattle.flash_layout.specs.Layout.{Geometry}
use Rattle.flash_stage.specs.Keeping.{StagesNone}
use Rattle.flash_stage.proofs.LeavingLaws.{banks_joined}
use Rattle.route_tables.specs.Next.{heard_on}
use Rattle.ssu_route.specs.Queries.{after_all}
use Rattle.ssu_route.specs.Windows.{beginnings}
use Rattle.ssu_loader.specs.Collecting.{Collects}
use Rattle.flash_dev.specs.Moments.{LeavesOnly}
use Rattle.ssu_loader.specs.Lasting.{Lasts}
use Rattle.ssu_loader.specs.Leaving.{SectionsLeave}
use Rattle.ssu_loader.specs.Life.{HoldsHeard}
use Rattle.ssu_loader.specs.Storing.{HasNoPrev}
use Rattle.ssu_loader.proofs.AnsweringLaws.{if_none_at}
use Rattle.ssu_loader.proofs.CollectingLaws.{undecided_of}
use Rattle.ssu_loader.proofs.HearingLaws.{goes_on_none, goes_on_some, heard_alone, heard_ends, heard_holds, heard_holds_left, heard_lasts, heard_lasts_left, heard_leaves, heard_left, heard_more, heard_none, heard_seen, heard_stops, heard_untouched, heard_wrong, take_whole}
use Rattle.ssu_loader.proofs.LastingLaws.{lasts_weaker}
use Rattle.ssu_loader.proofs.UnlessLaws.{unless_from, unless_none, unless_one}
use Rattle.ssu_loader.proofs.hearing.hear_each.Goals as goal

pub loop-k-init : goal.loop-k-init
loop-k-init g c = heard_none g.S.Stage g.F.Flash g.met.F.Flash.only_now c.args.pid c.args.each.now c.args.collector.now c.args.flash.now c.requires.usable

pub hear-requires : goal.hear-requires
hear-requires g c =
    let u = c.requires.usable in
    record {
      right = c.get.ensures.right.1;
      usable = record { me = u.me; heard = after_all c.args.pid (take c.loop-k.k c.args.each.now) u.heard; collects = c.loop-k.invariant.collects u.me u.heard u.collects };
    }

pub loop-k-preserved : goal.loop-k-preserved
loop-k-preserved g c =
    let f = g.F.Flash in
    let x = f.contents c.loop-k.flash in
    let y = f.contents c.hear.new.flash in
    let section = c.get.result.now in
    heard_more g.S.Stage g.F.Flash c.args.pid c.args.each.now c.loop-k.k c.args.collector.now c.args.flash.now c.loop-k.collector c.loop-k.flash c.hear.new.self c.hear.new.flash c.get.result.now
    c.loop-k.invariant c.requires.usable c.get.ensures.bytes
    (λ me heard col. if_none_at _ c.in_ok-hear.field-0 c.in-None.is (c.in_ok-hear.ensures.collects me heard col))
    (λ tells me heard col. goes_on_none me (heard_on c.args.pid section ∷ heard) c.loop-k.collector.bank x y c.in_ok-hear.field-0 c.in-None.is (c.in_ok-hear.ensures.goes_on tells me heard col))
    (λ tells me heard col. c.hear.ensures.left tells me heard col) c.hear.ensures.untouched c.hear.ensures.holds c.hear.ensures.holds_left c.in_ok-hear.ensures.lasts c.hear.ensures.lasts_left
    (λ keeps tells me heard col. if_none_at _ c.in_ok-hear.field-0 c.in-None.is (c.in_ok-hear.ensures.margin keeps tells me heard col))
    (if_none_at _ c.in_ok-hear.field-0 c.in-None.is (unless_none {E = Unit {0}} (Ok c.in_ok-hear.field-0) _ c.in_ok-hear.ensures.same_bank)) c.in_ok-hear.ensures.lent c.hear.ensures.blocks c.hear.ensures.block_size c.hear.ensures.cause.later

pub returns-in_err-hear-clause-held : goal.returns-in_err-hear-clause-held
returns-in_err-hear-clause-held g c = λ tells me heard col.
    heard_leaves g.S.Stage g.F.Flash c.args.pid c.args.each.now c.loop-k.k c.args.collector.now c.args.flash.now c.loop-k.collector c.loop-k.flash c.hear.new.self c.hear.new.flash c.get.result.now
    c.loop-k.invariant c.requires.usable c.get.ensures.bytes tells me heard (g.F.Flash.contents c.hear.new.flash)
    (c.hear.ensures.held tells me (after_all c.args.pid (take c.loop-k.k c.args.each.now) heard) (c.loop-k.invariant.collects me heard col))

pub returns-in_err-hear-clause-left : goal.returns-in_err-hear-clause-left
returns-in_err-hear-clause-left g c = λ tells me heard col.
    heard_left g.S.Stage g.F.Flash c.args.pid c.args.each.now c.loop-k.k c.args.collector.now c.args.flash.now c.loop-k.collector c.loop-k.flash c.hear.new.self c.hear.new.flash c.get.result.now
    c.loop-k.invariant c.requires.usable c.get.ensures.bytes tells me heard
    (c.hear.ensures.left tells me (after_all c.args.pid (take c.loop-k.k c.args.each.now) heard) (c.loop-k.invariant.collects me heard col))

pub returns-in_err-hear-clause-blocks : goal.returns-in_err-hear-clause-blocks
returns-in_err-hear-clause-blocks g c = c.hear.ensures.blocks ∙ c.loop-k.invariant.blocks

pub returns-in_err-hear-clause-block_size : goal.returns-in_err-hear-clause-block_size
returns-in_err-hear-clause-block_size g c = c.hear.ensures.block_size ∙ c.loop-k.invariant.block_size

pub returns-in-Some-clause-held : goal.returns-in-Some-clause-held
returns-in-Some-clause-held g c = λ tells me heard col.
    heard_leaves g.S.Stage g.F.Flash c.args.pid c.args.each.now c.loop-k.k c.args.collector.now c.args.flash.now c.loop-k.collector c.loop-k.flash c.hear.new.self c.hear.new.flash c.get.result.now
    c.loop-k.invariant c.requires.usable c.get.ensures.bytes tells me heard (g.F.Flash.contents c.hear.new.flash)
    (c.hear.ensures.held tells me (after_all c.args.pid (take c.loop-k.k c.args.each.now) heard) (c.loop-k.invariant.collects me heard col))

pub returns-in-Some-clause-left : goal.returns-in-Some-clause-left
returns-in-Some-clause-left g c = λ tells me heard col.
    heard_left g.S.Stage g.F.Flash c.args.pid c.args.each.now c.loop-k.k c.args.collector.now c.args.flash.now c.loop-k.collector c.loop-k.flash c.hear.new.self c.hear.new.flash c.get.result.now
    c.loop-k.invariant c.requires.usable c.get.ensures.bytes tells me heard
    (c.hear.ensures.left tells me (after_all c.args.pid (take c.loop-k.k c.args.each.now) heard) (c.loop-k.invariant.collects me heard col))

pub returns-in-Some-clause-blocks : goal.returns-in-Some-clause-blocks
returns-in-Some-clause-blocks g c = c.hear.ensures.blocks ∙ c.loop-k.invariant.blocks

pub returns-in-Some-clause-block_size : goal.returns-in-Some-clause-block_size
returns-in-Some-clause-block_size g c = c.hear.ensures.block_size ∙ c.loop-k.invariant.block_size

pub returns-in-Some-clause-goes_on : goal.returns-in-Some-clause-goes_on
returns-in-Some-clause-goes_on g c = λ tells me heard col.
    let f = g.F.Flash in
    let earlier = after_all c.args.pid (take c.loop-k.k c.args.each.now) heard in
    heard_ends g.S.Stage g.F.Flash c.args.pid c.args.each.now c.loop-k.k c.args.collector.now c.args.flash.now c.loop-k.collector c.loop-k.flash c.hear.new.self c.hear.new.flash c.get.result.now
    c.loop-k.invariant c.requires.usable c.get.ensures.bytes tells me heard (f.contents c.hear.new.flash) c.in-Some.verdict
    (goes_on_some me (heard_on c.args.pid c.get.result.now ∷ earlier) c.loop-k.collector.bank (f.contents c.loop-k.flash) (f.contents c.hear.new.flash) c.in_ok-hear.field-0 c.in-Some.verdict c.in-Some.is
    (c.in_ok-hear.ensures.goes_on tells me earlier (c.loop-k.invariant.collects me heard col)))

pub returns-clause-collects : goal.returns-clause-collects
returns-clause-collects g c = λ me heard col.
    let all : take c.loop-k.k c.args.each.now ≡ c.args.each.now = take_whole c.args.each.now c.loop-k.k (omega (arith, c.loop-k-test.false, c.len-k-end.ensures)) in
    subst (λ (sections : List (List ℕ)). Collects g.S.Stage g.F.Flash me (after_all c.args.pid sections heard) c.loop-k.collector c.loop-k.flash) all (c.loop-k.invariant.collects me heard col)

pub returns-clause-goes_on : goal.returns-clause-goes_on
returns-clause-goes_on g c = λ tells me heard col. c.loop-k.invariant.leaves tells

pub returns-clause-held : goal.returns-clause-held
returns-clause-held g c = λ tells me heard col. inl (c.loop-k.invariant.leaves tells)

pub returns-clause-left : goal.returns-clause-left
returns-clause-left g c = λ tells me heard col.
    let f = g.F.Flash in
    let bank = c.args.collector.now.bank in
    let x = f.contents c.args.flash.now in
    weaker f.moment f.left_since c.args.flash.now c.loop-k.flash (KeepsBoot (geometry_of bank) x) (SectionsLeave me (after_all c.args.pid c.args.each.now heard) bank x) (λ y is. inl is) (c.loop-k.invariant.left tells)

pub returns-clause-same_bank : goal.returns-clause-same_bank
returns-clause-same_bank g c = c.loop-k.invariant.bank

pub returns-clause-blocks : goal.returns-clause-blocks
returns-clause-blocks g c = c.loop-k.invariant.blocks

pub returns-clause-block_size : goal.returns-clause-block_size
returns-clause-block_size g c = c.loop-k.invariant.block_size

pub returns-in-Some-clause-seen : goal.returns-in-Some-clause-seen
returns-in-Some-clause-seen g c = λ me heard col.
    heard_seen g.S.Stage g.F.Flash c.args.pid c.args.each.now c.loop-k.k c.args.collector.now c.args.flash.now c.loop-k.collector c.loop-k.flash c.hear.new.self c.hear.new.flash c.get.result.now
    c.loop-k.invariant c.requires.usable c.get.ensures.bytes me heard c.in_ok-hear.field-0 c.in-Some.verdict c.in-Some.is
    (c.in_ok-hear.ensures.seen me (after_all c.args.pid (take c.loop-k.k c.args.each.now) heard) (c.loop-k.invariant.collects me heard col))

pub returns-clause-seen : goal.returns-clause-seen
returns-clause-seen g c = λ me heard col.
    let all : take c.loop-k.k c.args.each.now ≡ c.args.each.now = take_whole c.args.each.now c.loop-k.k (omega (arith, c.loop-k-test.false, c.len-k-end.ensures)) in
    let collects = subst (λ (sections : List (List ℕ)). Collects g.S.Stage g.F.Flash me (after_all c.args.pid sections heard) c.loop-k.collector c.loop-k.flash) all (c.loop-k.invariant.collects me heard col) in
    undecided_of g.S.Stage g.F.Flash me (after_all c.args.pid c.args.each.now heard) c.loop-k.collector c.loop-k.flash collects.gathers

pub returns-in_err-hear-clause-untouched : goal.returns-in_err-hear-clause-untouched
returns-in_err-hear-clause-untouched g c =
    heard_untouched g.S.Stage g.F.Flash c.args.pid c.args.each.now c.loop-k.k c.args.collector.now c.args.flash.now c.loop-k.collector c.loop-k.flash c.hear.new.self c.hear.new.flash c.get.result.now
    c.loop-k.invariant c.requires.usable c.get.ensures.bytes c.hear.ensures.untouched

pub returns-in-Some-clause-untouched : goal.returns-in-Some-clause-untouched
returns-in-Some-clause-untouched g c =
    heard_untouched g.S.Stage g.F.Flash c.args.pid c.args.each.now c.loop-k.k c.args.collector.now c.args.flash.now c.loop-k.collector c.loop-k.flash c.hear.new.self c.hear.new.flash c.get.result.now
    c.loop-k.invariant c.requires.usable c.get.ensures.bytes c.hear.ensures.untouched

pub returns-clause-untouched : goal.returns-clause-untouched
returns-clause-untouched g c = λ me heard col none.
    let all : take c.loop-k.k c.args.each.now ≡ c.args.each.now = take_whole c.args.each.now c.loop-k.k (omega (arith, c.loop-k-test.false, c.len-k-end.ensures)) in
    c.loop-k.invariant.untouched me heard col (ap (λ (sections : List (List ℕ)). beginnings me (after_all c.args.pid sections heard)) all ∙ none)

pub returns-in_err-hear-clause-geometry : goal.returns-in_err-hear-clause-geometry
returns-in_err-hear-clause-geometry g c = c.hear.ensures.geometry ∙ c.loop-k.invariant.bank.geometry

pub returns-in-Some-clause-lent : goal.returns-in-Some-clause-lent
returns-in-Some-clause-lent g c = c.in_ok-hear.ensures.lent

pub returns-in-Some-clause-geometry : goal.returns-in-Some-clause-geometry
returns-in-Some-clause-geometry g c = c.hear.ensures.geometry ∙ c.loop-k.invariant.bank.geometry

pub returns-clause-lent : goal.returns-clause-lent
returns-clause-lent g c = c.loop-k.invariant.lent

pub returns-clause-geometry : goal.returns-clause-geometry
returns-clause-geometry g c = c.loop-k.invariant.bank.geometry

pub returns-in_err-hear-clause-same_bank : goal.returns-in_err-hear-clause-same_bank
returns-in_err-hear-clause-same_bank g c =
    unless_from c.from_residual.result _
    (banks_joined c.args.collector.now.bank c.loop-k.collector.bank c.hear.new.self.bank c.loop-k.invariant.bank c.in_err-hear.ensures.same_bank)

pub returns-in-Some-clause-same_bank : goal.returns-in-Some-clause-same_bank
returns-in-Some-clause-same_bank g c =
    unless_one {E = Unit {0}} (Ok (Some c.in-Some.verdict)) _ _ (banks_joined c.args.collector.now.bank c.loop-k.collector.bank c.hear.new.self.bank c.loop-k.invariant.bank)
    (rw c.in-Some.is at c.in_ok-hear.ensures.same_bank)

pub returns-in-Some-clause-too_many : goal.returns-in-Some-clause-too_many
returns-in-Some-clause-too_many g c = λ me heard col.
    let earlier = after_all c.args.pid (take c.loop-k.k c.args.each.now) heard in
    heard_stops g.S.Stage g.F.Flash c.args.pid c.args.each.now c.loop-k.k c.args.collector.now c.args.flash.now c.loop-k.collector c.loop-k.flash c.hear.new.self c.hear.new.flash c.get.result.now
    c.loop-k.invariant c.requires.usable c.get.ensures.bytes me heard col c.in-Some.verdict
    (rw c.in-Some.is at (c.in_ok-hear.ensures.seen me earlier (c.loop-k.invariant.collects me heard col)))
    (λ many. (c.hear.ensures.too_many me earlier (c.loop-k.invariant.collects me heard col) many).1)

pub returns-in-Some-clause-no_prev : goal.returns-in-Some-clause-no_prev
returns-in-Some-clause-no_prev g c = λ in_bank tells.
    let y = g.F.Flash.contents c.hear.new.flash in
    heard_wrong g.S.Stage g.F.Flash c.args.pid c.args.each.now c.loop-k.k c.args.collector.now c.args.flash.now c.loop-k.collector c.loop-k.flash c.hear.new.self c.hear.new.flash c.get.result.now
    c.loop-k.invariant c.requires.usable c.get.ensures.bytes (λ (blocks : Geometry). HasNoPrev blocks y) c.in_ok-hear.field-0 c.in-Some.verdict c.in-Some.is (c.in_ok-hear.ensures.no_prev in_bank tells)

pub returns-in-Some-clause-forgotten : goal.returns-in-Some-clause-forgotten
returns-in-Some-clause-forgotten g c = λ keeps tells.
    let y = g.F.Flash.contents c.hear.new.flash in
    heard_wrong g.S.Stage g.F.Flash c.args.pid c.args.each.now c.loop-k.k c.args.collector.now c.args.flash.now c.loop-k.collector c.loop-k.flash c.hear.new.self c.hear.new.flash c.get.result.now
    c.loop-k.invariant c.requires.usable c.get.ensures.bytes (λ (blocks : Geometry). StagesNone blocks y) c.in_ok-hear.field-0 c.in-Some.verdict c.in-Some.is (c.in_ok-hear.ensures.forgotten keeps tells)

pub returns-in_err-hear-clause-alone : goal.returns-in_err-hear-clause-alone
returns-in_err-hear-clause-alone g c =
    heard_alone g.S.Stage g.F.Flash c.args.pid c.args.each.now c.loop-k.k c.args.collector.now c.args.flash.now c.loop-k.collector c.loop-k.flash c.hear.new.self c.hear.new.flash c.get.result.now
    c.loop-k.invariant c.requires.usable c.get.ensures.bytes (λ me heard col many. (c.hear.ensures.too_many me heard col many).1)

pub returns-in-Some-clause-alone : goal.returns-in-Some-clause-alone
returns-in-Some-clause-alone g c =
    heard_alone g.S.Stage g.F.Flash c.args.pid c.args.each.now c.loop-k.k c.args.collector.now c.args.flash.now c.loop-k.collector c.loop-k.flash c.hear.new.self c.hear.new.flash c.get.result.now
    c.loop-k.invariant c.requires.usable c.get.ensures.bytes (λ me heard col many. (c.hear.ensures.too_many me heard col many).1)

pub returns-clause-alone : goal.returns-clause-alone
returns-clause-alone g c = c.loop-k.invariant.alone

pub returns-in_err-hear-clause-holds : goal.returns-in_err-hear-clause-holds
returns-in_err-hear-clause-holds g c = λ tells me heard col.
    heard_holds g.S.Stage g.F.Flash c.args.pid c.args.each.now c.loop-k.k c.args.collector.now c.args.flash.now c.loop-k.collector c.loop-k.flash c.hear.new.self c.hear.new.flash c.get.result.now
    c.loop-k.invariant c.requires.usable c.get.ensures.bytes tells me heard col (g.F.Flash.contents c.hear.new.flash)
    (c.hear.ensures.holds tells me (after_all c.args.pid (take c.loop-k.k c.args.each.now) heard) (c.loop-k.invariant.collects me heard col))

pub returns-in_err-hear-clause-holds_left : goal.returns-in_err-hear-clause-holds_left
returns-in_err-hear-clause-holds_left g c = λ tells me heard col.
    heard_holds_left g.S.Stage g.F.Flash c.args.pid c.args.each.now c.loop-k.k c.args.collector.now c.args.flash.now c.loop-k.collector c.loop-k.flash c.hear.new.self c.hear.new.flash c.get.result.now
    c.loop-k.invariant c.requires.usable c.get.ensures.bytes tells me heard col
    (c.hear.ensures.holds_left tells me (after_all c.args.pid (take c.loop-k.k c.args.each.now) heard) (c.loop-k.invariant.collects me heard col))

pub returns-in-Some-clause-holds : goal.returns-in-Some-clause-holds
returns-in-Some-clause-holds g c = λ tells me heard col.
    heard_holds g.S.Stage g.F.Flash c.args.pid c.args.each.now c.loop-k.k c.args.collector.now c.args.flash.now c.loop-k.collector c.loop-k.flash c.hear.new.self c.hear.new.flash c.get.result.now
    c.loop-k.invariant c.requires.usable c.get.ensures.bytes tells me heard col (g.F.Flash.contents c.hear.new.flash)
    (c.hear.ensures.holds tells me (after_all c.args.pid (take c.loop-k.k c.args.each.now) heard) (c.loop-k.invariant.collects me heard col))

pub returns-in-Some-clause-holds_left : goal.returns-in-Some-clause-holds_left
returns-in-Some-clause-holds_left g c = λ tells me heard col.
    heard_holds_left g.S.Stage g.F.Flash c.args.pid c.args.each.now c.loop-k.k c.args.collector.now c.args.flash.now c.loop-k.collector c.loop-k.flash c.hear.new.self c.hear.new.flash c.get.result.now
    c.loop-k.invariant c.requires.usable c.get.ensures.bytes tells me heard col
    (c.hear.ensures.holds_left tells me (after_all c.args.pid (take c.loop-k.k c.args.each.now) heard) (c.loop-k.invariant.collects me heard col))

pub returns-clause-holds : goal.returns-clause-holds
returns-clause-holds g c = λ tells me heard col.
    let f = g.F.Flash in
    let all : take c.loop-k.k c.args.each.now ≡ c.args.each.now = take_whole c.args.each.now c.loop-k.k (omega (arith, c.loop-k-test.false, c.len-k-end.ensures)) in
    subst (λ (sections : List (List ℕ)). HoldsHeard (geometry_of c.args.collector.now.bank) me (after_all c.args.pid sections heard) (f.contents c.args.flash.now) (f.contents c.loop-k.flash)) all
    (c.loop-k.invariant.holds tells me heard col)

pub returns-clause-holds_left : goal.returns-clause-holds_left
returns-clause-holds_left g c = λ tells me heard col.
    let f = g.F.Flash in
    let all : take c.loop-k.k c.args.each.now ≡ c.args.each.now = take_whole c.args.each.now c.loop-k.k (omega (arith, c.loop-k-test.false, c.len-k-end.ensures)) in
    subst (λ (sections : List (List ℕ)). LeavesOnly f.moment f.left_since c.args.flash.now c.loop-k.flash (HoldsHeard (geometry_of c.args.collector.now.bank) me (after_all c.args.pid sections heard) (f.contents c.args.flash.now))) all
    (c.loop-k.invariant.holds_left tells me heard col)

-- ---- what stays staged

pub returns-in-Some-clause-lasts : goal.returns-in-Some-clause-lasts
returns-in-Some-clause-lasts g c = λ keeps tells me heard col.
    heard_lasts g.S.Stage g.F.Flash c.args.pid c.args.each.now c.loop-k.k c.args.collector.now c.args.flash.now c.loop-k.collector c.loop-k.flash c.hear.new.self c.hear.new.flash c.get.result.now
    c.loop-k.invariant c.requires.usable c.get.ensures.bytes 0 keeps tells me heard col (g.F.Flash.contents c.hear.new.flash)
    (c.in_ok-hear.ensures.lasts keeps tells me (after_all c.args.pid (take c.loop-k.k c.args.each.now) heard) (c.loop-k.invariant.collects me heard col))

pub returns-in_err-hear-clause-lasts_held : goal.returns-in_err-hear-clause-lasts_held
returns-in_err-hear-clause-lasts_held g c = λ keeps tells me heard col.
    heard_lasts g.S.Stage g.F.Flash c.args.pid c.args.each.now c.loop-k.k c.args.collector.now c.args.flash.now c.loop-k.collector c.loop-k.flash c.hear.new.self c.hear.new.flash c.get.result.now
    c.loop-k.invariant c.requires.usable c.get.ensures.bytes 1 keeps tells me heard col (g.F.Flash.contents c.hear.new.flash)
    (c.hear.ensures.lasts_held keeps tells me (after_all c.args.pid (take c.loop-k.k c.args.each.now) heard) (c.loop-k.invariant.collects me heard col))

pub returns-in_err-hear-clause-lasts_left : goal.returns-in_err-hear-clause-lasts_left
returns-in_err-hear-clause-lasts_left g c = λ keeps tells me heard col.
    heard_lasts_left g.S.Stage g.F.Flash c.args.pid c.args.each.now c.loop-k.k c.args.collector.now c.args.flash.now c.loop-k.collector c.loop-k.flash c.hear.new.self c.hear.new.flash c.get.result.now
    c.loop-k.invariant c.requires.usable c.get.ensures.bytes keeps tells me heard col
    (c.hear.ensures.lasts_left keeps tells me (after_all c.args.pid (take c.loop-k.k c.args.each.now) heard) (c.loop-k.invariant.collects me heard col))

pub returns-in-Some-clause-lasts_held : goal.returns-in-Some-clause-lasts_held
returns-in-Some-clause-lasts_held g c = λ keeps tells me heard col.
    heard_lasts g.S.Stage g.F.Flash c.args.pid c.args.each.now c.loop-k.k c.args.collector.now c.args.flash.now c.loop-k.collector c.loop-k.flash c.hear.new.self c.hear.new.flash c.get.result.now
    c.loop-k.invariant c.requires.usable c.get.ensures.bytes 1 keeps tells me heard col (g.F.Flash.contents c.hear.new.flash)
    (c.hear.ensures.lasts_held keeps tells me (after_all c.args.pid (take c.loop-k.k c.args.each.now) heard) (c.loop-k.invariant.collects me heard col))

pub returns-in-Some-clause-lasts_left : goal.returns-in-Some-clause-lasts_left
returns-in-Some-clause-lasts_left g c = λ keeps tells me heard col.
    heard_lasts_left g.S.Stage g.F.Flash c.args.pid c.args.each.now c.loop-k.k c.args.collector.now c.args.flash.now c.loop-k.collector c.loop-k.flash c.hear.new.self c.hear.new.flash c.get.result.now
    c.loop-k.invariant c.requires.usable c.get.ensures.bytes keeps tells me heard col
    (c.hear.ensures.lasts_left keeps tells me (after_all c.args.pid (take c.loop-k.k c.args.each.now) heard) (c.loop-k.invariant.collects me heard col))

pub returns-clause-lasts : goal.returns-clause-lasts
returns-clause-lasts g c = λ keeps tells me heard col.
    let f = g.F.Flash in
    let all : take c.loop-k.k c.args.each.now ≡ c.args.each.now = take_whole c.args.each.now c.loop-k.k (omega (arith, c.loop-k-test.false, c.len-k-end.ensures)) in
    subst (λ (sections : List (List ℕ)). Lasts 0 (geometry_of c.args.collector.now.bank) me (after_all c.args.pid sections heard) heard (f.contents c.args.flash.now) (f.contents c.loop-k.flash)) all
    (c.loop-k.invariant.lasts keeps tells me heard col)

pub returns-clause-lasts_held : goal.returns-clause-lasts_held
returns-clause-lasts_held g c = λ keeps tells me heard col.
    let f = g.F.Flash in
    lasts_weaker 1 (geometry_of c.args.collector.now.bank) me (after_all c.args.pid c.args.each.now heard) heard (f.contents c.args.flash.now) (f.contents c.loop-k.flash)
    (returns-clause-lasts g c keeps tells me heard col)

pub returns-clause-lasts_left : goal.returns-clause-lasts_left
returns-clause-lasts_left g c = λ keeps tells me heard col.
    let f = g.F.Flash in
    let all : take c.loop-k.k c.args.each.now ≡ c.args.each.now = take_whole c.args.each.now c.loop-k.k (omega (arith, c.loop-k-test.false, c.len-k-end.ensures)) in
    subst (λ (sections : List (List ℕ)). LeavesOnly f.moment f.left_since c.args.flash.now c.loop-k.flash (Lasts 1 (geometry_of c.args.collector.now.bank) me (after_all c.args.pid sections heard) heard (f.contents c.args.flash.now))) all
    (c.loop-k.invariant.lasts_left keeps tells me heard col)

pub returns-clause-margin : goal.returns-clause-margin
returns-clause-margin g c = c.loop-k.invariant.margin
