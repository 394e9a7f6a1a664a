use Rattle.std.proofs.Common.{◌≡◌, ℕ, List, ◌∷◌, inr, ap, refl, sym, subst, ◌∙◌}
use Rattle.std.specs.Prelude.{Ok, Option}
use Rattle.ssu_answer.specs.declared.verdict.Verdict.{Verdict}
use Rattle.flash_dev.specs.Moments.{LeavesOnly}
use Rattle.ts_section.specs.Events.{Event, Feed, Heard, Listen}
use Rattle.ts_section.specs.Hearing.{Hears}
use Rattle.ssu_route.specs.Queries.{after_all, followed, heard_by, listened}
use Rattle.ssu_route.proofs.Following.{followed_more}
use Rattle.ssu_route.specs.Windows.{beginnings}
use Rattle.ssu_loader.specs.Verdicts.{IsSeen}
use Rattle.ssu_loader.specs.Collecting.{Collects, StopsBefore}
use Rattle.flash_bank.specs.Bank.{geometry_of}
use Rattle.ssu_loader.specs.Lasting.{Lasts}
use Rattle.ssu_loader.specs.Leaving.{GoesOn, IfUnsettled, SectionsLeave}
use Rattle.ssu_loader.specs.Life.{HoldsHeard}
use Rattle.ssu_loader.specs.Starting.{KnowsKept}
use Rattle.ssu_loader.proofs.AnsweringLaws.{none_one}
use Rattle.ssu_loader.proofs.PacketLaws.{answer_carried, packet_alone, packet_heard}
use Rattle.ssu_loader.proofs.StoringLaws.{staged_in, stores_in}
use Rattle.ssu_loader.proofs.loader.Loader.packet.Goals as goal

pub hear_each-requires : goal.hear_each-requires
hear_each-requires g c =
    let u = c.requires.usable in
    record {
      usable = record { me = u.me; heard = heard_by u.me u.ps; collects = u.follows.collects };
    }

pub returns-clause-follows : goal.returns-clause-follows
returns-clause-follows g c = λ me ps follows.
    let packet = c.args.packet.now in
    let each = c.feed.ensures.heard (followed me ps) follows.hears in
    let more = packet_heard me packet ps c.feed.new.each c.pid_of.result c.pid_of.ensures each in
    none_one c.in_ok-answer.answer _ _ (λ (col : Collects g.S.Stage g.F.Flash me (after_all c.pid_of.result c.feed.new.each (heard_by me ps)) c.hear_each.new.collector c.hear_each.new.flash).
    let collects = subst (λ (items : List Heard). Collects g.S.Stage g.F.Flash me items c.hear_each.new.collector c.hear_each.new.flash) more col in
    let pids : c.listens-pids.result.items ≡ listened me (heard_by me (packet ∷ ps)) = c.listens-pids.ensures me (heard_by me (packet ∷ ps)) collects.stands in
    let hears = c.listen.ensures.stands (Feed packet ∷ followed me ps) (c.feed.ensures.stands (followed me ps) follows.hears) in
    let listens = subst (λ (items : List ℕ). Hears c.listen.new.self (Listen items ∷ Feed packet ∷ followed me ps)) pids hears in
    record {
      hears = subst (λ (events : List Event). Hears c.listen.new.self events) (sym (followed_more me packet ps c.feed.new.each each)) listens;
      collects = collects;
    })
    (c.in_ok-answer.ensures.collects me (heard_by me ps) follows.collects)

pub returns-clause-goes_on : goal.returns-clause-goes_on
returns-clause-goes_on g c = λ tells me ps follows.
    let packet = c.args.packet.now in
    let each = c.feed.ensures.heard (followed me ps) follows.hears in
    let more = packet_heard me packet ps c.feed.new.each c.pid_of.result c.pid_of.ensures each in
    let f = g.F.Flash in
    subst (λ (items : List Heard). GoesOn me items c.args.self.now.collector.bank (f.contents c.args.flash.now) (f.contents c.hear_each.new.flash) c.in_ok-answer.answer) more
    (c.in_ok-answer.ensures.goes_on tells me (heard_by me ps) follows.collects)

pub returns-in_err-answer-clause-held : goal.returns-in_err-answer-clause-held
returns-in_err-answer-clause-held g c = λ tells me ps follows.
    let packet = c.args.packet.now in
    let each = c.feed.ensures.heard (followed me ps) follows.hears in
    let more = packet_heard me packet ps c.feed.new.each c.pid_of.result c.pid_of.ensures each in
    let f = g.F.Flash in
    subst (λ (items : List Heard). SectionsLeave me items c.args.self.now.collector.bank (f.contents c.args.flash.now) (f.contents c.hear_each.new.flash)) more
    (c.hear_each.ensures.held tells me (heard_by me ps) follows.collects)

pub returns-in_err-answer-clause-left : goal.returns-in_err-answer-clause-left
returns-in_err-answer-clause-left g c = λ tells me ps follows.
    let packet = c.args.packet.now in
    let each = c.feed.ensures.heard (followed me ps) follows.hears in
    let more = packet_heard me packet ps c.feed.new.each c.pid_of.result c.pid_of.ensures each in
    let f = g.F.Flash in
    subst (λ (items : List Heard). LeavesOnly f.moment f.left_since c.args.flash.now c.hear_each.new.flash (SectionsLeave me items c.args.self.now.collector.bank (f.contents c.args.flash.now))) more
    (c.hear_each.ensures.left tells me (heard_by me ps) follows.collects)

pub returns-clause-held : goal.returns-clause-held
returns-clause-held g c = λ tells me ps follows.
    let packet = c.args.packet.now in
    let each = c.feed.ensures.heard (followed me ps) follows.hears in
    let more = packet_heard me packet ps c.feed.new.each c.pid_of.result c.pid_of.ensures each in
    let f = g.F.Flash in
    subst (λ (items : List Heard). SectionsLeave me items c.args.self.now.collector.bank (f.contents c.args.flash.now) (f.contents c.hear_each.new.flash)) more
    (c.hear_each.ensures.held tells me (heard_by me ps) follows.collects)

pub returns-clause-left : goal.returns-clause-left
returns-clause-left g c = λ tells me ps follows.
    let packet = c.args.packet.now in
    let each = c.feed.ensures.heard (followed me ps) follows.hears in
    let more = packet_heard me packet ps c.feed.new.each c.pid_of.result c.pid_of.ensures each in
    let f = g.F.Flash in
    subst (λ (items : List Heard). LeavesOnly f.moment f.left_since c.args.flash.now c.hear_each.new.flash (SectionsLeave me items c.args.self.now.collector.bank (f.contents c.args.flash.now))) more
    (c.hear_each.ensures.left tells me (heard_by me ps) follows.collects)

pub returns-clause-seen : goal.returns-clause-seen
returns-clause-seen g c = λ me ps follows.
    let packet = c.args.packet.now in
    let each = c.feed.ensures.heard (followed me ps) follows.hears in
    let more = packet_heard me packet ps c.feed.new.each c.pid_of.result c.pid_of.ensures each in
    subst (λ (items : List Heard). IsSeen (KnowsKept g.S.Stage g.F.Flash) me items c.in_ok-answer.answer) more (c.in_ok-answer.ensures.seen me (heard_by me ps) follows.collects)

pub returns-in_err-answer-clause-untouched : goal.returns-in_err-answer-clause-untouched
returns-in_err-answer-clause-untouched g c = λ me ps follows none.
    let packet = c.args.packet.now in
    let each = c.feed.ensures.heard (followed me ps) follows.hears in
    let more = packet_heard me packet ps c.feed.new.each c.pid_of.result c.pid_of.ensures each in
    c.hear_each.ensures.untouched me (heard_by me ps) follows.collects (ap (beginnings me) more ∙ none)

pub returns-clause-untouched : goal.returns-clause-untouched
returns-clause-untouched g c = λ me ps follows none.
    let packet = c.args.packet.now in
    let each = c.feed.ensures.heard (followed me ps) follows.hears in
    let more = packet_heard me packet ps c.feed.new.each c.pid_of.result c.pid_of.ensures each in
    c.hear_each.ensures.untouched me (heard_by me ps) follows.collects (ap (beginnings me) more ∙ none)

pub returns-in_err-answer-clause-carried : goal.returns-in_err-answer-clause-carried
returns-in_err-answer-clause-carried g c = λ tells me ps chosen image follows reached unfailed. absurd (unfailed (c.in_err-answer.ensures.cause.failed refl))

pub returns-clause-carried : goal.returns-clause-carried
returns-clause-carried g c = λ tells me ps chosen image follows reached unfailed.
    let packet = c.args.packet.now in
    let each = c.feed.ensures.heard (followed me ps) follows.hears in
    let more = packet_heard me packet ps c.feed.new.each c.pid_of.result c.pid_of.ensures each in
    let f = g.F.Flash in
    let bank = c.args.self.now.collector.bank in
    let x = f.contents c.args.flash.now in
    let y = f.contents c.hear_each.new.flash in
    let heard = heard_by me (packet ∷ ps) in
    ap (λ (answer : Option Verdict). Ok answer)
    (answer_carried (KnowsKept g.S.Stage g.F.Flash) (inr tells) me heard bank x y chosen image c.in_ok-answer.answer reached
    (subst (λ (items : List Heard). IsSeen (KnowsKept g.S.Stage g.F.Flash) me items c.in_ok-answer.answer) more (c.in_ok-answer.ensures.seen me (heard_by me ps) follows.collects))
    (subst (λ (items : List Heard). GoesOn me items bank x y c.in_ok-answer.answer) more (c.in_ok-answer.ensures.goes_on tells me (heard_by me ps) follows.collects)))

pub returns-clause-too_many : goal.returns-clause-too_many
returns-clause-too_many g c = λ me ps follows.
    let packet = c.args.packet.now in
    let each = c.feed.ensures.heard (followed me ps) follows.hears in
    let more = packet_heard me packet ps c.feed.new.each c.pid_of.result c.pid_of.ensures each in
    subst (λ (items : List Heard). IfUnsettled c.in_ok-answer.answer (StopsBefore g.S.Stage g.F.Flash me items c.hear_each.new.flash)) more
    (c.in_ok-answer.ensures.too_many me (heard_by me ps) follows.collects)

pub returns-clause-stored : goal.returns-clause-stored
returns-clause-stored g c = λ in_bank tells me ps follows.
    let heard = heard_by me (c.args.packet.now ∷ ps) in
    none_one c.in_ok-answer.answer _ _
    (λ own. stores_in g.S.Stage g.F.Flash g.met.S.Stage.in_bank in_bank tells me heard c.hear_each.new.collector c.hear_each.new.flash own.collects)
    (returns-clause-follows g c me ps follows)

pub returns-clause-staged : goal.returns-clause-staged
returns-clause-staged g c = λ keeps tells me ps follows.
    let heard = heard_by me (c.args.packet.now ∷ ps) in
    none_one c.in_ok-answer.answer _ _
    (λ own. staged_in g.S.Stage g.F.Flash keeps tells me heard c.hear_each.new.collector c.hear_each.new.flash own.collects)
    (returns-clause-follows g c me ps follows)

pub returns-in_err-answer-clause-alone : goal.returns-in_err-answer-clause-alone
returns-in_err-answer-clause-alone g c = λ me ps follows many.
    let each = c.feed.ensures.heard (followed me ps) follows.hears in
    c.hear_each.ensures.alone me (heard_by me ps) follows.collects
    (packet_alone me c.args.packet.now ps c.feed.new.each c.pid_of.result c.pid_of.ensures each many)

pub returns-clause-alone : goal.returns-clause-alone
returns-clause-alone g c = λ me ps follows many.
    let each = c.feed.ensures.heard (followed me ps) follows.hears in
    c.hear_each.ensures.alone me (heard_by me ps) follows.collects
    (packet_alone me c.args.packet.now ps c.feed.new.each c.pid_of.result c.pid_of.ensures each many)

pub returns-in_err-answer-clause-holds : goal.returns-in_err-answer-clause-holds
returns-in_err-answer-clause-holds g c = λ tells me ps follows.
    let packet = c.args.packet.now in
    let each = c.feed.ensures.heard (followed me ps) follows.hears in
    let more = packet_heard me packet ps c.feed.new.each c.pid_of.result c.pid_of.ensures each in
    let f = g.F.Flash in
    subst (λ (items : List Heard). HoldsHeard (geometry_of c.args.self.now.collector.bank) me items (f.contents c.args.flash.now) (f.contents c.hear_each.new.flash)) more
    (c.hear_each.ensures.holds tells me (heard_by me ps) follows.collects)

pub returns-in_err-answer-clause-holds_left : goal.returns-in_err-answer-clause-holds_left
returns-in_err-answer-clause-holds_left g c = λ tells me ps follows.
    let packet = c.args.packet.now in
    let each = c.feed.ensures.heard (followed me ps) follows.hears in
    let more = packet_heard me packet ps c.feed.new.each c.pid_of.result c.pid_of.ensures each in
    let f = g.F.Flash in
    subst (λ (items : List Heard). LeavesOnly f.moment f.left_since c.args.flash.now c.hear_each.new.flash (HoldsHeard (geometry_of c.args.self.now.collector.bank) me items (f.contents c.args.flash.now))) more
    (c.hear_each.ensures.holds_left tells me (heard_by me ps) follows.collects)

pub returns-clause-holds : goal.returns-clause-holds
returns-clause-holds g c = λ tells me ps follows.
    let packet = c.args.packet.now in
    let each = c.feed.ensures.heard (followed me ps) follows.hears in
    let more = packet_heard me packet ps c.feed.new.each c.pid_of.result c.pid_of.ensures each in
    let f = g.F.Flash in
    subst (λ (items : List Heard). HoldsHeard (geometry_of c.args.self.now.collector.bank) me items (f.contents c.args.flash.now) (f.contents c.hear_each.new.flash)) more
    (c.hear_each.ensures.holds tells me (heard_by me ps) follows.collects)

pub returns-clause-holds_left : goal.returns-clause-holds_left
returns-clause-holds_left g c = λ tells me ps follows.
    let packet = c.args.packet.now in
    let each = c.feed.ensures.heard (followed me ps) follows.hears in
    let more = packet_heard me packet ps c.feed.new.each c.pid_of.result c.pid_of.ensures each in
    let f = g.F.Flash in
    subst (λ (items : List Heard). LeavesOnly f.moment f.left_since c.args.flash.now c.hear_each.new.flash (HoldsHeard (geometry_of c.args.self.now.collector.bank) me items (f.contents c.args.flash.now))) more
    (c.hear_each.ensures.holds_left tells me (heard_by me ps) follows.collects)

-- ---- what stays staged

pub returns-clause-lasts : goal.returns-clause-lasts
returns-clause-lasts g c = λ keeps tells me ps follows.
    let packet = c.args.packet.now in
    let each = c.feed.ensures.heard (followed me ps) follows.hears in
    let more = packet_heard me packet ps c.feed.new.each c.pid_of.result c.pid_of.ensures each in
    let f = g.F.Flash in
    subst (λ (items : List Heard). Lasts 0 (geometry_of c.args.self.now.collector.bank) me items (heard_by me ps) (f.contents c.args.flash.now) (f.contents c.hear_each.new.flash)) more
    (c.in_ok-answer.ensures.lasts keeps tells me (heard_by me ps) follows.collects)

pub returns-in_err-answer-clause-lasts_held : goal.returns-in_err-answer-clause-lasts_held
returns-in_err-answer-clause-lasts_held g c = λ keeps tells me ps follows.
    let packet = c.args.packet.now in
    let each = c.feed.ensures.heard (followed me ps) follows.hears in
    let more = packet_heard me packet ps c.feed.new.each c.pid_of.result c.pid_of.ensures each in
    let f = g.F.Flash in
    subst (λ (items : List Heard). Lasts 1 (geometry_of c.args.self.now.collector.bank) me items (heard_by me ps) (f.contents c.args.flash.now) (f.contents c.hear_each.new.flash)) more
    (c.hear_each.ensures.lasts_held keeps tells me (heard_by me ps) follows.collects)

pub returns-in_err-answer-clause-lasts_left : goal.returns-in_err-answer-clause-lasts_left
returns-in_err-answer-clause-lasts_left g c = λ keeps tells me ps follows.
    let packet = c.args.packet.now in
    let each = c.feed.ensures.heard (followed me ps) follows.hears in
    let more = packet_heard me packet ps c.feed.new.each c.pid_of.result c.pid_of.ensures each in
    let f = g.F.Flash in
    subst (λ (items : List Heard). LeavesOnly f.moment f.left_since c.args.flash.now c.hear_each.new.flash (Lasts 1 (geometry_of c.args.self.now.collector.bank) me items (heard_by me ps) (f.contents c.args.flash.now))) more
    (c.hear_each.ensures.lasts_left keeps tells me (heard_by me ps) follows.collects)

pub returns-clause-lasts_held : goal.returns-clause-lasts_held
returns-clause-lasts_held g c = λ keeps tells me ps follows.
    let packet = c.args.packet.now in
    let each = c.feed.ensures.heard (followed me ps) follows.hears in
    let more = packet_heard me packet ps c.feed.new.each c.pid_of.result c.pid_of.ensures each in
    let f = g.F.Flash in
    subst (λ (items : List Heard). Lasts 1 (geometry_of c.args.self.now.collector.bank) me items (heard_by me ps) (f.contents c.args.flash.now) (f.contents c.hear_each.new.flash)) more
    (c.hear_each.ensures.lasts_held keeps tells me (heard_by me ps) follows.collects)

pub returns-clause-lasts_left : goal.returns-clause-lasts_left
returns-clause-lasts_left g c = λ keeps tells me ps follows.
    let packet = c.args.packet.now in
    let each = c.feed.ensures.heard (followed me ps) follows.hears in
    let more = packet_heard me packet ps c.feed.new.each c.pid_of.result c.pid_of.ensures each in
    let f = g.F.Flash in
    subst (λ (items : List Heard). LeavesOnly f.moment f.left_since c.args.flash.now c.hear_each.new.flash (Lasts 1 (geometry_of c.args.self.now.collector.bank) me items (heard_by me ps) (f.contents c.args.flash.now))) more
    (c.hear_each.ensures.lasts_left keeps tells me (heard_by me ps) follows.collects)

pub returns-clause-margin : goal.returns-clause-margin
returns-clause-margin g c = λ keeps tells me ps follows. c.in_ok-answer.ensures.margin keeps tells me (heard_by me ps) follows.collects
