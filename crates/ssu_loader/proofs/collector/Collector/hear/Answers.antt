use Rattle.std.proofs.Common.{◌≡◌, ◌∷◌, ap, arith, inl, sym, ◌∙◌}
use Rattle.flash_bank.proofs.LeavingLemmas.{keeps_boot_same}
use Rattle.flash_bank.specs.Bank.{geometry_of}
use Rattle.flash_bank.specs.declared.record.Record.{Record}
use Rattle.route_tables.specs.Next.{heard_on}
use Rattle.ssu_route.specs.declared.change.Change.TheVariants as change
use Rattle.ssu_route.proofs.Choices.{lost_none, one_more_begins}
use Rattle.ssu_loader.specs.Lasting.{Lasts}
use Rattle.ssu_loader.specs.Leaving.{SectionsLeave}
use Rattle.ssu_loader.specs.Life.{HoldsHeard}
use Rattle.ssu_loader.proofs.CollectingLaws.{goes_ahead, none_collects, undecided_of, with_route}
use Rattle.ssu_loader.proofs.DecisionLaws.{not_too_many}
use Rattle.ssu_loader.proofs.HoldingLaws.{holds_itself}
use Rattle.ssu_loader.proofs.LastingLaws.{lasts_same}
use Rattle.ssu_loader.proofs.LeftLaws.{left_now}
use Rattle.ssu_loader.proofs.MarginLaws.{margin_same}
use Rattle.ssu_loader.proofs.collector.Collector.hear.Goals as goal

pub begin-requires : goal.begin-requires
begin-requires g c =
    let u = c.requires.usable in
    let ahead = goes_ahead g.S.Stage g.F.Flash u.me u.heard (heard_on c.args.pid c.args.section.now) c.args.self.now c.hear.new.self c.args.flash.now c.current.result.software
    change.Chosen c.hear.result u.collects
    (ap (λ (r : Record). r.software) c.current.ensures.value) c.hear.ensures.stands c.hear.ensures.change c.in-Chosen.is in
    record {
      usable = record { me = u.me; item = heard_on c.args.pid c.args.section.now; heard = u.heard; ahead = ahead };
    }

pub take-requires : goal.take-requires
take-requires g c =
    let u = c.requires.usable in
    let ahead = goes_ahead g.S.Stage g.F.Flash u.me u.heard (heard_on c.args.pid c.args.section.now) c.args.self.now c.hear.new.self c.args.flash.now c.current.result.software
    change.Same c.hear.result u.collects
    (ap (λ (r : Record). r.software) c.current.ensures.value) c.hear.ensures.stands c.hear.ensures.change c.in-Same.is in
    record {
      right = c.requires.right;
      usable = record { me = u.me; item = heard_on c.args.pid c.args.section.now; heard = u.heard; ahead = ahead };
    }

pub returns-in-Lost-clause-collects : goal.returns-in-Lost-clause-collects
returns-in-Lost-clause-collects g c = λ me heard collects.
    let item = heard_on c.args.pid c.args.section.now in
    let self = c.args.self.now in
    let ahead = goes_ahead g.S.Stage g.F.Flash me heard (heard_on c.args.pid c.args.section.now) c.args.self.now c.hear.new.self c.args.flash.now c.current.result.software
    change.Lost c.hear.result collects
    (ap (λ (r : Record). r.software) c.current.ensures.value) c.hear.ensures.stands c.hear.ensures.change c.in-Lost.is in
    none_collects g.S.Stage g.F.Flash me item heard (record { bank = self.bank; stage = self.stage; route = c.hear.new.self; choices = self.choices }) c.args.flash.now ahead.stands
    (λ chosen. let both : change.Lost ≡ change.Chosen = sym ahead.changes ∙ chosen in absurd cc) (lost_none me item heard ahead.changes) ahead.gathers

pub returns-in-Lost-clause-goes_on : goal.returns-in-Lost-clause-goes_on
returns-in-Lost-clause-goes_on g c = λ tells me heard collects.
    keeps_boot_same (geometry_of c.args.self.now.bank) (g.F.Flash.contents c.args.flash.now) (collects.gathers.lent.fits tells).sound

pub returns-in-Lost-clause-left : goal.returns-in-Lost-clause-left
returns-in-Lost-clause-left g c = λ tells me heard collects.
    let f = g.F.Flash in
    let x = f.contents c.args.flash.now in
    left_now f g.met.F.Flash.only_now c.args.flash.now (SectionsLeave me (heard_on c.args.pid c.args.section.now ∷ heard) c.args.self.now.bank x)
    (inl (keeps_boot_same (geometry_of c.args.self.now.bank) x (collects.gathers.lent.fits tells).sound))

pub returns-in-Chosen-clause-collects : goal.returns-in-Chosen-clause-collects
returns-in-Chosen-clause-collects g c = λ me heard collects.
    let ahead = goes_ahead g.S.Stage g.F.Flash me heard (heard_on c.args.pid c.args.section.now) c.args.self.now c.hear.new.self c.args.flash.now c.current.result.software
    change.Chosen c.hear.result collects
    (ap (λ (r : Record). r.software) c.current.ensures.value) c.hear.ensures.stands c.hear.ensures.change c.in-Chosen.is in
    c.begin.ensures.collects me (heard_on c.args.pid c.args.section.now) heard ahead

pub returns-in-Chosen-clause-goes_on : goal.returns-in-Chosen-clause-goes_on
returns-in-Chosen-clause-goes_on g c = λ tells me heard collects.
    let ahead = goes_ahead g.S.Stage g.F.Flash me heard (heard_on c.args.pid c.args.section.now) c.args.self.now c.hear.new.self c.args.flash.now c.current.result.software
    change.Chosen c.hear.result collects
    (ap (λ (r : Record). r.software) c.current.ensures.value) c.hear.ensures.stands c.hear.ensures.change c.in-Chosen.is in
    c.begin.ensures.goes_on tells me (heard_on c.args.pid c.args.section.now) heard ahead

pub returns-in-Chosen-clause-held : goal.returns-in-Chosen-clause-held
returns-in-Chosen-clause-held g c = λ tells me heard collects.
    let ahead = goes_ahead g.S.Stage g.F.Flash me heard (heard_on c.args.pid c.args.section.now) c.args.self.now c.hear.new.self c.args.flash.now c.current.result.software
    change.Chosen c.hear.result collects
    (ap (λ (r : Record). r.software) c.current.ensures.value) c.hear.ensures.stands c.hear.ensures.change c.in-Chosen.is in
    c.begin.ensures.held tells me (heard_on c.args.pid c.args.section.now) heard ahead

pub returns-in-Chosen-clause-left : goal.returns-in-Chosen-clause-left
returns-in-Chosen-clause-left g c = λ tells me heard collects.
    let ahead = goes_ahead g.S.Stage g.F.Flash me heard (heard_on c.args.pid c.args.section.now) c.args.self.now c.hear.new.self c.args.flash.now c.current.result.software
    change.Chosen c.hear.result collects
    (ap (λ (r : Record). r.software) c.current.ensures.value) c.hear.ensures.stands c.hear.ensures.change c.in-Chosen.is in
    c.begin.ensures.left tells me (heard_on c.args.pid c.args.section.now) heard ahead

pub returns-in-Same-clause-collects : goal.returns-in-Same-clause-collects
returns-in-Same-clause-collects g c = λ me heard collects.
    let ahead = goes_ahead g.S.Stage g.F.Flash me heard (heard_on c.args.pid c.args.section.now) c.args.self.now c.hear.new.self c.args.flash.now c.current.result.software
    change.Same c.hear.result collects
    (ap (λ (r : Record). r.software) c.current.ensures.value) c.hear.ensures.stands c.hear.ensures.change c.in-Same.is in
    c.take.ensures.collects me heard ahead

pub returns-in-Same-clause-goes_on : goal.returns-in-Same-clause-goes_on
returns-in-Same-clause-goes_on g c = λ tells me heard collects.
    let ahead = goes_ahead g.S.Stage g.F.Flash me heard (heard_on c.args.pid c.args.section.now) c.args.self.now c.hear.new.self c.args.flash.now c.current.result.software
    change.Same c.hear.result collects
    (ap (λ (r : Record). r.software) c.current.ensures.value) c.hear.ensures.stands c.hear.ensures.change c.in-Same.is in
    c.take.ensures.goes_on tells me heard ahead

pub returns-in-Same-clause-held : goal.returns-in-Same-clause-held
returns-in-Same-clause-held g c = λ tells me heard collects.
    let ahead = goes_ahead g.S.Stage g.F.Flash me heard (heard_on c.args.pid c.args.section.now) c.args.self.now c.hear.new.self c.args.flash.now c.current.result.software
    change.Same c.hear.result collects
    (ap (λ (r : Record). r.software) c.current.ensures.value) c.hear.ensures.stands c.hear.ensures.change c.in-Same.is in
    c.take.ensures.held tells me heard ahead

pub returns-in-Same-clause-left : goal.returns-in-Same-clause-left
returns-in-Same-clause-left g c = λ tells me heard collects.
    let ahead = goes_ahead g.S.Stage g.F.Flash me heard (heard_on c.args.pid c.args.section.now) c.args.self.now c.hear.new.self c.args.flash.now c.current.result.software
    change.Same c.hear.result collects
    (ap (λ (r : Record). r.software) c.current.ensures.value) c.hear.ensures.stands c.hear.ensures.change c.in-Same.is in
    c.take.ensures.left tells me heard ahead

pub returns-in-Lost-clause-seen : goal.returns-in-Lost-clause-seen
returns-in-Lost-clause-seen g c = λ me heard collects.
    let item = heard_on c.args.pid c.args.section.now in
    let self = c.args.self.now in
    let ahead = goes_ahead g.S.Stage g.F.Flash me heard (heard_on c.args.pid c.args.section.now) c.args.self.now c.hear.new.self c.args.flash.now c.current.result.software
    change.Lost c.hear.result collects
    (ap (λ (r : Record). r.software) c.current.ensures.value) c.hear.ensures.stands c.hear.ensures.change c.in-Lost.is in
    let new = with_route g.S.Stage g.F.Flash me heard self c.hear.new.self in
    let collects = none_collects g.S.Stage g.F.Flash me item heard new c.args.flash.now ahead.stands
    (λ chosen. let both : change.Lost ≡ change.Chosen = sym ahead.changes ∙ chosen in absurd cc) (lost_none me item heard ahead.changes) ahead.gathers in
    undecided_of g.S.Stage g.F.Flash me (item ∷ heard) new c.args.flash.now collects.gathers

pub returns-in-Lost-clause-too_many : goal.returns-in-Lost-clause-too_many
returns-in-Lost-clause-too_many g c = λ me heard collects many.
    let item = heard_on c.args.pid c.args.section.now in
    let ahead = goes_ahead g.S.Stage g.F.Flash me heard (heard_on c.args.pid c.args.section.now) c.args.self.now c.hear.new.self c.args.flash.now c.current.result.software
    change.Lost c.hear.result collects
    (ap (λ (r : Record). r.software) c.current.ensures.value) c.hear.ensures.stands c.hear.ensures.change c.in-Lost.is in
    let not = not_too_many me item heard (λ chosen. let both : change.Lost ≡ change.Chosen = sym ahead.changes ∙ chosen in absurd cc) in
    absurd cc

pub returns-in-Chosen-clause-seen : goal.returns-in-Chosen-clause-seen
returns-in-Chosen-clause-seen g c = λ me heard collects.
    let ahead = goes_ahead g.S.Stage g.F.Flash me heard (heard_on c.args.pid c.args.section.now) c.args.self.now c.hear.new.self c.args.flash.now c.current.result.software
    change.Chosen c.hear.result collects
    (ap (λ (r : Record). r.software) c.current.ensures.value) c.hear.ensures.stands c.hear.ensures.change c.in-Chosen.is in
    c.begin.ensures.seen me (heard_on c.args.pid c.args.section.now) heard ahead

pub returns-in-Chosen-clause-too_many : goal.returns-in-Chosen-clause-too_many
returns-in-Chosen-clause-too_many g c = λ me heard collects many.
    let ahead = goes_ahead g.S.Stage g.F.Flash me heard (heard_on c.args.pid c.args.section.now) c.args.self.now c.hear.new.self c.args.flash.now c.current.result.software
    change.Chosen c.hear.result collects
    (ap (λ (r : Record). r.software) c.current.ensures.value) c.hear.ensures.stands c.hear.ensures.change c.in-Chosen.is in
    c.begin.ensures.too_many me (heard_on c.args.pid c.args.section.now) heard ahead many

pub returns-in-Chosen-clause-untouched : goal.returns-in-Chosen-clause-untouched
returns-in-Chosen-clause-untouched g c = λ me heard collects none.
    let item = heard_on c.args.pid c.args.section.now in
    let ahead = goes_ahead g.S.Stage g.F.Flash me heard (heard_on c.args.pid c.args.section.now) c.args.self.now c.hear.new.self c.args.flash.now c.current.result.software
    change.Chosen c.hear.result collects
    (ap (λ (r : Record). r.software) c.current.ensures.value) c.hear.ensures.stands c.hear.ensures.change c.in-Chosen.is in
    let more = one_more_begins me item heard ahead.changes in
    absurd (omega (arith, more, none))

pub returns-in-Same-clause-seen : goal.returns-in-Same-clause-seen
returns-in-Same-clause-seen g c = λ me heard collects.
    let ahead = goes_ahead g.S.Stage g.F.Flash me heard (heard_on c.args.pid c.args.section.now) c.args.self.now c.hear.new.self c.args.flash.now c.current.result.software
    change.Same c.hear.result collects
    (ap (λ (r : Record). r.software) c.current.ensures.value) c.hear.ensures.stands c.hear.ensures.change c.in-Same.is in
    c.take.ensures.seen me heard ahead

pub returns-in-Same-clause-too_many : goal.returns-in-Same-clause-too_many
returns-in-Same-clause-too_many g c = λ me heard collects many.
    let item = heard_on c.args.pid c.args.section.now in
    let ahead = goes_ahead g.S.Stage g.F.Flash me heard (heard_on c.args.pid c.args.section.now) c.args.self.now c.hear.new.self c.args.flash.now c.current.result.software
    change.Same c.hear.result collects
    (ap (λ (r : Record). r.software) c.current.ensures.value) c.hear.ensures.stands c.hear.ensures.change c.in-Same.is in
    let not = not_too_many me item heard (λ chosen. let both : change.Same ≡ change.Chosen = sym ahead.changes ∙ chosen in absurd cc) in
    absurd cc

pub returns-in-Same-clause-untouched : goal.returns-in-Same-clause-untouched
returns-in-Same-clause-untouched g c = λ me heard collects none.
    let ahead = goes_ahead g.S.Stage g.F.Flash me heard (heard_on c.args.pid c.args.section.now) c.args.self.now c.hear.new.self c.args.flash.now c.current.result.software
    change.Same c.hear.result collects
    (ap (λ (r : Record). r.software) c.current.ensures.value) c.hear.ensures.stands c.hear.ensures.change c.in-Same.is in
    c.take.ensures.untouched me heard ahead none

pub returns-in-Lost-clause-holds_left : goal.returns-in-Lost-clause-holds_left
returns-in-Lost-clause-holds_left g c = λ tells me heard collects.
    let f = g.F.Flash in
    let x = f.contents c.args.flash.now in
    let blocks = geometry_of c.args.self.now.bank in
    let items = heard_on c.args.pid c.args.section.now ∷ heard in
    left_now f g.met.F.Flash.only_now c.args.flash.now (HoldsHeard blocks me items x) (holds_itself blocks me items x)

pub returns-in-Chosen-clause-holds : goal.returns-in-Chosen-clause-holds
returns-in-Chosen-clause-holds g c = λ tells me heard collects.
    let ahead = goes_ahead g.S.Stage g.F.Flash me heard (heard_on c.args.pid c.args.section.now) c.args.self.now c.hear.new.self c.args.flash.now c.current.result.software
    change.Chosen c.hear.result collects
    (ap (λ (r : Record). r.software) c.current.ensures.value) c.hear.ensures.stands c.hear.ensures.change c.in-Chosen.is in
    c.begin.ensures.holds tells me (heard_on c.args.pid c.args.section.now) heard ahead

pub returns-in-Same-clause-holds : goal.returns-in-Same-clause-holds
returns-in-Same-clause-holds g c = λ tells me heard collects.
    let ahead = goes_ahead g.S.Stage g.F.Flash me heard (heard_on c.args.pid c.args.section.now) c.args.self.now c.hear.new.self c.args.flash.now c.current.result.software
    change.Same c.hear.result collects
    (ap (λ (r : Record). r.software) c.current.ensures.value) c.hear.ensures.stands c.hear.ensures.change c.in-Same.is in
    c.take.ensures.holds tells me heard ahead

pub returns-in-Chosen-clause-holds_left : goal.returns-in-Chosen-clause-holds_left
returns-in-Chosen-clause-holds_left g c = λ tells me heard collects.
    let ahead = goes_ahead g.S.Stage g.F.Flash me heard (heard_on c.args.pid c.args.section.now) c.args.self.now c.hear.new.self c.args.flash.now c.current.result.software
    change.Chosen c.hear.result collects
    (ap (λ (r : Record). r.software) c.current.ensures.value) c.hear.ensures.stands c.hear.ensures.change c.in-Chosen.is in
    c.begin.ensures.holds_left tells me (heard_on c.args.pid c.args.section.now) heard ahead

pub returns-in-Same-clause-holds_left : goal.returns-in-Same-clause-holds_left
returns-in-Same-clause-holds_left g c = λ tells me heard collects.
    let ahead = goes_ahead g.S.Stage g.F.Flash me heard (heard_on c.args.pid c.args.section.now) c.args.self.now c.hear.new.self c.args.flash.now c.current.result.software
    change.Same c.hear.result collects
    (ap (λ (r : Record). r.software) c.current.ensures.value) c.hear.ensures.stands c.hear.ensures.change c.in-Same.is in
    c.take.ensures.holds_left tells me heard ahead

-- ---- what stays staged

pub returns-in-Lost-clause-lasts : goal.returns-in-Lost-clause-lasts
returns-in-Lost-clause-lasts g c = λ keeps tells me heard collects.
    lasts_same 0 (geometry_of c.args.self.now.bank) me (heard_on c.args.pid c.args.section.now ∷ heard) heard (g.F.Flash.contents c.args.flash.now)

pub returns-in-Lost-clause-lasts_held : goal.returns-in-Lost-clause-lasts_held
returns-in-Lost-clause-lasts_held g c = λ keeps tells me heard collects.
    lasts_same 1 (geometry_of c.args.self.now.bank) me (heard_on c.args.pid c.args.section.now ∷ heard) heard (g.F.Flash.contents c.args.flash.now)

pub returns-in-Lost-clause-lasts_left : goal.returns-in-Lost-clause-lasts_left
returns-in-Lost-clause-lasts_left g c = λ keeps tells me heard collects.
    let f = g.F.Flash in
    let x = f.contents c.args.flash.now in
    let blocks = geometry_of c.args.self.now.bank in
    let items = heard_on c.args.pid c.args.section.now ∷ heard in
    left_now f g.met.F.Flash.only_now c.args.flash.now (Lasts 1 blocks me items heard x) (lasts_same 1 blocks me items heard x)

pub returns-in-Chosen-clause-lasts : goal.returns-in-Chosen-clause-lasts
returns-in-Chosen-clause-lasts g c = λ keeps tells me heard collects.
    let ahead = goes_ahead g.S.Stage g.F.Flash me heard (heard_on c.args.pid c.args.section.now) c.args.self.now c.hear.new.self c.args.flash.now c.current.result.software
    change.Chosen c.hear.result collects
    (ap (λ (r : Record). r.software) c.current.ensures.value) c.hear.ensures.stands c.hear.ensures.change c.in-Chosen.is in
    c.begin.ensures.lasts keeps tells me (heard_on c.args.pid c.args.section.now) heard ahead

pub returns-in-Chosen-clause-lasts_held : goal.returns-in-Chosen-clause-lasts_held
returns-in-Chosen-clause-lasts_held g c = λ keeps tells me heard collects.
    let ahead = goes_ahead g.S.Stage g.F.Flash me heard (heard_on c.args.pid c.args.section.now) c.args.self.now c.hear.new.self c.args.flash.now c.current.result.software
    change.Chosen c.hear.result collects
    (ap (λ (r : Record). r.software) c.current.ensures.value) c.hear.ensures.stands c.hear.ensures.change c.in-Chosen.is in
    c.begin.ensures.lasts_held keeps tells me (heard_on c.args.pid c.args.section.now) heard ahead

pub returns-in-Chosen-clause-lasts_left : goal.returns-in-Chosen-clause-lasts_left
returns-in-Chosen-clause-lasts_left g c = λ keeps tells me heard collects.
    let ahead = goes_ahead g.S.Stage g.F.Flash me heard (heard_on c.args.pid c.args.section.now) c.args.self.now c.hear.new.self c.args.flash.now c.current.result.software
    change.Chosen c.hear.result collects
    (ap (λ (r : Record). r.software) c.current.ensures.value) c.hear.ensures.stands c.hear.ensures.change c.in-Chosen.is in
    c.begin.ensures.lasts_left keeps tells me (heard_on c.args.pid c.args.section.now) heard ahead

pub returns-in-Same-clause-lasts : goal.returns-in-Same-clause-lasts
returns-in-Same-clause-lasts g c = λ keeps tells me heard collects.
    let ahead = goes_ahead g.S.Stage g.F.Flash me heard (heard_on c.args.pid c.args.section.now) c.args.self.now c.hear.new.self c.args.flash.now c.current.result.software
    change.Same c.hear.result collects
    (ap (λ (r : Record). r.software) c.current.ensures.value) c.hear.ensures.stands c.hear.ensures.change c.in-Same.is in
    c.take.ensures.lasts keeps tells me heard ahead

pub returns-in-Same-clause-lasts_held : goal.returns-in-Same-clause-lasts_held
returns-in-Same-clause-lasts_held g c = λ keeps tells me heard collects.
    let ahead = goes_ahead g.S.Stage g.F.Flash me heard (heard_on c.args.pid c.args.section.now) c.args.self.now c.hear.new.self c.args.flash.now c.current.result.software
    change.Same c.hear.result collects
    (ap (λ (r : Record). r.software) c.current.ensures.value) c.hear.ensures.stands c.hear.ensures.change c.in-Same.is in
    c.take.ensures.lasts_held keeps tells me heard ahead

pub returns-in-Same-clause-lasts_left : goal.returns-in-Same-clause-lasts_left
returns-in-Same-clause-lasts_left g c = λ keeps tells me heard collects.
    let ahead = goes_ahead g.S.Stage g.F.Flash me heard (heard_on c.args.pid c.args.section.now) c.args.self.now c.hear.new.self c.args.flash.now c.current.result.software
    change.Same c.hear.result collects
    (ap (λ (r : Record). r.software) c.current.ensures.value) c.hear.ensures.stands c.hear.ensures.change c.in-Same.is in
    c.take.ensures.lasts_left keeps tells me heard ahead

pub returns-in-Lost-clause-margin : goal.returns-in-Lost-clause-margin
returns-in-Lost-clause-margin g c = λ keeps tells me heard collects.
    margin_same (geometry_of c.args.self.now.bank) (g.F.Flash.contents c.args.flash.now)

pub returns-in-Chosen-clause-margin : goal.returns-in-Chosen-clause-margin
returns-in-Chosen-clause-margin g c = λ keeps tells me heard collects.
    let ahead = goes_ahead g.S.Stage g.F.Flash me heard (heard_on c.args.pid c.args.section.now) c.args.self.now c.hear.new.self c.args.flash.now c.current.result.software
    change.Chosen c.hear.result collects
    (ap (λ (r : Record). r.software) c.current.ensures.value) c.hear.ensures.stands c.hear.ensures.change c.in-Chosen.is in
    c.begin.ensures.margin keeps tells me (heard_on c.args.pid c.args.section.now) heard ahead

pub returns-in-Same-clause-margin : goal.returns-in-Same-clause-margin
returns-in-Same-clause-margin g c = λ keeps tells me heard collects.
    let ahead = goes_ahead g.S.Stage g.F.Flash me heard (heard_on c.args.pid c.args.section.now) c.args.self.now c.hear.new.self c.args.flash.now c.current.result.software
    change.Same c.hear.result collects
    (ap (λ (r : Record). r.software) c.current.ensures.value) c.hear.ensures.stands c.hear.ensures.change c.in-Same.is in
    c.take.ensures.margin keeps tells me heard ahead
