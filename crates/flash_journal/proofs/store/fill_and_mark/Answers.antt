use Rattle.std.proofs.Common.{◌≡◌, ℕ, ◌+◌, List, length, sym, ap, subst, ◌∙◌, arith}
use Rattle.std.specs.Prelude.{OnOk}
use Rattle.bank_kept.specs.Bank.{area_of_bank}
use Rattle.flash_bank.specs.Bank.{LeavesFilled, geometry_of, spare_bank}
use Rattle.flash_bank.specs.Journal.{LeavesMarked, mark_place}
use Rattle.flash_bank.specs.declared.record.Record.{Record}
use Rattle.flash_dev.proofs.Moments.{joined, weaker}
use Rattle.flash_dev.specs.Changes.{Changes, IsBlank, IsProgrammed}
use Rattle.flash_layout.specs.Journal.{mark_written}
use Rattle.flash_layout.specs.Layout.{mark_count}
use Rattle.flash_stage.proofs.LeavingLaws.{on_ok}
use Rattle.flash_stage.specs.Leaving.{SameBank}
use Rattle.flash_journal.proofs.StoreLaws.{filling_leaves, marked_offers, marking_leaves, pair_still, range_blank}
use Rattle.flash_journal.specs.Storing.{LeavesStored}
use Rattle.flash_journal.proofs.store.fill_and_mark.Goals as goal

pub fill-requires-clause-blank : goal.fill-requires-clause-blank
fill-requires-clause-blank g c tells =
    let x = g.F.Flash.contents c.args.flash.now in
    subst (λ (n : ℕ). IsBlank x (spare_bank c.args.bank.now + c.args.place.at) n) (sym c.requires.length)
    (range_blank (area_of_bank c.args.bank.now) x c.args.place.number c.args.place (c.requires.blank tells))

pub returns-in_err-fill-clause-held : goal.returns-in_err-fill-clause-held
returns-in_err-fill-clause-held g c tells dii message is =
    let b = c.args.bank.now in
    let x = g.F.Flash.contents c.args.flash.now in
    filling_leaves b x (c.requires.lent.fits tells) c.args.place c.args.bytes.now c.requires.inside c.requires.length dii message is _ (c.fill.ensures.held tells)

pub returns-in_err-fill-clause-left : goal.returns-in_err-fill-clause-left
returns-in_err-fill-clause-left g c tells dii message is =
    let F = g.F.Flash in
    let b = c.args.bank.now in
    let x = F.contents c.args.flash.now in
    weaker F.moment F.left_since c.args.flash.now c.fill.new.flash (LeavesFilled b c.args.place.at c.args.bytes.now x) _
    (λ y. filling_leaves b x (c.requires.lent.fits tells) c.args.place c.args.bytes.now c.requires.inside c.requires.length dii message is y) (c.fill.ensures.left tells)

pub mark-requires-clause-blank : goal.mark-requires-clause-blank
mark-requires-clause-blank g c tells =
    let b = c.args.bank.now in
    let x = g.F.Flash.contents c.args.flash.now in
    let z = g.F.Flash.contents c.fill.new.flash in
    let same : SameBank b c.fill.new.self = record { geometry = c.fill.ensures.geometry; current = c.fill.ensures.current; block = c.fill.ensures.block } in
    let two = ap (λ (h : Record). h.layout) c.fill.ensures.current ∙ c.requires.two in
    let offered = c.requires.offered tells in
    pair_still b x (c.requires.lent.fits tells) c.args.place c.args.bytes.now c.requires.inside c.requires.length c.fill.new.self z same (c.in_ok-fill.ensures.lent.fits tells) two
    (omega (arith, c.requires.mark, ap mark_count c.fill.ensures.geometry)) (c.fill.ensures.held tells) (c.in_ok-fill.ensures.filled tells) offered.dii offered.message offered.is (c.requires.blank tells)

pub returns-clause-stored : goal.returns-clause-stored
returns-clause-stored g c tells =
    let b = c.args.bank.now in
    let x = g.F.Flash.contents c.args.flash.now in
    let z = g.F.Flash.contents c.fill.new.flash in
    let y = g.F.Flash.contents c.mark.new.flash in
    let same : SameBank b c.fill.new.self = record { geometry = c.fill.ensures.geometry; current = c.fill.ensures.current; block = c.fill.ensures.block } in
    let two = ap (λ (h : Record). h.layout) c.fill.ensures.current ∙ c.requires.two in
    on_ok (Changes (mark_place c.fill.new.self c.args.place.number) 2 (IsProgrammed mark_written) z y) _ c.mark.result
    (λ marked dii message is. marked_offers b x (c.requires.lent.fits tells) c.args.place c.args.bytes.now c.requires.inside c.requires.length c.fill.new.self z same (c.in_ok-fill.ensures.lent.fits tells) two
    (omega (arith, c.requires.mark, ap mark_count c.fill.ensures.geometry)) (c.fill.ensures.held tells) (c.in_ok-fill.ensures.filled tells) dii message is y marked)
    (c.mark.ensures.marked tells)

pub returns-clause-held : goal.returns-clause-held
returns-clause-held g c tells dii message is =
    let b = c.args.bank.now in
    let x = g.F.Flash.contents c.args.flash.now in
    let z = g.F.Flash.contents c.fill.new.flash in
    let same : SameBank b c.fill.new.self = record { geometry = c.fill.ensures.geometry; current = c.fill.ensures.current; block = c.fill.ensures.block } in
    let two = ap (λ (h : Record). h.layout) c.fill.ensures.current ∙ c.requires.two in
    marking_leaves b x (c.requires.lent.fits tells) c.args.place c.args.bytes.now c.requires.inside c.requires.length c.fill.new.self z same (c.in_ok-fill.ensures.lent.fits tells) two
    (omega (arith, c.requires.mark, ap mark_count c.fill.ensures.geometry)) (c.fill.ensures.held tells) (c.in_ok-fill.ensures.filled tells) dii message is _ (c.mark.ensures.held tells)

pub returns-clause-left : goal.returns-clause-left
returns-clause-left g c tells dii message is =
    let F = g.F.Flash in
    let b = c.args.bank.now in
    let x = F.contents c.args.flash.now in
    let z = F.contents c.fill.new.flash in
    let same : SameBank b c.fill.new.self = record { geometry = c.fill.ensures.geometry; current = c.fill.ensures.current; block = c.fill.ensures.block } in
    let two = ap (λ (h : Record). h.layout) c.fill.ensures.current ∙ c.requires.two in
    let P = LeavesStored (geometry_of b) (area_of_bank b) dii message c.args.place.number c.args.bytes.now x in
    joined F.moment F.left_since c.args.flash.now c.fill.new.flash c.mark.new.flash P
    (weaker F.moment F.left_since c.args.flash.now c.fill.new.flash (LeavesFilled b c.args.place.at c.args.bytes.now x) P
    (λ y. filling_leaves b x (c.requires.lent.fits tells) c.args.place c.args.bytes.now c.requires.inside c.requires.length dii message is y) (c.fill.ensures.left tells))
    (weaker F.moment F.left_since c.fill.new.flash c.mark.new.flash (LeavesMarked c.fill.new.self c.args.place.number z) P
    (λ y. marking_leaves b x (c.requires.lent.fits tells) c.args.place c.args.bytes.now c.requires.inside c.requires.length c.fill.new.self z same (c.in_ok-fill.ensures.lent.fits tells) two
    (omega (arith, c.requires.mark, ap mark_count c.fill.ensures.geometry)) (c.fill.ensures.held tells) (c.in_ok-fill.ensures.filled tells) dii message is y) (c.mark.ensures.left tells))
