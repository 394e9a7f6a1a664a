use Rattle.std.proofs.Common.{◌≡◌, ℕ, List, sym, ap, subst, ◌∙◌, arith}
use Rattle.bank_kept.specs.Bank.{area_of_bank}
use Rattle.flash_kept.specs.Counts.{find_below}
use Rattle.flash_kept.specs.Slots.{is_marked, is_slot_of}
use Rattle.flash_kept.specs.SpareArea.{SpareArea}
use Rattle.flash_layout.specs.Layout.{Geometry, mark_count}
use Rattle.flash_journal.proofs.FittingLaws.{fits_first, fits_marked, fits_no_place, fits_none, option_tested, read_of}
use Rattle.flash_journal.proofs.LooksLaws.{looks_joined}
use Rattle.flash_journal.proofs.PlanLaws.{below_places}
use Rattle.flash_journal.proofs.ReadingLaws.{area_same}
use Rattle.flash_journal.proofs.staged.slot_fits.Goals as goal

pub returns-in_default-clause-found : goal.returns-in_default-clause-found
returns-in_default-clause-found g c tells =
    fits_none (area_of_bank c.args.bank.now) c.args.plan.now (g.F.Flash.contents c.args.flash.now) c.args.slot c.in_ok-range.range c.in_default.is (c.in_ok-range.ensures.valid tells)

pub returns-in_default-place_with-clause-found : goal.returns-in_default-place_with-clause-found
returns-in_default-place_with-clause-found g c tells =
    let area = area_of_bank c.args.bank.now in
    let x = g.F.Flash.contents c.args.flash.now in
    let read = read_of area c.args.plan.now x c.args.slot c.in_ok-range.range c.in-Some.range c.in-Some.is (c.in_ok-range.ensures.valid tells) (c.in_ok-range.ensures.value tells) in
    fits_no_place area c.args.plan.now x c.args.slot c.in-Some.range read c.in_default-place_with.ensures.none

pub is_marked-requires-clause-mark : goal.is_marked-requires-clause-mark
is_marked-requires-clause-mark g c =
    let p = c.in-Some-place_with.place in
    let below = below_places c.args.plan.now p.number p c.in-Some-place_with.ensures.found.0 in
    let marks = ap (λ (s : Geometry). mark_count s) c.slot_range.ensures.looks.geometry in
    let few = c.requires.few in
    omega (arith, below, marks, few)

pub returns-in_err-marked-clause-looks : goal.returns-in_err-marked-clause-looks
returns-in_err-marked-clause-looks g c =
    let F = g.F.Flash in
    looks_joined F.tells F.contents F.block_count F.block_len F.moment F.left_since c.args.flash.now c.slot_range.new.flash c.is_marked.new.flash c.args.bank.now c.slot_range.new.bank c.is_marked.new.bank
    c.slot_range.ensures.looks c.is_marked.ensures.looks

pub returns-then-marked-clause-found : goal.returns-then-marked-clause-found
returns-then-marked-clause-found g c tells =
    let F = g.F.Flash in
    let area = area_of_bank c.args.bank.now in
    let x = F.contents c.args.flash.now in
    let p = c.in-Some-place_with.place in
    let found = c.in-Some-place_with.ensures.found in
    let looks = c.slot_range.ensures.looks in
    let read = read_of area c.args.plan.now x c.args.slot c.in_ok-range.range c.in-Some.range c.in-Some.is (c.in_ok-range.ensures.valid tells) (c.in_ok-range.ensures.value tells) in
    let is : c.in_ok-marked.marked ≡ is_marked area x p.number =
    subst (λ (l : List ℕ). c.in_ok-marked.marked ≡ is_marked area l p.number) (looks.reads.same tells)
    (subst (λ (a : SpareArea). c.in_ok-marked.marked ≡ is_marked a (F.contents c.slot_range.new.flash) p.number) (area_same c.args.bank.now c.slot_range.new.bank looks.geometry looks.current) (c.in_ok-marked.ensures.found tells)) in
    fits_marked area c.args.plan.now x c.args.slot c.in-Some.range read p found.0 found.1 found.2 (sym is ∙ c.if-marked.true)

pub returns-then-marked-clause-looks : goal.returns-then-marked-clause-looks
returns-then-marked-clause-looks g c =
    let F = g.F.Flash in
    looks_joined F.tells F.contents F.block_count F.block_len F.moment F.left_since c.args.flash.now c.slot_range.new.flash c.is_marked.new.flash c.args.bank.now c.slot_range.new.bank c.is_marked.new.bank
    c.slot_range.ensures.looks c.is_marked.ensures.looks

pub returns-in_err-first-clause-looks : goal.returns-in_err-first-clause-looks
returns-in_err-first-clause-looks g c =
    let F = g.F.Flash in
    looks_joined F.tells F.contents F.block_count F.block_len F.moment F.left_since c.args.flash.now c.is_marked.new.flash c.slot_of.new.flash c.args.bank.now c.is_marked.new.bank c.slot_of.new.bank
    (looks_joined F.tells F.contents F.block_count F.block_len F.moment F.left_since c.args.flash.now c.slot_range.new.flash c.is_marked.new.flash c.args.bank.now c.slot_range.new.bank c.is_marked.new.bank
    c.slot_range.ensures.looks c.is_marked.ensures.looks) c.slot_of.ensures.looks

pub returns-clause-looks : goal.returns-clause-looks
returns-clause-looks g c =
    let F = g.F.Flash in
    looks_joined F.tells F.contents F.block_count F.block_len F.moment F.left_since c.args.flash.now c.is_marked.new.flash c.slot_of.new.flash c.args.bank.now c.is_marked.new.bank c.slot_of.new.bank
    (looks_joined F.tells F.contents F.block_count F.block_len F.moment F.left_since c.args.flash.now c.slot_range.new.flash c.is_marked.new.flash c.args.bank.now c.slot_range.new.bank c.is_marked.new.bank
    c.slot_range.ensures.looks c.is_marked.ensures.looks) c.slot_of.ensures.looks

pub returns-clause-found : goal.returns-clause-found
returns-clause-found g c tells =
    let F = g.F.Flash in
    let area = area_of_bank c.args.bank.now in
    let x = F.contents c.args.flash.now in
    let p = c.in-Some-place_with.place in
    let found = c.in-Some-place_with.ensures.found in
    let looks = c.slot_range.ensures.looks in
    let both = looks_joined F.tells F.contents F.block_count F.block_len F.moment F.left_since c.args.flash.now c.slot_range.new.flash c.is_marked.new.flash c.args.bank.now c.slot_range.new.bank c.is_marked.new.bank
    c.slot_range.ensures.looks c.is_marked.ensures.looks in
    let read = read_of area c.args.plan.now x c.args.slot c.in_ok-range.range c.in-Some.range c.in-Some.is (c.in_ok-range.ensures.valid tells) (c.in_ok-range.ensures.value tells) in
    let is : c.in_ok-marked.marked ≡ is_marked area x p.number =
    subst (λ (l : List ℕ). c.in_ok-marked.marked ≡ is_marked area l p.number) (looks.reads.same tells)
    (subst (λ (a : SpareArea). c.in_ok-marked.marked ≡ is_marked a (F.contents c.slot_range.new.flash) p.number) (area_same c.args.bank.now c.slot_range.new.bank looks.geometry looks.current) (c.in_ok-marked.ensures.found tells)) in
    let slot : c.in_ok-first.first ≡ find_below (is_slot_of area x p) 16 =
    subst (λ (l : List ℕ). c.in_ok-first.first ≡ find_below (is_slot_of area l p) 16) (both.reads.same tells)
    (subst (λ (a : SpareArea). c.in_ok-first.first ≡ find_below (is_slot_of a (F.contents c.is_marked.new.flash) p) 16) (area_same c.args.bank.now c.is_marked.new.bank both.geometry both.current) (c.in_ok-first.ensures.found tells)) in
    fits_first area c.args.plan.now x c.args.slot c.in-Some.range read p found.0 found.1 found.2 (sym is ∙ c.if-marked.false) c.requires.slot c.in_ok-first.first slot c.eq.result (option_tested c.in_ok-first.first c.args.slot c.eq.result c.eq.ensures)
