use Rattle.std.proofs.Common.{◌≡◌, ℕ, ◌≤◌, List, sym, ap, subst, ◌∙◌, arith}
use Rattle.bank_kept.specs.Bank.{area_of_bank}
use Rattle.flash_bank.specs.Bank.{geometry_of, len_of}
use Rattle.flash_kept.specs.Slots.{free_slots}
use Rattle.flash_kept.specs.SpareArea.{SpareArea}
use Rattle.flash_layout.specs.Layout.{Geometry, IsInLimits, blocks_of, mark_count, slots_at}
use Rattle.flash_journal.specs.Planned.{lost_in_plan}
use Rattle.flash_journal.specs.declared.side.Side.TheVariants.{InBank}
use Rattle.flash_journal.proofs.FitLaws.{le_tested}
use Rattle.flash_journal.proofs.LooksLaws.{looks_joined, side_len_same}
use Rattle.flash_journal.proofs.ReadingLaws.{area_same}
use Rattle.flash_journal.proofs.staged.is_in_order.Goals as goal

pub slots_fit-requires-clause-slots : goal.slots_fit-requires-clause-slots
slots_fit-requires-clause-slots g c =
    let lent = c.requires.lent in
    let here : blocks_of g.F.Flash c.args.flash.now ≡ geometry_of c.args.bank.now = (λ i. record { blocks = lent.blocks i; block_len = lent.block_size i }) in
    let begin = subst (λ (s : Geometry). IsInLimits s → c.slots_begin-slots.result ≡ slots_at s) here c.slots_begin-slots.ensures in
    begin c.args.bank.now.limits

pub returns-then-not-fit-clause-found : goal.returns-then-not-fit-clause-found
returns-then-not-fit-clause-found g c tells = (λ never. absurd (cc never), λ both. sym c.if-not-fit.true ∙ (c.in_ok-fit.ensures.found tells).1 both.0)

pub free_count-requires-clause-slots : goal.free_count-requires-clause-slots
free_count-requires-clause-slots g c =
    let lent = c.requires.lent in
    let here : blocks_of g.F.Flash c.args.flash.now ≡ geometry_of c.args.bank.now = (λ i. record { blocks = lent.blocks i; block_len = lent.block_size i }) in
    let begin = subst (λ (s : Geometry). IsInLimits s → c.slots_begin-slots.result ≡ slots_at s) here c.slots_begin-slots.ensures in
    begin c.args.bank.now.limits ∙ ap (λ (s : Geometry). slots_at s) (sym c.slots_fit.ensures.looks.geometry)

pub returns-in_err-free-clause-looks : goal.returns-in_err-free-clause-looks
returns-in_err-free-clause-looks g c =
    let F = g.F.Flash in
    looks_joined F.tells F.contents F.block_count F.block_len F.moment F.left_since c.args.flash.now c.slots_fit.new.flash c.free_count.new.flash c.args.bank.now c.slots_fit.new.bank c.free_count.new.bank
    c.slots_fit.ensures.looks c.free_count.ensures.looks

pub lost_count-requires-clause-inside : goal.lost_count-requires-clause-inside
lost_count-requires-clause-inside g c =
    let first = c.slots_fit.ensures.looks in
    let second = c.free_count.ensures.looks in
    let len : len_of c.free_count.new.bank ≡ len_of c.args.bank.now = side_len_same InBank c.args.bank.now c.free_count.new.bank (second.geometry ∙ first.geometry) (second.current ∙ first.current) in
    omega (arith, len, c.requires.inside)

pub lost_count-requires-clause-few : goal.lost_count-requires-clause-few
lost_count-requires-clause-few g c =
    let first = c.slots_fit.ensures.looks in
    let second = c.free_count.ensures.looks in
    subst (λ (s : Geometry). c.args.plan.now.places ≤ mark_count s) (sym (second.geometry ∙ first.geometry)) c.requires.few

pub returns-in_err-lost-clause-looks : goal.returns-in_err-lost-clause-looks
returns-in_err-lost-clause-looks g c =
    let F = g.F.Flash in
    looks_joined F.tells F.contents F.block_count F.block_len F.moment F.left_since c.args.flash.now c.free_count.new.flash c.lost_count.new.flash c.args.bank.now c.free_count.new.bank c.lost_count.new.bank
    (looks_joined F.tells F.contents F.block_count F.block_len F.moment F.left_since c.args.flash.now c.slots_fit.new.flash c.free_count.new.flash c.args.bank.now c.slots_fit.new.bank c.free_count.new.bank
    c.slots_fit.ensures.looks c.free_count.ensures.looks) c.lost_count.ensures.looks

pub returns-clause-looks : goal.returns-clause-looks
returns-clause-looks g c =
    let F = g.F.Flash in
    looks_joined F.tells F.contents F.block_count F.block_len F.moment F.left_since c.args.flash.now c.free_count.new.flash c.lost_count.new.flash c.args.bank.now c.free_count.new.bank c.lost_count.new.bank
    (looks_joined F.tells F.contents F.block_count F.block_len F.moment F.left_since c.args.flash.now c.slots_fit.new.flash c.free_count.new.flash c.args.bank.now c.slots_fit.new.bank c.free_count.new.bank
    c.slots_fit.ensures.looks c.free_count.ensures.looks) c.lost_count.ensures.looks

pub returns-clause-found : goal.returns-clause-found
returns-clause-found g c tells =
    let F = g.F.Flash in
    let b = c.args.bank.now in
    let x = F.contents c.args.flash.now in
    let first = c.slots_fit.ensures.looks in
    let second = c.free_count.ensures.looks in
    let free : c.in_ok-free.free ≡ free_slots (area_of_bank b) x =
    c.in_ok-free.ensures.found tells ∙ (ap (λ (a : SpareArea). free_slots a (F.contents c.slots_fit.new.flash)) (area_same b c.slots_fit.new.bank first.geometry first.current)
    ∙ ap (λ (l : List ℕ). free_slots (area_of_bank b) l) (first.reads.same tells)) in
    let lost : c.in_ok-lost.lost ≡ lost_in_plan (area_of_bank b) c.args.plan.now x =
    c.in_ok-lost.ensures.found tells ∙ (ap (λ (a : SpareArea). lost_in_plan a c.args.plan.now (F.contents c.free_count.new.flash)) (area_same b c.free_count.new.bank (second.geometry ∙ first.geometry) (second.current ∙ first.current))
    ∙ ap (λ (l : List ℕ). lost_in_plan (area_of_bank b) c.args.plan.now l) (second.reads.same tells ∙ first.reads.same tells)) in
    let test = le_tested c.in_ok-lost.lost c.in_ok-free.free in (
      λ yes. ((c.in_ok-fit.ensures.found tells).0 c.if-not-fit.false, (let le = test.0 yes in omega (arith, le, free, lost))),
      λ both. test.1 (let le = both.1 in omega (arith, le, free, lost)),
    )
