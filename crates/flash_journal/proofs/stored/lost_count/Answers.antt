use Rattle.std.proofs.Common.{◌≡◌, ℕ, List, sym, ap, subst, ◌∙◌, arith}
use Rattle.bank_kept.specs.Bank.{area_of_bank}
use Rattle.flash_bank.specs.Bank.{len_of}
use Rattle.flash_kept.specs.Counts.{one_if}
use Rattle.flash_kept.specs.SpareArea.{SpareArea}
use Rattle.flash_layout.specs.Layout.{Geometry, mark_count}
use Rattle.flash_journal.specs.declared.side.Side.TheVariants.{InBank}
use Rattle.flash_journal.proofs.LooksLaws.{looks_joined, looks_none, side_len_same}
use Rattle.flash_journal.proofs.LostLaws.{lost_all, lost_at, lost_below, lost_next, lost_none}
use Rattle.flash_journal.proofs.ReadingLaws.{area_same}
use Rattle.flash_journal.proofs.stored.lost_count.Goals.{else-lost, then-lost}
use Rattle.flash_journal.proofs.stored.lost_count.Goals as goal

pub loop-number-init : goal.loop-number-init
loop-number-init g c =
    let F = g.F.Flash in
    record {
      fits = omega arith;
      few = omega arith;
      lent = c.requires.lent;
      so_far = λ tells. sym (lost_none (area_of_bank c.args.bank.now) c.args.plan.now (F.contents c.args.flash.now));
      looks = looks_none F.tells F.contents F.block_count F.block_len F.moment F.left_since c.args.flash.now c.args.bank.now (g.met.F.Flash.only_now c.args.flash.now);
      faults = omega arith;
    }

pub is_lost_at-requires-clause-two : goal.is_lost_at-requires-clause-two
is_lost_at-requires-clause-two g c = ap (λ r. r.layout) c.loop-number.invariant.looks.current ∙ c.requires.two

pub is_lost_at-requires-clause-inside : goal.is_lost_at-requires-clause-inside
is_lost_at-requires-clause-inside g c =
    let looks = c.loop-number.invariant.looks in
    let len : len_of c.loop-number.bank ≡ len_of c.args.bank.now = side_len_same InBank c.args.bank.now c.loop-number.bank looks.geometry looks.current in
    let inside = c.requires.inside in
    omega (arith, len, inside)

pub is_lost_at-requires-clause-few : goal.is_lost_at-requires-clause-few
is_lost_at-requires-clause-few g c =
    let marks = ap (λ (s : Geometry). mark_count s) c.loop-number.invariant.looks.geometry in
    let few = c.requires.few in
    omega (arith, marks, few)

pub returns-in_err-lost-clause-looks : goal.returns-in_err-lost-clause-looks
returns-in_err-lost-clause-looks g c =
    let F = g.F.Flash in
    looks_joined F.tells F.contents F.block_count F.block_len F.moment F.left_since c.args.flash.now c.loop-number.flash c.is_lost_at.new.flash c.args.bank.now c.loop-number.bank c.is_lost_at.new.bank
    c.loop-number.invariant.looks c.is_lost_at.ensures.looks

pub loop-number-preserved : goal.loop-number-preserved
loop-number-preserved g c =
    let F = g.F.Flash in
    let inv = c.loop-number.invariant in
    let b = c.args.bank.now in
    let area = area_of_bank b in
    let x = F.contents c.args.flash.now in
    let n = c.loop-number.number in
    let plan = c.args.plan.now in
    let found = λ (tells : F.tells). subst (λ (l : List ℕ). c.in_ok-lost.lost ≡ lost_at area plan l n) (inv.looks.reads.same tells)
    (subst (λ (a : SpareArea). c.in_ok-lost.lost ≡ lost_at a plan (F.contents c.loop-number.flash) n) (area_same b c.loop-number.bank inv.looks.geometry inv.looks.current)
    (c.in_ok-lost.ensures.found tells)) in
    let so_far = λ (tells : F.tells). lost_next area plan x n c.in_ok-lost.lost (found tells) in
    record {
      fits = omega arith;
      few = elim c.if-lost.branch [ then-lost w ↦ omega (arith, w.count-is, inv.few) | else-lost w ↦ omega (arith, w.count-is, inv.few) ];
      lent = c.in_ok-lost.ensures.lent;
      so_far = λ tells. elim c.if-lost.branch [
        | then-lost w ↦ let yes = ap one_if w.if-lost.true in let next = so_far tells in let before = inv.so_far tells in let is = w.count-is in omega (arith, yes, next, before, is)
        | else-lost w ↦ let no = ap one_if w.if-lost.false in let next = so_far tells in let before = inv.so_far tells in let is = w.count-is in omega (arith, no, next, before, is)
      ];
      looks = looks_joined F.tells F.contents F.block_count F.block_len F.moment F.left_since c.args.flash.now c.loop-number.flash c.is_lost_at.new.flash b c.loop-number.bank c.is_lost_at.new.bank
          inv.looks c.is_lost_at.ensures.looks;
      faults = omega (arith, inv.faults, c.is_lost_at.ensures.cause.later);
    }

pub returns-clause-found : goal.returns-clause-found
returns-clause-found g c tells =
    let F = g.F.Flash in
    let area = area_of_bank c.args.bank.now in
    let x = F.contents c.args.flash.now in
    let plan = c.args.plan.now in
    let inv = c.loop-number.invariant in
    let end : c.loop-number.number ≡ plan.places = omega (arith, c.loop-number-test.false, inv.fits) in
    inv.so_far tells ∙ ap (λ (n : ℕ). lost_below area plan x n) end ∙ lost_all area plan x
