use Rattle.std.specs.Prelude.{◌↔◌, IsTrue}
use Rattle.std.proofs.Common.{inl, inr, ℕ, List, refl, sym, ap, subst, ◌∙◌, arith}
use Rattle.bank_kept.specs.Bank.{area_of_bank}
use Rattle.flash_kept.specs.SpareArea.{SpareArea}
use Rattle.flash_kept.proofs.CountLaws.{last_or}
use Rattle.flash_layout.specs.Layout.{Geometry, mark_count, slots_at}
use Rattle.flash_journal.specs.Planned.{SlotFits}
use Rattle.flash_journal.proofs.LooksLaws.{looks_joined, looks_none}
use Rattle.flash_journal.proofs.ReadingLaws.{area_same}
use Rattle.flash_journal.proofs.staged.slots_fit.Goals as goal

pub loop-slot-init : goal.loop-slot-init
loop-slot-init g c =
    let F = g.F.Flash in
    record {
      fits = omega arith;
      lent = c.requires.lent;
      so_far = λ tells s lt. absurd (omega (arith, lt));
      looks = looks_none F.tells F.contents F.block_count F.block_len F.moment F.left_since c.args.flash.now c.args.bank.now (g.met.F.Flash.only_now c.args.flash.now);
      faults = omega arith;
    }

pub slot_fits-requires-clause-two : goal.slot_fits-requires-clause-two
slot_fits-requires-clause-two g c = ap (λ r. r.layout) c.loop-slot.invariant.looks.current ∙ c.requires.two

pub slot_fits-requires-clause-few : goal.slot_fits-requires-clause-few
slot_fits-requires-clause-few g c =
    let marks = ap (λ (s : Geometry). mark_count s) c.loop-slot.invariant.looks.geometry in
    let few = c.requires.few in
    omega (arith, marks, few)

pub slot_fits-requires-clause-slots : goal.slot_fits-requires-clause-slots
slot_fits-requires-clause-slots g c = c.requires.slots ∙ sym (ap (λ (s : Geometry). slots_at s) c.loop-slot.invariant.looks.geometry)

pub returns-in_err-fits-clause-looks : goal.returns-in_err-fits-clause-looks
returns-in_err-fits-clause-looks g c =
    let F = g.F.Flash in
    looks_joined F.tells F.contents F.block_count F.block_len F.moment F.left_since c.args.flash.now c.loop-slot.flash c.slot_fits.new.flash c.args.bank.now c.loop-slot.bank c.slot_fits.new.bank
    c.loop-slot.invariant.looks c.slot_fits.ensures.looks

pub returns-then-not-fits-clause-looks : goal.returns-then-not-fits-clause-looks
returns-then-not-fits-clause-looks g c =
    let F = g.F.Flash in
    looks_joined F.tells F.contents F.block_count F.block_len F.moment F.left_since c.args.flash.now c.loop-slot.flash c.slot_fits.new.flash c.args.bank.now c.loop-slot.bank c.slot_fits.new.bank
    c.loop-slot.invariant.looks c.slot_fits.ensures.looks

pub returns-then-not-fits-clause-found : goal.returns-then-not-fits-clause-found
returns-then-not-fits-clause-found g c tells =
    let F = g.F.Flash in
    let inv = c.loop-slot.invariant in
    let area = area_of_bank c.args.bank.now in
    let x = F.contents c.args.flash.now in
    let plan = c.args.plan.now in
    let s = c.loop-slot.slot in
    let found = subst (λ (l : List ℕ). IsTrue c.in_ok-fits.fits ↔ SlotFits area plan l s) (inv.looks.reads.same tells)
    (subst (λ (a : SpareArea). IsTrue c.in_ok-fits.fits ↔ SlotFits a plan (F.contents c.loop-slot.flash) s) (area_same c.args.bank.now c.loop-slot.bank inv.looks.geometry inv.looks.current) (c.in_ok-fits.ensures.found tells)) in
    (λ never. absurd (cc never), λ all. sym c.if-not-fits.true ∙ found.1 (all s c.loop-slot-test.true))

pub loop-slot-preserved : goal.loop-slot-preserved
loop-slot-preserved g c =
    let F = g.F.Flash in
    let inv = c.loop-slot.invariant in
    let area = area_of_bank c.args.bank.now in
    let x = F.contents c.args.flash.now in
    let plan = c.args.plan.now in
    let n = c.loop-slot.slot in
    let found = λ (tells : F.tells). subst (λ (l : List ℕ). IsTrue c.in_ok-fits.fits ↔ SlotFits area plan l n) (inv.looks.reads.same tells)
    (subst (λ (a : SpareArea). IsTrue c.in_ok-fits.fits ↔ SlotFits a plan (F.contents c.loop-slot.flash) n) (area_same c.args.bank.now c.loop-slot.bank inv.looks.geometry inv.looks.current) (c.in_ok-fits.ensures.found tells)) in
    record {
      fits = omega arith;
      lent = c.in_ok-fits.ensures.lent;
      so_far = λ tells s lt. elim (last_or s n (omega (arith, lt))) [
        | inl less ↦ inv.so_far tells s less
        | inr same ↦ subst (λ (k : ℕ). SlotFits area plan x k) (sym same) ((found tells).0 c.if-not-fits.false)
      ];
      looks = looks_joined F.tells F.contents F.block_count F.block_len F.moment F.left_since c.args.flash.now c.loop-slot.flash c.slot_fits.new.flash c.args.bank.now c.loop-slot.bank c.slot_fits.new.bank
          inv.looks c.slot_fits.ensures.looks;
      faults = omega (arith, inv.faults, c.slot_fits.ensures.cause.later);
    }

pub returns-clause-found : goal.returns-clause-found
returns-clause-found g c tells =
    let past = c.loop-slot-test.false in
    (λ yes s lt. c.loop-slot.invariant.so_far tells s (omega (arith, lt, past)), λ all. refl)
