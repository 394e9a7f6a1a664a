use Rattle.std.proofs.Common.{◌≡◌, inl, inr, ℕ, List, sym, ap, subst, ◌∙◌, arith}
use Rattle.bank_kept.specs.Bank.{area_of_bank}
use Rattle.flash_bank.specs.Bank.{geometry_of}
use Rattle.flash_kept.specs.SpareArea.{SpareArea}
use Rattle.flash_kept.proofs.CountLaws.{last_or}
use Rattle.flash_layout.specs.Layout.{Geometry, blocks_of, IsInLimits, slots_at}
use Rattle.flash_journal.proofs.LooksLaws.{looks_joined, looks_none}
use Rattle.flash_kept.specs.Slots.{is_slot_of}
use Rattle.flash_journal.proofs.ReadingLaws.{area_same, find_first, find_none, range_tested}
use Rattle.flash_journal.proofs.reading.slot_of.Goals as goal

pub loop-slot-init : goal.loop-slot-init
loop-slot-init g c =
    let F = g.F.Flash in
    let b = c.args.bank.now in
    let lent = c.requires.lent in
    let here : blocks_of F c.args.flash.now ≡ geometry_of b = (λ i. record { blocks = lent.blocks i; block_len = lent.block_size i }) in
    let begin = subst (λ (s : Geometry). IsInLimits s → c.slots_begin-slots.result ≡ slots_at s) here c.slots_begin-slots.ensures in
    record {
      fits = omega arith;
      begin = begin b.limits;
      lent = lent;
      so_far = λ tells s lt. absurd (omega (arith, lt));
      looks = looks_none F.tells F.contents F.block_count F.block_len F.moment F.left_since c.args.flash.now b (g.met.F.Flash.only_now c.args.flash.now);
      faults = omega arith;
    }

pub returns-in_err-range-clause-looks : goal.returns-in_err-range-clause-looks
returns-in_err-range-clause-looks g c =
    let F = g.F.Flash in
    looks_joined F.tells F.contents F.block_count F.block_len F.moment F.left_since c.args.flash.now c.loop-slot.flash c.slot_range.new.flash c.args.bank.now c.loop-slot.bank c.slot_range.new.bank
    c.loop-slot.invariant.looks c.slot_range.ensures.looks

pub returns-then-is_range_of-clause-looks : goal.returns-then-is_range_of-clause-looks
returns-then-is_range_of-clause-looks g c =
    let F = g.F.Flash in
    looks_joined F.tells F.contents F.block_count F.block_len F.moment F.left_since c.args.flash.now c.loop-slot.flash c.slot_range.new.flash c.args.bank.now c.loop-slot.bank c.slot_range.new.bank
    c.loop-slot.invariant.looks c.slot_range.ensures.looks

pub returns-then-is_range_of-clause-found : goal.returns-then-is_range_of-clause-found
returns-then-is_range_of-clause-found g c tells =
    let F = g.F.Flash in
    let inv = c.loop-slot.invariant in
    let b = c.args.bank.now in
    let x = F.contents c.args.flash.now in
    let s = c.loop-slot.slot in
    let found : c.is_range_of.result ≡ is_slot_of (area_of_bank b) x c.args.place s = (λ (tells : F.tells). c.is_range_of.ensures ∙ (range_tested (area_of_bank c.loop-slot.bank) (F.contents c.loop-slot.flash) c.args.place s c.in_ok-range.range (c.in_ok-range.ensures.valid tells) (c.in_ok-range.ensures.value tells)
    ∙ (ap (λ (l : List ℕ). is_slot_of (area_of_bank c.loop-slot.bank) l c.args.place s) (inv.looks.reads.same tells)
    ∙ ap (λ (a : SpareArea). is_slot_of a x c.args.place s) (area_same b c.loop-slot.bank inv.looks.geometry inv.looks.current)))) tells in
    sym (find_first (is_slot_of (area_of_bank b) x c.args.place) 16 s (omega arith) (sym found ∙ c.if-is_range_of.true) (inv.so_far tells))

pub loop-slot-preserved : goal.loop-slot-preserved
loop-slot-preserved g c =
    let F = g.F.Flash in
    let inv = c.loop-slot.invariant in
    let b = c.args.bank.now in
    let x = F.contents c.args.flash.now in
    let s = c.loop-slot.slot in
    let found : F.tells → c.is_range_of.result ≡ is_slot_of (area_of_bank b) x c.args.place s = (λ (tells : F.tells). c.is_range_of.ensures ∙ (range_tested (area_of_bank c.loop-slot.bank) (F.contents c.loop-slot.flash) c.args.place s c.in_ok-range.range (c.in_ok-range.ensures.valid tells) (c.in_ok-range.ensures.value tells)
    ∙ (ap (λ (l : List ℕ). is_slot_of (area_of_bank c.loop-slot.bank) l c.args.place s) (inv.looks.reads.same tells)
    ∙ ap (λ (a : SpareArea). is_slot_of a x c.args.place s) (area_same b c.loop-slot.bank inv.looks.geometry inv.looks.current)))) in
    record {
      fits = omega arith;
      begin = inv.begin;
      lent = c.in_ok-range.ensures.lent;
      so_far = λ tells k lt. elim (last_or k s (omega (arith, lt))) [
        | inl below ↦ inv.so_far tells k below
        | inr same ↦ ap (is_slot_of (area_of_bank b) x c.args.place) same ∙ (sym (found tells) ∙ c.if-is_range_of.false)
      ];
      looks = looks_joined F.tells F.contents F.block_count F.block_len F.moment F.left_since c.args.flash.now c.loop-slot.flash c.slot_range.new.flash b c.loop-slot.bank c.slot_range.new.bank
          inv.looks c.slot_range.ensures.looks;
      faults = omega (arith, inv.faults, c.slot_range.ensures.cause.later);
    }

pub returns-clause-found : goal.returns-clause-found
returns-clause-found g c tells =
    let past = c.loop-slot-test.false in
    sym (find_none (is_slot_of (area_of_bank c.args.bank.now) (g.F.Flash.contents c.args.flash.now) c.args.place) 16 (λ k lt. c.loop-slot.invariant.so_far tells k (omega (arith, lt, past))))
