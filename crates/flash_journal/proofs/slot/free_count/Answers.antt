use Rattle.std.specs.Prelude.{◌↔◌, IsTrue}
use Rattle.std.proofs.Common.{◌≡◌, ℕ, ◌+◌, ◌*◌, List, sym, ap, subst, ◌∙◌, arith}
use Rattle.bank_kept.specs.Bank.{area_of_bank}
use Rattle.flash_bank.specs.Bank.{geometry_of}
use Rattle.flash_dev.specs.Changes.{IsBlank}
use Rattle.flash_journal.specs.Side.{side_place}
use Rattle.flash_journal.specs.declared.side.Side.TheVariants.{InJournal}
use Rattle.flash_journal.proofs.FreeLaws.{free_all, free_below, free_found, free_next, free_none}
use Rattle.flash_journal.proofs.LooksLaws.{looks_joined, looks_none, side_len_same, side_place_same}
use Rattle.flash_journal.proofs.RangeLaws.{journal_small, slot_room}
use Rattle.flash_kept.specs.Counts.{one_if}
use Rattle.flash_kept.specs.SpareArea.{slot_place}
use Rattle.flash_layout.specs.Layout.{journal_len}
use Rattle.flash_journal.proofs.slot.free_count.Goals.{else-free, then-free}
use Rattle.flash_journal.proofs.slot.free_count.Goals as goal

pub loop-slot-init : goal.loop-slot-init
loop-slot-init g c =
    let F = g.F.Flash in
    record {
      fits = omega arith;
      few = omega arith;
      lent = c.requires.lent;
      so_far = λ tells. sym (free_none (area_of_bank c.args.bank.now) (F.contents c.args.flash.now));
      looks = looks_none F.tells F.contents F.block_count F.block_len F.moment F.left_since c.args.flash.now c.args.bank.now (g.met.F.Flash.only_now c.args.flash.now);
      faults = omega arith;
    }

pub overflow_add-slots : goal.overflow_add-slots
overflow_add-slots g c =
    let b = c.args.bank.now in
    let room = slot_room b c.loop-slot.slot (omega arith) in
    let small = journal_small b c.requires.two in
    let is = c.requires.slots in
    omega (arith, room, small, is)

pub is_blank-requires-clause-inside : goal.is_blank-requires-clause-inside
is_blank-requires-clause-inside g c =
    let b = c.args.bank.now in
    let room = slot_room b c.loop-slot.slot (omega arith) in
    let is = c.requires.slots in
    let looks = c.loop-slot.invariant.looks in
    let len : journal_len (geometry_of c.loop-slot.bank) ≡ journal_len (geometry_of b) = side_len_same InJournal b c.loop-slot.bank looks.geometry looks.current in
    omega (arith, room, is, len)

pub is_blank-requires-clause-addressable : goal.is_blank-requires-clause-addressable
is_blank-requires-clause-addressable g c =
    let b = c.args.bank.now in
    let room = slot_room b c.loop-slot.slot (omega arith) in
    let small = journal_small b c.requires.two in
    let is = c.requires.slots in
    omega (arith, room, small, is)

pub returns-in_err-free-clause-looks : goal.returns-in_err-free-clause-looks
returns-in_err-free-clause-looks g c =
    let F = g.F.Flash in
    looks_joined F.tells F.contents F.block_count F.block_len F.moment F.left_since c.args.flash.now c.loop-slot.flash c.is_blank.new.flash c.args.bank.now c.loop-slot.bank c.is_blank.new.bank
    c.loop-slot.invariant.looks c.is_blank.ensures.looks

pub loop-slot-preserved : goal.loop-slot-preserved
loop-slot-preserved g c =
    let F = g.F.Flash in
    let inv = c.loop-slot.invariant in
    let b = c.args.bank.now in
    let area = area_of_bank b in
    let x = F.contents c.args.flash.now in
    let s = c.loop-slot.slot in
    let here : side_place InJournal c.loop-slot.bank + (c.args.slots + 4352 * s) ≡ slot_place area s =
    omega (arith, side_place_same InJournal b c.loop-slot.bank inv.looks.geometry inv.looks.current, c.requires.slots) in
    let found = λ (tells : F.tells). free_found area x s c.in_ok-free.free
    (subst (λ (p : ℕ). IsTrue c.in_ok-free.free ↔ IsBlank x p 4352) here
    (subst (λ (l : List ℕ). IsTrue c.in_ok-free.free ↔ IsBlank l (side_place InJournal c.loop-slot.bank + (c.args.slots + 4352 * s)) 4352) (inv.looks.reads.same tells)
    (c.in_ok-free.ensures.found tells))) in
    let so_far = λ (tells : F.tells). free_next area x s c.in_ok-free.free (found tells) in
    record {
      fits = omega arith;
      few = elim c.if-free.branch [ then-free w ↦ omega (arith, w.count-is, inv.few) | else-free w ↦ omega (arith, w.count-is, inv.few) ];
      lent = c.in_ok-free.ensures.lent;
      so_far = λ tells. elim c.if-free.branch [
        | then-free w ↦ let yes = ap one_if w.if-free.true in let next = so_far tells in let before = inv.so_far tells in let is = w.count-is in omega (arith, yes, next, before, is)
        | else-free w ↦ let no = ap one_if w.if-free.false in let next = so_far tells in let before = inv.so_far tells in let is = w.count-is in omega (arith, no, next, before, is)
      ];
      looks = looks_joined F.tells F.contents F.block_count F.block_len F.moment F.left_since c.args.flash.now c.loop-slot.flash c.is_blank.new.flash b c.loop-slot.bank c.is_blank.new.bank
          inv.looks c.is_blank.ensures.looks;
      faults = omega (arith, inv.faults, c.is_blank.ensures.cause.later);
    }

pub returns-clause-found : goal.returns-clause-found
returns-clause-found g c tells =
    let F = g.F.Flash in
    let area = area_of_bank c.args.bank.now in
    let x = F.contents c.args.flash.now in
    let inv = c.loop-slot.invariant in
    let end : c.loop-slot.slot ≡ 16 = omega (arith, c.loop-slot-test.false, inv.fits) in
    inv.so_far tells ∙ ap (λ (s : ℕ). free_below area x s) end ∙ free_all area x
