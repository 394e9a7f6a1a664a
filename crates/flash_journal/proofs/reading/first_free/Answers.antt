use Rattle.std.specs.Prelude.{◌↔◌, IsTrue, IsSome, IfSome, Some}
use Rattle.std.proofs.Common.{◌≡◌, ◌⊎◌, inl, inr, ℕ, ◌+◌, ◌*◌, ◌<◌, Bool, true, false, List, sym, ap, subst, ◌∙◌, arith}
use Rattle.bank_kept.specs.Bank.{area_of_bank}
use Rattle.flash_bank.specs.Bank.{IsLent, geometry_of}
use Rattle.flash_bank.specs.declared.bank.Bank.{Bank}
use Rattle.flash_dev.specs.Changes.{IsBlank}
use Rattle.flash_kept.specs.SpareArea.{SpareArea, slot_place}
use Rattle.flash_kept.proofs.CountLaws.{last_or}
use Rattle.flash_layout.specs.Layout.{Geometry, blocks_of, journal_len, IsInLimits, slots_at}
use Rattle.flash_journal.specs.Side.{side_place}
use Rattle.flash_journal.specs.declared.side.Side.TheVariants.{InJournal}
use Rattle.flash_journal.proofs.LooksLaws.{looks_joined, looks_none, side_len_same, side_place_same}
use Rattle.flash_journal.proofs.RangeLaws.{journal_small, slot_room}
use Rattle.flash_kept.specs.Slots.{is_blank, is_free}
use Rattle.flash_journal.proofs.ReadingLaws.{blank_tested, find_first, find_none}
use Rattle.flash_journal.proofs.reading.first_free.Goals as goal

free_tested : (area : SpareArea) (c : List ℕ) (s : ℕ) (found : Bool) → IsTrue found ↔ IsBlank c (slot_place area s) 4352 → found ≡ is_free area c s
unfolding is_free
free_tested area c s found is = blank_tested c (slot_place area s) 4352 found is

pub loop-slot-init : goal.loop-slot-init
loop-slot-init g c =
    let F = g.F.Flash in
    let b = c.args.bank.now in
    let lent = c.requires.lent in
    let here : blocks_of F c.args.flash.now ≡ geometry_of b = (λ i. record { blocks = lent.blocks i; block_len = lent.block_size i }) in
    let begin = subst (λ (s : Geometry). IsInLimits s → c.slots_begin-slots.result ≡ slots_at s) here c.slots_begin-slots.ensures in
    record {
      fits = omega arith;
      begin = begin b.limits;
      lent = lent;
      so_far = λ tells s lt. absurd (omega (arith, lt));
      looks = looks_none F.tells F.contents F.block_count F.block_len F.moment F.left_since c.args.flash.now b (g.met.F.Flash.only_now c.args.flash.now);
      faults = omega arith;
    }

pub overflow_add-slots : goal.overflow_add-slots
overflow_add-slots g c =
    let b = c.args.bank.now in
    let room = slot_room b c.loop-slot.slot (omega arith) in
    let small = journal_small b c.requires.two in
    let is = c.loop-slot.invariant.begin in
    omega (arith, room, small, is)

pub is_blank-requires-clause-inside : goal.is_blank-requires-clause-inside
is_blank-requires-clause-inside g c =
    let b = c.args.bank.now in
    let room = slot_room b c.loop-slot.slot (omega arith) in
    let inv = c.loop-slot.invariant in
    let len : journal_len (geometry_of c.loop-slot.bank) ≡ journal_len (geometry_of b) = side_len_same InJournal b c.loop-slot.bank inv.looks.geometry inv.looks.current in
    omega (arith, room, inv.begin, len)

pub is_blank-requires-clause-addressable : goal.is_blank-requires-clause-addressable
is_blank-requires-clause-addressable g c =
    let b = c.args.bank.now in
    let room = slot_room b c.loop-slot.slot (omega arith) in
    let small = journal_small b c.requires.two in
    let is = c.loop-slot.invariant.begin in
    omega (arith, room, small, is)

pub returns-in_err-free-clause-looks : goal.returns-in_err-free-clause-looks
returns-in_err-free-clause-looks g c =
    let F = g.F.Flash in
    looks_joined F.tells F.contents F.block_count F.block_len F.moment F.left_since c.args.flash.now c.loop-slot.flash c.is_blank.new.flash c.args.bank.now c.loop-slot.bank c.is_blank.new.bank
    c.loop-slot.invariant.looks c.is_blank.ensures.looks

pub returns-then-free-clause-looks : goal.returns-then-free-clause-looks
returns-then-free-clause-looks g c =
    let F = g.F.Flash in
    looks_joined F.tells F.contents F.block_count F.block_len F.moment F.left_since c.args.flash.now c.loop-slot.flash c.is_blank.new.flash c.args.bank.now c.loop-slot.bank c.is_blank.new.bank
    c.loop-slot.invariant.looks c.is_blank.ensures.looks

pub returns-then-free-clause-found : goal.returns-then-free-clause-found
returns-then-free-clause-found g c tells =
    let inv = c.loop-slot.invariant in
    let b = c.args.bank.now in
    let area = area_of_bank b in
    let x = g.F.Flash.contents c.args.flash.now in
    let s = c.loop-slot.slot in
    let here : side_place InJournal c.loop-slot.bank + (c.slots_begin-slots.result + 4352 * s) ≡ slot_place area s =
    omega (arith, side_place_same InJournal b c.loop-slot.bank inv.looks.geometry inv.looks.current, inv.begin) in
    let found = free_tested area x s c.in_ok-free.free
    (subst (λ (p : ℕ). IsTrue c.in_ok-free.free ↔ IsBlank x p 4352) here
    (subst (λ (l : List ℕ). IsTrue c.in_ok-free.free ↔ IsBlank l (side_place InJournal c.loop-slot.bank + (c.slots_begin-slots.result + 4352 * s)) 4352) (inv.looks.reads.same tells)
    (c.in_ok-free.ensures.found tells))) in
    sym (find_first (is_free area x) 16 s (omega arith) (sym found ∙ c.if-free.true) (inv.so_far tells))

pub loop-slot-preserved : goal.loop-slot-preserved
loop-slot-preserved g c =
    let F = g.F.Flash in
    let inv = c.loop-slot.invariant in
    let b = c.args.bank.now in
    let area = area_of_bank b in
    let x = F.contents c.args.flash.now in
    let s = c.loop-slot.slot in
    let here : side_place InJournal c.loop-slot.bank + (c.slots_begin-slots.result + 4352 * s) ≡ slot_place area s =
    omega (arith, side_place_same InJournal b c.loop-slot.bank inv.looks.geometry inv.looks.current, inv.begin) in
    let found = λ (tells : F.tells). free_tested area x s c.in_ok-free.free
    (subst (λ (p : ℕ). IsTrue c.in_ok-free.free ↔ IsBlank x p 4352) here
    (subst (λ (l : List ℕ). IsTrue c.in_ok-free.free ↔ IsBlank l (side_place InJournal c.loop-slot.bank + (c.slots_begin-slots.result + 4352 * s)) 4352) (inv.looks.reads.same tells)
    (c.in_ok-free.ensures.found tells))) in
    record {
      fits = omega arith;
      begin = inv.begin;
      lent = c.in_ok-free.ensures.lent;
      so_far = λ tells k lt. elim (last_or k s (omega (arith, lt))) [ inl below ↦ inv.so_far tells k below | inr same ↦ ap (is_free area x) same ∙ (sym (found tells) ∙ c.if-free.false) ];
      looks = looks_joined F.tells F.contents F.block_count F.block_len F.moment F.left_since c.args.flash.now c.loop-slot.flash c.is_blank.new.flash b c.loop-slot.bank c.is_blank.new.bank
          inv.looks c.is_blank.ensures.looks;
      faults = omega (arith, inv.faults, c.is_blank.ensures.cause.later);
    }

pub returns-clause-found : goal.returns-clause-found
returns-clause-found g c tells =
    let past = c.loop-slot-test.false in
    sym (find_none (is_free (area_of_bank c.args.bank.now) (g.F.Flash.contents c.args.flash.now)) 16 (λ k lt. c.loop-slot.invariant.so_far tells k (omega (arith, lt, past))))
