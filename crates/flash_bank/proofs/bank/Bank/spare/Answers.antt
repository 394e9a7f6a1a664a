use Rattle.std.proofs.Common.{◌≡◌, ℕ, ◌+◌, ◌*◌, length, refl, ◌∙◌, subst, arith}
use Rattle.flash_dev.proofs.Moments.{weaker}
use Rattle.flash_layout.specs.Slots.{slot_written}
use Rattle.flash_layout.proofs.Places.{marks_before_slots, slots_before_end}
use Rattle.flash_bank.specs.Bank.{geometry_of, spare_journal}
use Rattle.flash_bank.specs.Journal.{CutsPut, LeavesPut, Puts, slot_place}
use Rattle.flash_bank.proofs.JournalCallLemmas.{leaves_slotted, slotted_kept}
use Rattle.flash_bank.proofs.bank.Bank.spare.Goals as goal

pub put_slot-requires-clause-inside : goal.put_slot-requires-clause-inside
put_slot-requires-clause-inside g c =
    let b = c.args.self.now in
    let total : g.F.Flash.block_count c.args.flash.now * g.F.Flash.block_len c.args.flash.now ≡ (geometry_of b).blocks * (geometry_of b).block_len =
    (λ i. c.requires.lent.blocks i * c.requires.lent.block_size i) in
    omega (
      arith,
      total,
      c.journal_place-journal.ensures.inside,
      marks_before_slots (geometry_of b) b.limits,
      slots_before_end (geometry_of b) b.limits,
      c.slots_at.ensures.value,
      c.requires.slot,
    )

pub returns-in_err-put_slot-clause-held : goal.returns-in_err-put_slot-clause-held
returns-in_err-put_slot-clause-held g c tells =
    let F = g.F.Flash in
    let b = c.args.self.now in
    let x = F.contents c.args.flash.now in
    let y = F.contents c.put_slot.new.flash in
    leaves_slotted b x (c.requires.lent.fits tells) c.requires.two c.requires.begun c.args.slot c.args.at c.args.bytes.now y c.requires.slot c.ranges.at.fits c.requires.few
    (subst (λ (q : ℕ). CutsPut (spare_journal b + q + 4352 * c.args.slot + 256) c.args.bytes.now (spare_journal b + q + 4352 * c.args.slot) (slot_written c.args.at (length c.args.bytes.now)) x y) c.slots_at.ensures.value
    (subst (λ (p : ℕ). CutsPut (p + c.slots_at.result + 4352 * c.args.slot + 256) c.args.bytes.now (p + c.slots_at.result + 4352 * c.args.slot) (slot_written c.args.at (length c.args.bytes.now)) x y) c.journal_place-journal.ensures.value (c.put_slot.ensures.held tells))) (c.requires.blank tells)

pub returns-clause-held : goal.returns-clause-held
returns-clause-held g c tells =
    let F = g.F.Flash in
    let b = c.args.self.now in
    let x = F.contents c.args.flash.now in
    let y = F.contents c.put_slot.new.flash in
    leaves_slotted b x (c.requires.lent.fits tells) c.requires.two c.requires.begun c.args.slot c.args.at c.args.bytes.now y c.requires.slot c.ranges.at.fits c.requires.few
    (subst (λ (q : ℕ). CutsPut (spare_journal b + q + 4352 * c.args.slot + 256) c.args.bytes.now (spare_journal b + q + 4352 * c.args.slot) (slot_written c.args.at (length c.args.bytes.now)) x y) c.slots_at.ensures.value
    (subst (λ (p : ℕ). CutsPut (p + c.slots_at.result + 4352 * c.args.slot + 256) c.args.bytes.now (p + c.slots_at.result + 4352 * c.args.slot) (slot_written c.args.at (length c.args.bytes.now)) x y) c.journal_place-journal.ensures.value (c.put_slot.ensures.held tells))) (c.requires.blank tells)

pub returns-in_err-put_slot-clause-left : goal.returns-in_err-put_slot-clause-left
returns-in_err-put_slot-clause-left g c tells =
    let F = g.F.Flash in
    let b = c.args.self.now in
    let x = F.contents c.args.flash.now in
    weaker F.moment F.left_since c.args.flash.now c.put_slot.new.flash _
    (LeavesPut (geometry_of b) (slot_place b c.args.slot + 256) c.args.bytes.now (slot_place b c.args.slot) (slot_written c.args.at (length c.args.bytes.now)) x)
    (λ y h. leaves_slotted b x (c.requires.lent.fits tells) c.requires.two c.requires.begun c.args.slot c.args.at c.args.bytes.now y c.requires.slot c.ranges.at.fits c.requires.few
    (subst (λ (q : ℕ). CutsPut (spare_journal b + q + 4352 * c.args.slot + 256) c.args.bytes.now (spare_journal b + q + 4352 * c.args.slot) (slot_written c.args.at (length c.args.bytes.now)) x y) c.slots_at.ensures.value
    (subst (λ (p : ℕ). CutsPut (p + c.slots_at.result + 4352 * c.args.slot + 256) c.args.bytes.now (p + c.slots_at.result + 4352 * c.args.slot) (slot_written c.args.at (length c.args.bytes.now)) x y) c.journal_place-journal.ensures.value h)) (c.requires.blank tells))
    (c.put_slot.ensures.left tells)

pub returns-clause-left : goal.returns-clause-left
returns-clause-left g c tells =
    let F = g.F.Flash in
    let b = c.args.self.now in
    let x = F.contents c.args.flash.now in
    weaker F.moment F.left_since c.args.flash.now c.put_slot.new.flash _
    (LeavesPut (geometry_of b) (slot_place b c.args.slot + 256) c.args.bytes.now (slot_place b c.args.slot) (slot_written c.args.at (length c.args.bytes.now)) x)
    (λ y h. leaves_slotted b x (c.requires.lent.fits tells) c.requires.two c.requires.begun c.args.slot c.args.at c.args.bytes.now y c.requires.slot c.ranges.at.fits c.requires.few
    (subst (λ (q : ℕ). CutsPut (spare_journal b + q + 4352 * c.args.slot + 256) c.args.bytes.now (spare_journal b + q + 4352 * c.args.slot) (slot_written c.args.at (length c.args.bytes.now)) x y) c.slots_at.ensures.value
    (subst (λ (p : ℕ). CutsPut (p + c.slots_at.result + 4352 * c.args.slot + 256) c.args.bytes.now (p + c.slots_at.result + 4352 * c.args.slot) (slot_written c.args.at (length c.args.bytes.now)) x y) c.journal_place-journal.ensures.value h)) (c.requires.blank tells))
    (c.put_slot.ensures.left tells)

pub returns-clause-spared : goal.returns-clause-spared
returns-clause-spared g c tells =
    let F = g.F.Flash in
    let b = c.args.self.now in
    let x = F.contents c.args.flash.now in
    let y = F.contents c.put_slot.new.flash in
    subst (λ (q : ℕ). Puts (spare_journal b + q + 4352 * c.args.slot + 256) c.args.bytes.now (spare_journal b + q + 4352 * c.args.slot) (slot_written c.args.at (length c.args.bytes.now)) x y) c.slots_at.ensures.value
    (subst (λ (p : ℕ). Puts (p + c.slots_at.result + 4352 * c.args.slot + 256) c.args.bytes.now (p + c.slots_at.result + 4352 * c.args.slot) (slot_written c.args.at (length c.args.bytes.now)) x y) c.journal_place-journal.ensures.value (c.in_ok-put_slot.ensures.done tells))

pub returns-clause-lent : goal.returns-clause-lent
returns-clause-lent g c =
    record {
      usable = refl;
      blocks = c.put_slot.ensures.blocks ∙ c.requires.lent.blocks;
      block_size = c.put_slot.ensures.block_size ∙ c.requires.lent.block_size;
      fits = λ tells.
          let F = g.F.Flash in
          let b = c.args.self.now in
          let x = F.contents c.args.flash.now in
          let y = F.contents c.put_slot.new.flash in
          let k = slotted_kept b x (c.requires.lent.fits tells) c.requires.two c.requires.begun c.args.slot c.args.at c.args.bytes.now y c.requires.slot c.ranges.at.fits c.requires.few
          (subst (λ (q : ℕ). CutsPut (spare_journal b + q + 4352 * c.args.slot + 256) c.args.bytes.now (spare_journal b + q + 4352 * c.args.slot) (slot_written c.args.at (length c.args.bytes.now)) x y) c.slots_at.ensures.value
          (subst (λ (p : ℕ). CutsPut (p + c.slots_at.result + 4352 * c.args.slot + 256) c.args.bytes.now (p + c.slots_at.result + 4352 * c.args.slot) (slot_written c.args.at (length c.args.bytes.now)) x y) c.journal_place-journal.ensures.value (c.put_slot.ensures.held tells))) in
          record { sound = k.sound; current = k.current; head = k.head; blank = λ is. k.blank };
    }
