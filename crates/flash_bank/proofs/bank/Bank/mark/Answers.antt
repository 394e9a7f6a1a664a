use Rattle.std.proofs.Common.{◌≡◌, ℕ, ◌+◌, ◌*◌, refl, ◌∙◌, subst, arith}
use Rattle.flash_dev.specs.Changes.{Changes, IsProgrammed, IsTornProgram}
use Rattle.flash_dev.proofs.Moments.{weaker}
use Rattle.flash_layout.specs.Journal.{mark_written}
use Rattle.flash_layout.proofs.Places.{marks_before_slots, slots_before_end}
use Rattle.flash_bank.specs.Bank.{geometry_of}
use Rattle.flash_bank.specs.Journal.{LeavesMarked}
use Rattle.flash_bank.proofs.JournalCallLemmas.{leaves_marked, marked_kept}
use Rattle.flash_bank.proofs.bank.Bank.mark.Goals as goal

pub put_mark-requires-clause-inside : goal.put_mark-requires-clause-inside
put_mark-requires-clause-inside g c =
    let b = c.args.self.now in
    let total : g.F.Flash.block_count c.args.flash.now * g.F.Flash.block_len c.args.flash.now ≡ (geometry_of b).blocks * (geometry_of b).block_len =
    (λ i. c.requires.lent.blocks i * c.requires.lent.block_size i) in
    omega (arith, total, c.journal_place-journal.ensures.inside, marks_before_slots (geometry_of b) b.limits, slots_before_end (geometry_of b) b.limits, c.requires.inside)

pub returns-in_err-put_mark-clause-held : goal.returns-in_err-put_mark-clause-held
returns-in_err-put_mark-clause-held g c tells =
    let F = g.F.Flash in
    let x = F.contents c.args.flash.now in
    let y = F.contents c.put_mark.new.flash in
    leaves_marked c.args.self.now x (c.requires.lent.fits tells) c.requires.two c.requires.begun c.args.place y c.requires.inside
    (subst (λ (p : ℕ). Changes (p + 8448 + 2 * c.args.place) 2 (IsTornProgram mark_written) x y) c.journal_place-journal.ensures.value (c.put_mark.ensures.held tells))

pub returns-clause-held : goal.returns-clause-held
returns-clause-held g c tells =
    let F = g.F.Flash in
    let x = F.contents c.args.flash.now in
    let y = F.contents c.put_mark.new.flash in
    leaves_marked c.args.self.now x (c.requires.lent.fits tells) c.requires.two c.requires.begun c.args.place y c.requires.inside
    (subst (λ (p : ℕ). Changes (p + 8448 + 2 * c.args.place) 2 (IsTornProgram mark_written) x y) c.journal_place-journal.ensures.value (c.put_mark.ensures.held tells))

pub returns-in_err-put_mark-clause-left : goal.returns-in_err-put_mark-clause-left
returns-in_err-put_mark-clause-left g c tells =
    let F = g.F.Flash in
    let b = c.args.self.now in
    let x = F.contents c.args.flash.now in
    weaker F.moment F.left_since c.args.flash.now c.put_mark.new.flash _ (LeavesMarked b c.args.place x)
    (λ y h. leaves_marked b x (c.requires.lent.fits tells) c.requires.two c.requires.begun c.args.place y c.requires.inside
    (subst (λ (p : ℕ). Changes (p + 8448 + 2 * c.args.place) 2 (IsTornProgram mark_written) x y) c.journal_place-journal.ensures.value h))
    (c.put_mark.ensures.left tells)

pub returns-clause-left : goal.returns-clause-left
returns-clause-left g c tells =
    let F = g.F.Flash in
    let b = c.args.self.now in
    let x = F.contents c.args.flash.now in
    weaker F.moment F.left_since c.args.flash.now c.put_mark.new.flash _ (LeavesMarked b c.args.place x)
    (λ y h. leaves_marked b x (c.requires.lent.fits tells) c.requires.two c.requires.begun c.args.place y c.requires.inside
    (subst (λ (p : ℕ). Changes (p + 8448 + 2 * c.args.place) 2 (IsTornProgram mark_written) x y) c.journal_place-journal.ensures.value h))
    (c.put_mark.ensures.left tells)

pub returns-clause-marked : goal.returns-clause-marked
returns-clause-marked g c tells =
    let F = g.F.Flash in
    subst (λ (p : ℕ). Changes (p + 8448 + 2 * c.args.place) 2 (IsProgrammed mark_written) (F.contents c.args.flash.now) (F.contents c.put_mark.new.flash))
    c.journal_place-journal.ensures.value (c.in_ok-put_mark.ensures.done tells)

pub returns-clause-lent : goal.returns-clause-lent
returns-clause-lent g c =
    record {
      usable = refl;
      blocks = c.put_mark.ensures.blocks ∙ c.requires.lent.blocks;
      block_size = c.put_mark.ensures.block_size ∙ c.requires.lent.block_size;
      fits = λ tells.
          let F = g.F.Flash in
          let x = F.contents c.args.flash.now in
          let y = F.contents c.put_mark.new.flash in
          let k = marked_kept c.args.self.now x (c.requires.lent.fits tells) c.requires.two c.requires.begun c.args.place y c.requires.inside
          (subst (λ (p : ℕ). Changes (p + 8448 + 2 * c.args.place) 2 (IsTornProgram mark_written) x y) c.journal_place-journal.ensures.value (c.put_mark.ensures.held tells)) in
          record { sound = k.sound; current = k.current; head = k.head; blank = λ is. k.blank };
    }
