use Rattle.std.proofs.Common.{◌≡◌, ℕ, ◌+◌, ◌*◌, length, refl, ◌∙◌, subst, arith}
use Rattle.flash_dev.proofs.Moments.{weaker}
use Rattle.flash_layout.specs.Journal.{header_written}
use Rattle.flash_layout.specs.Pairs.{paired}
use Rattle.flash_layout.proofs.Places.{marks_before_slots, slots_before_end}
use Rattle.flash_bank.specs.Bank.{geometry_of, spare_journal}
use Rattle.flash_bank.specs.Journal.{CutsPut, LeavesPut, Puts}
use Rattle.flash_bank.proofs.JournalCallLemmas.{headed_kept, leaves_headed}
use Rattle.flash_bank.proofs.bank.Bank.head.Goals as goal

pub put_header-requires-clause-inside : goal.put_header-requires-clause-inside
put_header-requires-clause-inside g c =
    let b = c.args.self.now in
    let total : g.F.Flash.block_count c.args.flash.now * g.F.Flash.block_len c.args.flash.now ≡ (geometry_of b).blocks * (geometry_of b).block_len =
    (λ i. c.requires.lent.blocks i * c.requires.lent.block_size i) in
    omega (arith, total, c.journal_place-place.ensures.inside, marks_before_slots (geometry_of b) b.limits, slots_before_end (geometry_of b) b.limits)

pub returns-in_err-put_header-clause-held : goal.returns-in_err-put_header-clause-held
returns-in_err-put_header-clause-held g c tells =
    let F = g.F.Flash in
    let b = c.args.self.now in
    let x = F.contents c.args.flash.now in
    let y = F.contents c.put_header.new.flash in
    leaves_headed b x (c.requires.lent.fits tells) c.requires.two c.requires.begun (b.current.number + 1) c.args.message.now y
    (omega (arith, b.next_fits c.requires.begun)) refl c.requires.few (λ i. omega (arith, c.type_inv.message i)) (c.requires.blank tells)
    (subst (λ (p : ℕ). CutsPut (p + 256) (paired c.args.message.now) p (header_written (b.current.number + 1) (length c.args.message.now)) x y) c.journal_place-place.ensures.value (c.put_header.ensures.held tells))

pub returns-clause-held : goal.returns-clause-held
returns-clause-held g c tells =
    let F = g.F.Flash in
    let b = c.args.self.now in
    let x = F.contents c.args.flash.now in
    let y = F.contents c.put_header.new.flash in
    leaves_headed b x (c.requires.lent.fits tells) c.requires.two c.requires.begun (b.current.number + 1) c.args.message.now y
    (omega (arith, b.next_fits c.requires.begun)) refl c.requires.few (λ i. omega (arith, c.type_inv.message i)) (c.requires.blank tells)
    (subst (λ (p : ℕ). CutsPut (p + 256) (paired c.args.message.now) p (header_written (b.current.number + 1) (length c.args.message.now)) x y) c.journal_place-place.ensures.value (c.put_header.ensures.held tells))

pub returns-in_err-put_header-clause-left : goal.returns-in_err-put_header-clause-left
returns-in_err-put_header-clause-left g c tells =
    let F = g.F.Flash in
    let b = c.args.self.now in
    let x = F.contents c.args.flash.now in
    weaker F.moment F.left_since c.args.flash.now c.put_header.new.flash _
    (LeavesPut (geometry_of b) (spare_journal b + 256) (paired c.args.message.now) (spare_journal b) (header_written (b.current.number + 1) (length c.args.message.now)) x)
    (λ y h. leaves_headed b x (c.requires.lent.fits tells) c.requires.two c.requires.begun (b.current.number + 1) c.args.message.now y
    (omega (arith, b.next_fits c.requires.begun)) refl c.requires.few (λ i. omega (arith, c.type_inv.message i)) (c.requires.blank tells)
    (subst (λ (p : ℕ). CutsPut (p + 256) (paired c.args.message.now) p (header_written (b.current.number + 1) (length c.args.message.now)) x y) c.journal_place-place.ensures.value h))
    (c.put_header.ensures.left tells)

pub returns-clause-left : goal.returns-clause-left
returns-clause-left g c tells =
    let F = g.F.Flash in
    let b = c.args.self.now in
    let x = F.contents c.args.flash.now in
    weaker F.moment F.left_since c.args.flash.now c.put_header.new.flash _
    (LeavesPut (geometry_of b) (spare_journal b + 256) (paired c.args.message.now) (spare_journal b) (header_written (b.current.number + 1) (length c.args.message.now)) x)
    (λ y h. leaves_headed b x (c.requires.lent.fits tells) c.requires.two c.requires.begun (b.current.number + 1) c.args.message.now y
    (omega (arith, b.next_fits c.requires.begun)) refl c.requires.few (λ i. omega (arith, c.type_inv.message i)) (c.requires.blank tells)
    (subst (λ (p : ℕ). CutsPut (p + 256) (paired c.args.message.now) p (header_written (b.current.number + 1) (length c.args.message.now)) x y) c.journal_place-place.ensures.value h))
    (c.put_header.ensures.left tells)

pub returns-clause-headed : goal.returns-clause-headed
returns-clause-headed g c tells =
    let F = g.F.Flash in
    let b = c.args.self.now in
    let x = F.contents c.args.flash.now in
    subst (λ (p : ℕ). Puts (p + 256) (paired c.args.message.now) p (header_written (b.current.number + 1) (length c.args.message.now)) x (F.contents c.put_header.new.flash))
    c.journal_place-place.ensures.value (c.in_ok-put_header.ensures.done tells)

pub returns-clause-lent : goal.returns-clause-lent
returns-clause-lent g c =
    record {
      usable = refl;
      blocks = c.put_header.ensures.blocks ∙ c.requires.lent.blocks;
      block_size = c.put_header.ensures.block_size ∙ c.requires.lent.block_size;
      fits = λ tells.
          let F = g.F.Flash in
          let b = c.args.self.now in
          let x = F.contents c.args.flash.now in
          let y = F.contents c.put_header.new.flash in
          let k = headed_kept b x (c.requires.lent.fits tells) c.requires.two c.requires.begun (b.current.number + 1) c.args.message.now y
          (omega (arith, b.next_fits c.requires.begun)) refl c.requires.few (λ i. omega (arith, c.type_inv.message i)) (c.requires.blank tells)
          (subst (λ (p : ℕ). CutsPut (p + 256) (paired c.args.message.now) p (header_written (b.current.number + 1) (length c.args.message.now)) x y) c.journal_place-place.ensures.value (c.put_header.ensures.held tells)) in
          record { sound = k.sound; current = k.current; head = k.head; blank = λ is. k.blank };
    }
