use Rattle.std.proofs.Common.{◌≡◌, ◌+◌, ◌*◌, ℕ, refl, sym, subst, ◌∙◌, arith}
use Rattle.flash_dev.specs.Changes.{Holds}
use Rattle.flash_bank.specs.Bank.{Fits, current_of, geometry_of}
use Rattle.flash_bank.proofs.JournalCallLemmas.{journal_len_none, journal_len_two}
use Rattle.flash_bank.proofs.ReadsLemmas.{reads_none, reads_one}
use Rattle.flash_bank.proofs.bank.Bank.glance.Goals as goal

-- in layout 1 there is nothing to read

pub returns-then-self-ne2-clause-lent : goal.returns-then-self-ne2-clause-lent
returns-then-self-ne2-clause-lent g c = c.requires.lent

pub returns-then-self-ne2-clause-bytes : goal.returns-then-self-ne2-clause-bytes
returns-then-self-ne2-clause-bytes g c tells k lt =
    absurd (omega (arith, lt, c.requires.inside, journal_len_none c.args.self.now (λ two. omega (arith, c.if-self-ne2.true, two))))

pub returns-then-self-ne2-clause-reads : goal.returns-then-self-ne2-clause-reads
returns-then-self-ne2-clause-reads g c =
    let F = g.F.Flash in
    reads_none F.tells F.contents F.block_count F.block_len F.moment F.left_since c.args.flash.now (g.met.F.Flash.only_now c.args.flash.now)

-- in layout 2 the journal is read

pub journal_place-place-requires-clause-room : goal.journal_place-place-requires-clause-room
journal_place-place-requires-clause-room g c = c.args.self.now.room (omega (arith, c.if-self-ne2.false))

pub overflow_add-place : goal.overflow_add-place
overflow_add-place g c =
    let b = c.args.self.now in
    let two : (current_of b).layout ≡ 2 = omega (arith, c.if-self-ne2.false) in
    omega (arith, c.journal_place-place.ensures.inside, b.limits.most_bytes, c.requires.inside, journal_len_two b two)

pub read-requires : goal.read-requires
read-requires g c =
    let b = c.args.self.now in
    let two : (current_of b).layout ≡ 2 = omega (arith, c.if-self-ne2.false) in
    let total : g.F.Flash.block_count c.args.flash.now * g.F.Flash.block_len c.args.flash.now ≡ (geometry_of b).blocks * (geometry_of b).block_len =
    (λ i. c.requires.lent.blocks i * c.requires.lent.block_size i) in
    omega (arith, total, c.journal_place-place.ensures.inside, c.requires.inside, journal_len_two b two)

pub returns-in_err-read-clause-reads : goal.returns-in_err-read-clause-reads
returns-in_err-read-clause-reads g c =
    let F = g.F.Flash in
    reads_one F.tells F.contents F.block_count F.block_len F.moment F.left_since c.args.flash.now c.read.new.self (g.met.F.Flash.only_now c.args.flash.now)
    c.read.ensures.same c.read.ensures.blocks c.read.ensures.block_size c.read.ensures.time

pub returns-clause-reads : goal.returns-clause-reads
returns-clause-reads g c =
    let F = g.F.Flash in
    reads_one F.tells F.contents F.block_count F.block_len F.moment F.left_since c.args.flash.now c.read.new.self (g.met.F.Flash.only_now c.args.flash.now)
    c.read.ensures.same c.read.ensures.blocks c.read.ensures.block_size c.read.ensures.time

pub returns-clause-bytes : goal.returns-clause-bytes
returns-clause-bytes g c tells =
    subst (λ (p : ℕ). Holds (g.F.Flash.contents c.args.flash.now) (p + c.args.at) c.read.new.buf) c.journal_place-place.ensures.value (c.in_ok-read.ensures.bytes tells)

pub returns-clause-lent : goal.returns-clause-lent
returns-clause-lent g c = record {
  usable = refl;
  blocks = c.read.ensures.blocks ∙ c.requires.lent.blocks;
  block_size = c.read.ensures.block_size ∙ c.requires.lent.block_size;
  fits = λ tells.
      let fits = subst (Fits c.args.self.now) (sym (c.read.ensures.same tells)) (c.requires.lent.fits tells) in
      record { sound = fits.sound; current = fits.current; head = fits.head; blank = fits.blank };
}
