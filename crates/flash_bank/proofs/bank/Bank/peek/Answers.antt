use Rattle.std.proofs.Common.{◌≡◌, ◌+◌, ◌*◌, ℕ, refl, sym, subst, ◌∙◌, arith}
use Rattle.flash_dev.specs.Changes.{Holds}
use Rattle.flash_bank.specs.Bank.{Fits, geometry_of}
use Rattle.flash_bank.proofs.BankLemmas.{len_less}
use Rattle.flash_bank.proofs.ReadsLemmas.{reads_one}
use Rattle.flash_bank.proofs.bank.Bank.peek.Goals as goal

pub overflow_add-place : goal.overflow_add-place
overflow_add-place g c = omega (arith, c.area_place-place.ensures.inside, c.args.self.now.limits.most_bytes, c.requires.inside, len_less c.args.self.now)

pub read-requires : goal.read-requires
read-requires g c =
    let b = c.args.self.now in
    let total : g.F.Flash.block_count c.args.flash.now * g.F.Flash.block_len c.args.flash.now ≡ (geometry_of b).blocks * (geometry_of b).block_len =
    (λ i. c.requires.lent.blocks i * c.requires.lent.block_size i) in
    omega (arith, total, c.area_place-place.ensures.inside, c.requires.inside, len_less b)

pub returns-in_err-read-clause-reads : goal.returns-in_err-read-clause-reads
returns-in_err-read-clause-reads g c =
    let F = g.F.Flash in
    reads_one F.tells F.contents F.block_count F.block_len F.moment F.left_since c.args.flash.now c.read.new.self (g.met.F.Flash.only_now c.args.flash.now)
    c.read.ensures.same c.read.ensures.blocks c.read.ensures.block_size c.read.ensures.time

pub returns-clause-reads : goal.returns-clause-reads
returns-clause-reads g c =
    let F = g.F.Flash in
    reads_one F.tells F.contents F.block_count F.block_len F.moment F.left_since c.args.flash.now c.read.new.self (g.met.F.Flash.only_now c.args.flash.now)
    c.read.ensures.same c.read.ensures.blocks c.read.ensures.block_size c.read.ensures.time

pub returns-clause-bytes : goal.returns-clause-bytes
returns-clause-bytes g c tells =
    subst (λ (p : ℕ). Holds (g.F.Flash.contents c.args.flash.now) (p + c.args.at) c.read.new.buf) c.area_place-place.ensures.value (c.in_ok-read.ensures.bytes tells)

pub returns-clause-lent : goal.returns-clause-lent
returns-clause-lent g c = record {
  usable = refl;
  blocks = c.read.ensures.blocks ∙ c.requires.lent.blocks;
  block_size = c.read.ensures.block_size ∙ c.requires.lent.block_size;
  fits = λ tells.
      let fits = subst (Fits c.args.self.now) (sym (c.read.ensures.same tells)) (c.requires.lent.fits tells) in
      record { sound = fits.sound; current = fits.current; head = fits.head; blank = fits.blank };
}
