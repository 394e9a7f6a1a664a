use Rattle.std.proofs.Common.{◌≡◌, ◌+◌, ◌*◌, List, ℕ, length, subst, ◌∙◌, arith, rules}
use Rattle.flash_dev.specs.Changes.{Holds}
use Rattle.flash_layout.specs.Pairs.{part}
use Rattle.flash_layout.specs.Slots.{laid_one}
use Rattle.flash_bank.specs.Laid.{laid_from}
use Rattle.flash_bank.proofs.OverlayLemmas.{held_first, held_next}
use Rattle.flash_bank.proofs.ReadsLemmas.{reads_joined, reads_one}
use Rattle.flash_bank.proofs.laid_image.read_laid.Goals as goal

pub returns-in_err-read-clause-reads : goal.returns-in_err-read-clause-reads
returns-in_err-read-clause-reads g c =
    let F = g.F.Flash in
    reads_one F.tells F.contents F.block_count F.block_len F.moment F.left_since c.args.flash.now c.read.new.self (g.met.F.Flash.only_now c.args.flash.now)
    c.read.ensures.same c.read.ensures.blocks c.read.ensures.block_size c.read.ensures.time

pub loop-slot-init : goal.loop-slot-init
loop-slot-init g c =
    let F = g.F.Flash in
    let same : length c.read.new.buf ≡ length c.args.piece.now = search rules in
    record {
      most = omega arith;
      size = same;
      bytes = λ tells. held_first (F.contents c.args.flash.now) c.args.bank.place c.args.bank.len c.args.bank.slots c.args.at c.read.new.buf (c.in_ok-read.ensures.bytes tells) (omega (arith, same, c.requires.fits));
      reads = reads_one F.tells F.contents F.block_count F.block_len F.moment F.left_since c.args.flash.now c.read.new.self (g.met.F.Flash.only_now c.args.flash.now)
          c.read.ensures.same c.read.ensures.blocks c.read.ensures.block_size c.read.ensures.time;
      faults = omega (arith, c.read.ensures.cause.later);
    }

pub returns-in_err-lay-clause-reads : goal.returns-in_err-lay-clause-reads
returns-in_err-lay-clause-reads g c =
    let F = g.F.Flash in
    reads_joined F.tells F.contents F.block_count F.block_len F.moment F.left_since c.args.flash.now c.loop-slot.flash c.lay.new.flash c.loop-slot.invariant.reads c.lay.ensures.reads

pub loop-slot-preserved : goal.loop-slot-preserved
loop-slot-preserved g c =
    let F = g.F.Flash in
    let inv = c.loop-slot.invariant in
    let n = c.args.bank.len in
    let same : length c.lay.new.piece ≡ length c.loop-slot.piece = search rules in
    record {
      most = omega arith;
      size = same ∙ inv.size;
      bytes = λ tells.
          let x = F.contents c.args.flash.now in
          held_next x c.args.bank.place n c.args.bank.slots c.loop-slot.slot c.args.at c.loop-slot.piece c.lay.new.piece (omega (arith, c.requires.within.place, c.requires.whole tells)) (inv.bytes tells)
          (λ text long holds. subst (λ (y : List ℕ). Holds (laid_one n (part y (c.args.bank.slots + 4352 * c.loop-slot.slot) 4352) text) c.args.at c.lay.new.piece) (inv.reads.same tells)
          (c.in_ok-lay.ensures.laid tells text long holds));
      reads = reads_joined F.tells F.contents F.block_count F.block_len F.moment F.left_since c.args.flash.now c.loop-slot.flash c.lay.new.flash inv.reads c.lay.ensures.reads;
      faults = omega (arith, inv.faults, c.lay.ensures.cause.later);
    }

pub returns-clause-bytes : goal.returns-clause-bytes
returns-clause-bytes g c tells =
    let all : c.loop-slot.slot ≡ 16 = omega (arith, c.loop-slot.invariant.most) in
    subst (λ (s : ℕ). Holds (laid_from (g.F.Flash.contents c.args.flash.now) c.args.bank.place c.args.bank.len c.args.bank.slots s) c.args.at c.loop-slot.piece) all (c.loop-slot.invariant.bytes tells)
