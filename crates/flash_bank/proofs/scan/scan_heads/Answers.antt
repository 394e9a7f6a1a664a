use Rattle.std.specs.Prelude.{false}
use Rattle.std.proofs.Common.{◌+◌, ◌*◌, List, ℕ, subst, sym, ◌∙◌, arith}
use Rattle.flash_bank.specs.Scan.{ArePairs}
use Rattle.flash_bank.proofs.ReadsLemmas.{reads_joined}
use Rattle.flash_bank.proofs.ScanLemmas.{heads_more}
use Rattle.flash_bank.proofs.scan.scan_heads.Goals as goal

pub returns-then-not-good-clause-found : goal.returns-then-not-good-clause-found
returns-then-not-good-clause-found g c tells =
    let inv = c.loop-slot.invariant in
    let old = g.F.Flash.contents c.args.flash.now in (
      λ never. absurd (cc never),
      λ all. sym c.if-not-good.true ∙ (c.in_ok-good.ensures.found tells).1
          (subst (λ (l : List ℕ). ArePairs false l (c.args.slots + 4352 * c.loop-slot.slot) 8) (sym (inv.reads.same tells)) (all.each c.loop-slot.slot (omega arith))),
    )

pub loop-slot-preserved : goal.loop-slot-preserved
loop-slot-preserved g c =
    let F = g.F.Flash in
    let inv = c.loop-slot.invariant in
    let old = F.contents c.args.flash.now in
    record {
      fits = omega arith;
      so_far = λ tells. heads_more old c.args.slots c.loop-slot.slot (inv.so_far tells)
          (subst (λ (l : List ℕ). ArePairs false l (c.args.slots + 4352 * c.loop-slot.slot) 8) (inv.reads.same tells) ((c.in_ok-good.ensures.found tells).0 c.if-not-good.false));
      reads = reads_joined F.tells F.contents F.block_count F.block_len F.moment F.left_since c.args.flash.now c.loop-slot.flash c.scan_pairs.new.flash inv.reads c.scan_pairs.ensures.reads;
      faults = omega (arith, inv.faults, c.scan_pairs.ensures.cause.later);
    }
