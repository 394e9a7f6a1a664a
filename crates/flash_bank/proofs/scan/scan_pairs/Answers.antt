use Rattle.std.proofs.Common.{◌+◌, ◌*◌, List, ℕ, subst, sym, ◌∙◌, arith}
use Rattle.flash_bank.specs.Scan.{ArePairs}
use Rattle.flash_bank.proofs.ReadsLemmas.{reads_joined}
use Rattle.flash_bank.proofs.ScanLemmas.{pairs_more, pairs_part}
use Rattle.flash_bank.proofs.scan.scan_pairs.Goals as goal

pub returns-then-not-good-clause-found : goal.returns-then-not-good-clause-found
returns-then-not-good-clause-found g c tells =
    let inv = c.loop-done.invariant in
    let old = g.F.Flash.contents c.args.flash.now in
    let n = c.min-n.result in
    let there = λ (all : ArePairs c.args.exact old c.args.at c.args.count).
    (c.in_ok-good.ensures.found tells).1 (subst (λ (l : List ℕ). ArePairs c.args.exact l (c.args.at + 2 * c.loop-done.done) n) (sym (inv.reads.same tells)) (pairs_part c.args.exact old c.args.at c.loop-done.done n c.args.count (omega arith) all)) in
    (λ never. absurd (cc never), λ all. sym c.if-not-good.true ∙ there all)

pub loop-done-preserved : goal.loop-done-preserved
loop-done-preserved g c =
    let F = g.F.Flash in
    let inv = c.loop-done.invariant in
    let old = F.contents c.args.flash.now in
    record {
      fits = omega arith;
      so_far = λ tells. pairs_more c.args.exact old c.args.at c.loop-done.done c.min-n.result (inv.so_far tells)
          (subst (λ (l : List ℕ). ArePairs c.args.exact l (c.args.at + 2 * c.loop-done.done) c.min-n.result) (inv.reads.same tells) ((c.in_ok-good.ensures.found tells).0 c.if-not-good.false));
      reads = reads_joined F.tells F.contents F.block_count F.block_len F.moment F.left_since c.args.flash.now c.loop-done.flash c.some_pairs.new.flash inv.reads c.some_pairs.ensures.reads;
      faults = omega (arith, inv.faults, c.some_pairs.ensures.cause.later);
    }
