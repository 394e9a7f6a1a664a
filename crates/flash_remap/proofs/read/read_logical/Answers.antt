use Rattle.std.proofs.Common.{ℕ, ◌+◌, ◌-◌, List, length, take, ap, sym, subst, ◌∙◌, arith}
use Rattle.flash_dev.specs.Changes.{Holds}
use Rattle.flash_remap.specs.Logical.{logical}
use Rattle.flash_remap.specs.Map.{place_of}
use Rattle.flash_remap.specs.Shape.{geometry}
use Rattle.flash_remap.proofs.ReadLemmas.{held_more, long_more, reads_joined, reads_none}
use Rattle.flash_remap.proofs.read.read_logical.Goals as goal

pub loop-done-init : goal.loop-done-init
loop-done-init g c = record {
  within = omega arith;
  bytes = λ tells k lt. absurd (omega (arith, lt));
  reads = reads_none g.F.Flash c.args.inner.now (g.met.F.Flash.only_now c.args.inner.now);
  later = omega arith;
}

pub read_piece-requires-clause-stands : goal.read_piece-requires-clause-stands
read_piece-requires-clause-stands g c tells block lt =
    let G = geometry c.args.layout in
    c.requires.stands tells block lt ∙ ap (λ (x : List ℕ). place_of G x block) (sym (c.loop-done.invariant.reads.same tells))

pub loop-done-preserved : goal.loop-done-preserved
loop-done-preserved g c =
    let F = g.F.Flash in
    let G = geometry c.args.layout in
    let done = c.loop-done.done in
    let n = c.in_ok-n.n in
    let buf = c.loop-done.buf in
    let given = c.read_piece.new.buf in
    let kept = c.loop-done.invariant in
    let x = F.contents c.args.inner.now in
    record {
      within = long_more done n (length buf - done) buf given kept.within c.in_ok-n.ensures.fits;
      bytes = λ tells.
          let here : Holds (logical G x) (c.args.at + done) (take n given) =
          subst (λ (y : List ℕ). Holds (logical G y) (c.args.at + done) (take n given)) (kept.reads.same tells) (c.in_ok-n.ensures.bytes tells) in
          held_more (logical G x) buf given c.args.at done n (length buf - done) kept.within c.in_ok-n.ensures.fits (kept.bytes tells) here;
      reads = reads_joined F c.args.inner.now c.loop-done.inner c.read_piece.new.inner kept.reads c.read_piece.ensures.reads;
      later = omega (arith, kept.later, c.read_piece.ensures.cause.later);
    }

pub returns-in_err-n-clause-reads : goal.returns-in_err-n-clause-reads
returns-in_err-n-clause-reads g c =
    reads_joined g.F.Flash c.args.inner.now c.loop-done.inner c.read_piece.new.inner c.loop-done.invariant.reads c.read_piece.ensures.reads
