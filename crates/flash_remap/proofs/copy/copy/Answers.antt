use Rattle.std.proofs.Common.{◌≡◌, ◌+◌, ℕ, refl, sym, ◌∙◌, subst, arith}
use Rattle.flash_dev.specs.Changes.{Changes, LiesInOneBlock}
use Rattle.flash_remap.specs.Replaced.{Anything}
use Rattle.flash_remap.proofs.CopyLemmas.{IsCopy, any_joined, any_none, any_within, copy_blank, copy_more, part_in_block}
use Rattle.flash_remap.proofs.LeavingLemmas.{left_joined, left_none}
use Rattle.flash_remap.proofs.copy.copy.Goals as goal

pub loop-done-init : goal.loop-done-init
loop-done-init g c =
    let F = g.F.Flash in
    let old = F.contents c.args.inner.now in
    record {
      fits = omega arith;
      so_far = λ tells. record { size = refl; before = λ k lt. refl; after = λ k le. refl; inside = λ k lt. absurd (omega (arith, lt)) };
      left = left_none F c.args.inner.now (Changes c.args.to c.args.len Anything old) (g.met.F.Flash.only_now c.args.inner.now) (λ tells. any_none c.args.to c.args.len old);
      blocks = refl;
      block_size = refl;
      halt = λ halted. halted;
      faults = omega arith;
    }

pub copy_some-requires-clause-one_block : goal.copy_some-requires-clause-one_block
copy_some-requires-clause-one_block g c =
    let inv = c.loop-done.invariant in
    subst (λ (z : ℕ). LiesInOneBlock z (c.args.to + c.loop-done.done) c.min-n.result) (sym inv.block_size)
    (part_in_block (g.F.Flash.block_len c.args.inner.now) c.args.to c.args.len (c.args.to + c.loop-done.done) c.min-n.result c.requires.one_block (omega arith) (omega arith))

pub copy_some-requires-clause-blank : goal.copy_some-requires-clause-blank
copy_some-requires-clause-blank g c tells =
    let F = g.F.Flash in
    copy_blank c.args.from c.args.to c.loop-done.done c.min-n.result c.args.len (F.contents c.args.inner.now) (F.contents c.loop-done.inner) (F.contents c.loop-done.inner)
    c.requires.apart (omega arith) (c.loop-done.invariant.so_far tells) (c.requires.blank tells)

pub returns-in_err-copy_some-clause-held : goal.returns-in_err-copy_some-clause-held
returns-in_err-copy_some-clause-held g c tells =
    let F = g.F.Flash in
    let old = F.contents c.args.inner.now in
    let mid = F.contents c.loop-done.inner in
    let new = F.contents c.copy_some.new.inner in
    any_joined c.args.to c.args.len old mid new
    (any_within c.args.to c.args.len c.args.to c.loop-done.done _ old mid (omega arith) (omega arith) (c.loop-done.invariant.so_far tells))
    (any_within c.args.to c.args.len (c.args.to + c.loop-done.done) c.min-n.result _ mid new (omega arith) (omega arith) (c.copy_some.ensures.held tells))

pub returns-in_err-copy_some-clause-left : goal.returns-in_err-copy_some-clause-left
returns-in_err-copy_some-clause-left g c =
    let F = g.F.Flash in
    let old = F.contents c.args.inner.now in
    let mid = F.contents c.loop-done.inner in
    left_joined F c.args.inner.now c.loop-done.inner c.copy_some.new.inner (Changes c.args.to c.args.len Anything old)
    (Changes (c.args.to + c.loop-done.done) c.min-n.result Anything mid) c.loop-done.invariant.left c.copy_some.ensures.left
    (λ tells y torn.
    any_joined c.args.to c.args.len old mid y
    (any_within c.args.to c.args.len c.args.to c.loop-done.done _ old mid (omega arith) (omega arith) (c.loop-done.invariant.so_far tells))
    (any_within c.args.to c.args.len (c.args.to + c.loop-done.done) c.min-n.result _ mid y (omega arith) (omega arith) torn))

pub returns-clause-held : goal.returns-clause-held
returns-clause-held g c tells =
    let F = g.F.Flash in
    any_within c.args.to c.args.len c.args.to c.loop-done.done _ (F.contents c.args.inner.now) (F.contents c.loop-done.inner) (omega arith) (omega arith) (c.loop-done.invariant.so_far tells)

pub returns-clause-done : goal.returns-clause-done
returns-clause-done g c tells =
    let F = g.F.Flash in
    let is : c.loop-done.done ≡ c.args.len = omega arith in
    subst (λ (n : ℕ). Changes c.args.to n (IsCopy (F.contents c.args.inner.now) c.args.from) (F.contents c.args.inner.now) (F.contents c.loop-done.inner)) is (c.loop-done.invariant.so_far tells)

pub loop-done-preserved : goal.loop-done-preserved
loop-done-preserved g c =
    let F = g.F.Flash in
    let inv = c.loop-done.invariant in
    let old = F.contents c.args.inner.now in
    let mid = F.contents c.loop-done.inner in
    let done = c.loop-done.done in
    let n = c.min-n.result in
    record {
      fits = omega arith;
      so_far = λ tells. copy_more c.args.from c.args.to done n c.args.len old mid (F.contents c.copy_some.new.inner) c.requires.apart (omega arith) (inv.so_far tells)
          (c.in_ok-copy_some.ensures.done tells);
      left = left_joined F c.args.inner.now c.loop-done.inner c.copy_some.new.inner (Changes c.args.to c.args.len Anything old)
          (Changes (c.args.to + done) n Anything mid) inv.left c.copy_some.ensures.left
          (λ tells y torn.
          any_joined c.args.to c.args.len old mid y
          (any_within c.args.to c.args.len c.args.to done _ old mid (omega arith) (omega arith) (inv.so_far tells))
          (any_within c.args.to c.args.len (c.args.to + done) n _ mid y (omega arith) (omega arith) torn));
      blocks = c.copy_some.ensures.blocks ∙ inv.blocks;
      block_size = c.copy_some.ensures.block_size ∙ inv.block_size;
      halt = λ halted. c.copy_some.ensures.halt (inv.halt halted);
      faults = omega (arith, inv.faults, c.copy_some.ensures.cause.later);
    }
