use Rattle.std.proofs.Common.{◌≡◌, inl, inr, ⊎_elim, ◌+◌, ℕ, List, refl, sym, ◌∙◌, ap, subst, arith, rules}
use Rattle.flash_remap.specs.Layout.{spare_block}
use Rattle.flash_remap.specs.Replaced.{IsReplaced, Replaces}
use Rattle.flash_remap.specs.Shape.{geometry}
use Rattle.flash_remap.proofs.AttemptLemmas.{replaced_on, replaces_none, replaces_on, replaces_wider}
use Rattle.flash_remap.proofs.CountLemmas.{counted_more}
use Rattle.flash_remap.proofs.FillLemmas.{same_product}
use Rattle.flash_remap.proofs.LeavingLemmas.{left_joined, left_none}
use Rattle.flash_remap.proofs.replace.replace.Goals as goal

pub loop-layout-init : goal.loop-layout-init
loop-layout-init g c =
    let F = g.F.Flash in
    let G = geometry c.args.layout in
    let next = c.args.next.now in
    let x = F.contents c.args.inner.now in
    let none = λ (tells : F.tells). replaces_none G c.args.block c.args.from c.args.change next.spare next.spare x c.requires.from (c.requires.below tells) in
    record {
      so_far = none;
      left = left_none F c.args.inner.now (Replaces G c.args.block c.args.from c.args.change next.spare c.args.layout.spares x) (g.met.F.Flash.only_now c.args.inner.now)
          (λ tells. replaces_wider G c.args.block c.args.from c.args.change next.spare next.spare x c.requires.from c.args.layout.spares x c.requires.spare (none tells));
      blank = c.requires.blank;
      spare = omega arith;
      most_spare = c.requires.spare;
      slot = omega arith;
      most_slot = c.requires.slot;
      slots = omega arith;
      counted = inr (omega arith);
      later = omega arith;
      blocks = refl;
      block_size = refl;
      halt = λ halted. halted;
    }

pub attempt-requires-clause-whole : goal.attempt-requires-clause-whole
attempt-requires-clause-whole g c tells =
    let inv = c.loop-layout.invariant in
    (inv.so_far tells).size ∙ (c.requires.whole tells ∙ sym (same_product _ _ _ _ inv.blocks inv.block_size))

pub attempt-requires-clause-below : goal.attempt-requires-clause-below
attempt-requires-clause-below g c tells = (c.loop-layout.invariant.so_far tells).below

pub loop-layout-preserved : goal.loop-layout-preserved
loop-layout-preserved g c =
    let F = g.F.Flash in
    let G = geometry c.args.layout in
    let inv = c.loop-layout.invariant in
    let first = c.args.next.now.spare in
    let next = c.loop-layout.next.spare in
    let x = F.contents c.args.inner.now in
    let mid = F.contents c.loop-layout.inner in
    let new = F.contents c.attempt.new.inner in
    let on = λ (tells : F.tells) (y : List ℕ) (here : Replaces G c.args.block c.args.from c.args.change next (next + 1) mid y).
    replaces_on G c.args.block c.args.from c.args.change first next x c.requires.from mid y inv.spare (inv.so_far tells) here in
    let here = λ (tells : F.tells). subst (λ (n : ℕ). Replaces G c.args.block c.args.from c.args.change next n mid new) c.attempt.ensures.spare (c.attempt.ensures.held tells) in
    let left = left_joined F c.args.inner.now c.loop-layout.inner c.attempt.new.inner (Replaces G c.args.block c.args.from c.args.change first c.args.layout.spares x)
    (Replaces G c.args.block c.args.from c.args.change next (next + 1) mid) inv.left c.attempt.ensures.left
    (λ tells y r. replaces_wider G c.args.block c.args.from c.args.change first (next + 1) x c.requires.from c.args.layout.spares y (omega arith) (on tells y r)) in
    record {
      so_far = λ tells. subst (λ (n : ℕ). Replaces G c.args.block c.args.from c.args.change first n x new) (sym c.attempt.ensures.spare) (on tells new (here tells));
      left = left;
      blank = c.attempt.ensures.blank;
      spare = omega arith;
      most_spare = omega arith;
      slot = omega arith;
      most_slot = omega arith;
      slots = omega arith;
      counted = counted_more (F.faults c.args.inner.now) (F.faults c.loop-layout.inner) (F.faults c.attempt.new.inner) first next c.attempt.new.next.spare inv.counted
          c.attempt.ensures.cause.later (omega arith) (c.attempt.ensures.cause.failed (search rules));
      later = omega (arith, inv.later, c.attempt.ensures.cause.later);
      blocks = c.attempt.ensures.blocks ∙ inv.blocks;
      block_size = c.attempt.ensures.block_size ∙ inv.block_size;
      halt = λ halted. (c.attempt.ensures.halt (inv.halt halted)).1;
    }

pub returns-in-Ok-clause-left : goal.returns-in-Ok-clause-left
returns-in-Ok-clause-left g c =
    let F = g.F.Flash in
    let G = geometry c.args.layout in
    let inv = c.loop-layout.invariant in
    let first = c.args.next.now.spare in
    let next = c.loop-layout.next.spare in
    let x = F.contents c.args.inner.now in
    let mid = F.contents c.loop-layout.inner in
    let new = F.contents c.attempt.new.inner in
    let on = λ (tells : F.tells) (y : List ℕ) (here : Replaces G c.args.block c.args.from c.args.change next (next + 1) mid y).
    replaces_on G c.args.block c.args.from c.args.change first next x c.requires.from mid y inv.spare (inv.so_far tells) here in
    let here = λ (tells : F.tells). subst (λ (n : ℕ). Replaces G c.args.block c.args.from c.args.change next n mid new) c.attempt.ensures.spare (c.attempt.ensures.held tells) in
    let left = left_joined F c.args.inner.now c.loop-layout.inner c.attempt.new.inner (Replaces G c.args.block c.args.from c.args.change first c.args.layout.spares x)
    (Replaces G c.args.block c.args.from c.args.change next (next + 1) mid) inv.left c.attempt.ensures.left
    (λ tells y r. replaces_wider G c.args.block c.args.from c.args.change first (next + 1) x c.requires.from c.args.layout.spares y (omega arith) (on tells y r)) in
    left

pub returns-in-Ok-clause-held : goal.returns-in-Ok-clause-held
returns-in-Ok-clause-held g c tells =
    let F = g.F.Flash in
    let G = geometry c.args.layout in
    let inv = c.loop-layout.invariant in
    let first = c.args.next.now.spare in
    let next = c.loop-layout.next.spare in
    let x = F.contents c.args.inner.now in
    let mid = F.contents c.loop-layout.inner in
    let new = F.contents c.attempt.new.inner in
    let on = λ (tells : F.tells) (y : List ℕ) (here : Replaces G c.args.block c.args.from c.args.change next (next + 1) mid y).
    replaces_on G c.args.block c.args.from c.args.change first next x c.requires.from mid y inv.spare (inv.so_far tells) here in
    let here = λ (tells : F.tells). subst (λ (n : ℕ). Replaces G c.args.block c.args.from c.args.change next n mid new) c.attempt.ensures.spare (c.attempt.ensures.held tells) in
    let left = left_joined F c.args.inner.now c.loop-layout.inner c.attempt.new.inner (Replaces G c.args.block c.args.from c.args.change first c.args.layout.spares x)
    (Replaces G c.args.block c.args.from c.args.change next (next + 1) mid) inv.left c.attempt.ensures.left
    (λ tells y r. replaces_wider G c.args.block c.args.from c.args.change first (next + 1) x c.requires.from c.args.layout.spares y (omega arith) (on tells y r)) in
    subst (λ (n : ℕ). Replaces G c.args.block c.args.from c.args.change first n x new) (sym c.attempt.ensures.spare) (on tells new (here tells))

pub returns-in-Ok-clause-replaced : goal.returns-in-Ok-clause-replaced
returns-in-Ok-clause-replaced g c tells =
    let F = g.F.Flash in
    let G = geometry c.args.layout in
    let inv = c.loop-layout.invariant in
    let first = c.args.next.now.spare in
    let next = c.loop-layout.next.spare in
    let x = F.contents c.args.inner.now in
    let mid = F.contents c.loop-layout.inner in
    let new = F.contents c.attempt.new.inner in
    let on = λ (tells : F.tells) (y : List ℕ) (here : Replaces G c.args.block c.args.from c.args.change next (next + 1) mid y).
    replaces_on G c.args.block c.args.from c.args.change first next x c.requires.from mid y inv.spare (inv.so_far tells) here in
    let here = subst (λ (n : ℕ). IsReplaced G c.args.block c.args.from c.args.change next n mid new) c.attempt.ensures.spare (c.in-Ok.ensures.replaced tells) in
    subst (λ (n : ℕ). IsReplaced G c.args.block c.args.from c.args.change first n x new) (sym c.attempt.ensures.spare)
    (replaced_on G c.args.block c.args.from c.args.change first next x c.requires.from mid new inv.spare (inv.so_far tells) here)

pub returns-in-Ok-clause-counted : goal.returns-in-Ok-clause-counted
returns-in-Ok-clause-counted g c =
    let F = g.F.Flash in
    let inv = c.loop-layout.invariant in
    ⊎_elim (λ top. inl (omega (arith, top, c.attempt.ensures.cause.later))) (λ count. inr (omega (arith, count, c.attempt.ensures.cause.later, c.attempt.ensures.spare))) inv.counted

pub returns-in-Ok-clause-halt : goal.returns-in-Ok-clause-halt
returns-in-Ok-clause-halt g c halted =
    c.in-Ok.ensures.halt (c.loop-layout.invariant.halt halted)

pub returns-clause-counted : goal.returns-clause-counted
returns-clause-counted g c = ⊎_elim (λ top. inl top) (λ count. inr (omega (arith, count))) c.loop-layout.invariant.counted

pub returns-in-Ok-clause-stands : goal.returns-in-Ok-clause-stands
returns-in-Ok-clause-stands g c tells =
    let r = c.in-Ok.ensures.replaced tells in
    let is : r.spare ≡ c.in-Ok.entry.spare = omega (arith, r.least, r.most, c.attempt.ensures.spare, c.in-Ok.ensures.entry.1) in
    r.stands ∙ ap (spare_block (geometry c.args.layout)) is

pub returns-in-Ok-clause-entry : goal.returns-in-Ok-clause-entry
returns-in-Ok-clause-entry g c =
    let entry = c.in-Ok.ensures.entry in
    (entry.0, (omega (arith, entry.1, c.attempt.ensures.spare), omega (arith, entry.1, c.loop-layout.invariant.spare)))

pub returns-in-Ok-clause-next : goal.returns-in-Ok-clause-next
returns-in-Ok-clause-next g c tells = c.in-Ok.ensures.next tells
