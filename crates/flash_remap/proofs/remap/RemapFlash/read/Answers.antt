use Rattle.std.proofs.Common.{◌≡◌, inl, inr, ⊎_elim, ◌<◌, true, length, ℕ, List, refl, sym, ◌∙◌, ap, subst, arith, rules}
use Rattle.std.proofs.lemmas.Bool.{false≢true, true≢false}
use Rattle.flash_remap.specs.Logical.{logical}
use Rattle.flash_remap.specs.Map.{AreNext, are_below, place_among, place_of}
use Rattle.flash_remap.specs.Shape.{geometry}
use Rattle.flash_remap.specs.declared.entry.Entry.{Entry}
use Rattle.flash_remap.proofs.FillLemmas.{same_product}
use Rattle.flash_remap.proofs.ReadLemmas.{reads_none}
use Rattle.flash_remap.proofs.RemapLemmas.{below_later, still}
use Rattle.flash_remap.proofs.ViewLemmas.{view_elapses}
use Rattle.flash_remap.proofs.remap.RemapFlash.read.Goals as goal

pub returns-then-self-clause-time : goal.returns-then-self-clause-time
returns-then-self-clause-time g c =
    let F = g.F.Flash in
    let me = c.args.self.now in
    let G = geometry me.layout in
    still F G me.inner _

pub returns-then-self-clause-answers : goal.returns-then-self-clause-answers
returns-then-self-clause-answers g c =
    let F = g.F.Flash in
    let me = c.args.self.now in
    let G = geometry me.layout in
    record {
      geometry = refl;
      blocks = refl;
      block_size = refl;
      ok = λ is. absurd (false≢true is);
      err = λ is. search rules;
      cause = λ is. inl c.if-self.true;
      uses = inr (omega arith);
      later = omega arith;
      worn = λ is. (refl, is);
    }

pub returns-then-self-clause-reads : goal.returns-then-self-clause-reads
returns-then-self-clause-reads g c =
    let F = g.F.Flash in
    let me = c.args.self.now in
    let G = geometry me.layout in
    reads_none F me.inner (g.met.F.Flash.only_now me.inner)

pub read_logical-requires-clause-below : goal.read_logical-requires-clause-below
read_logical-requires-clause-below g c =
    let F = g.F.Flash in
    let me = c.args.self.now in
    let G = geometry me.layout in
    subst (λ (es : List Entry). are_below es me.layout.spares ≡ true) (sym c.as_slice.ensures.value) (below_later me.entries.items me.next.spare me.layout.spares me.spare me.in_use)

pub read_logical-requires-clause-stands : goal.read_logical-requires-clause-stands
read_logical-requires-clause-stands g c tells =
    let F = g.F.Flash in
    let me = c.args.self.now in
    let G = geometry me.layout in
    subst (λ (es : List Entry). (block : ℕ) → block < me.layout.logical → place_among G es block ≡ place_of G (F.contents me.inner) block) (sym c.as_slice.ensures.value) (me.stands tells c.if-self.false)

pub returns-in-Ok-clause-same : goal.returns-in-Ok-clause-same
returns-in-Ok-clause-same g c tells =
    let F = g.F.Flash in
    let me = c.args.self.now in
    let G = geometry me.layout in
    ap (logical G) (c.read_logical.ensures.reads.same tells)

pub returns-in-Ok-clause-time : goal.returns-in-Ok-clause-time
returns-in-Ok-clause-time g c =
    let F = g.F.Flash in
    let me = c.args.self.now in
    let G = geometry me.layout in
    view_elapses F G me.inner c.read_logical.new.inner (λ (y : List ℕ). y ≡ F.contents me.inner) (λ (y : List ℕ). y ≡ logical G (F.contents c.read_logical.new.inner)) c.read_logical.ensures.reads.left (λ tells y is. ap (logical G) (is ∙ sym (c.read_logical.ensures.reads.same tells)))

pub returns-in-Ok-clause-halt : goal.returns-in-Ok-clause-halt
returns-in-Ok-clause-halt g c =
    let F = g.F.Flash in
    let me = c.args.self.now in
    let G = geometry me.layout in
    (λ h. ⊎_elim (λ w. inl w) (λ i. inr (c.read_logical.ensures.reads.halt.0 i)) h, λ h. ⊎_elim (λ w. inl w) (λ i. inr (c.read_logical.ensures.reads.halt.1 i)) h)

pub returns-in-Ok-clause-answers : goal.returns-in-Ok-clause-answers
returns-in-Ok-clause-answers g c =
    let F = g.F.Flash in
    let me = c.args.self.now in
    let G = geometry me.layout in
    record {
      geometry = refl;
      blocks = c.read_logical.ensures.reads.blocks;
      block_size = c.read_logical.ensures.reads.block_size;
      ok = λ is. refl;
      err = λ is. absurd (false≢true is);
      cause = λ is. absurd (false≢true is);
      uses = inr (omega (arith, c.read_logical.ensures.cause.later));
      later = c.read_logical.ensures.cause.later;
      worn = λ is. absurd (true≢false (sym is ∙ c.if-self.false));
    }

pub returns-in-Ok-clause-reads : goal.returns-in-Ok-clause-reads
returns-in-Ok-clause-reads g c =
    let F = g.F.Flash in
    let me = c.args.self.now in
    let G = geometry me.layout in
    c.read_logical.ensures.reads

pub invariant_of-self-in-Ok-clause-stands : goal.invariant_of-self-in-Ok-clause-stands
invariant_of-self-in-Ok-clause-stands g c tells not block lt =
    let F = g.F.Flash in
    let me = c.args.self.now in
    let G = geometry me.layout in
    me.stands tells not block lt ∙ ap (λ (y : List ℕ). place_of G y block) (sym (c.read_logical.ensures.reads.same tells))

pub invariant_of-self-in-Ok-clause-next_is : goal.invariant_of-self-in-Ok-clause-next_is
invariant_of-self-in-Ok-clause-next_is g c tells not =
    let F = g.F.Flash in
    let me = c.args.self.now in
    let G = geometry me.layout in
    subst (λ (y : List ℕ). AreNext G y me.next.spare me.next.slot) (sym (c.read_logical.ensures.reads.same tells)) (me.next_is tells not)

pub invariant_of-self-in-Ok-clause-whole : goal.invariant_of-self-in-Ok-clause-whole
invariant_of-self-in-Ok-clause-whole g c tells =
    let F = g.F.Flash in
    let me = c.args.self.now in
    let G = geometry me.layout in
    ap length (c.read_logical.ensures.reads.same tells) ∙ (me.whole tells ∙ sym (same_product _ _ _ _ c.read_logical.ensures.reads.blocks c.read_logical.ensures.reads.block_size))

pub returns-in-Err-clause-same : goal.returns-in-Err-clause-same
returns-in-Err-clause-same g c tells =
    let F = g.F.Flash in
    let me = c.args.self.now in
    let G = geometry me.layout in
    ap (logical G) (c.read_logical.ensures.reads.same tells)

pub returns-in-Err-clause-time : goal.returns-in-Err-clause-time
returns-in-Err-clause-time g c =
    let F = g.F.Flash in
    let me = c.args.self.now in
    let G = geometry me.layout in
    view_elapses F G me.inner c.read_logical.new.inner (λ (y : List ℕ). y ≡ F.contents me.inner) (λ (y : List ℕ). y ≡ logical G (F.contents c.read_logical.new.inner)) c.read_logical.ensures.reads.left (λ tells y is. ap (logical G) (is ∙ sym (c.read_logical.ensures.reads.same tells)))

pub returns-in-Err-clause-halt : goal.returns-in-Err-clause-halt
returns-in-Err-clause-halt g c =
    let F = g.F.Flash in
    let me = c.args.self.now in
    let G = geometry me.layout in
    (λ h. ⊎_elim (λ w. inl w) (λ i. inr (c.read_logical.ensures.reads.halt.0 i)) h, λ h. ⊎_elim (λ w. inl w) (λ i. inr (c.read_logical.ensures.reads.halt.1 i)) h)

pub returns-in-Err-clause-answers : goal.returns-in-Err-clause-answers
returns-in-Err-clause-answers g c =
    let F = g.F.Flash in
    let me = c.args.self.now in
    let G = geometry me.layout in
    record {
      geometry = refl;
      blocks = c.read_logical.ensures.reads.blocks;
      block_size = c.read_logical.ensures.reads.block_size;
      ok = λ is. absurd (false≢true is);
      err = λ is. search rules;
      cause = λ is. inr (c.read_logical.ensures.cause.failed (search rules));
      uses = inr (omega (arith, c.read_logical.ensures.cause.later));
      later = c.read_logical.ensures.cause.later;
      worn = λ is. absurd (true≢false (sym is ∙ c.if-self.false));
    }

pub returns-in-Err-clause-reads : goal.returns-in-Err-clause-reads
returns-in-Err-clause-reads g c =
    let F = g.F.Flash in
    let me = c.args.self.now in
    let G = geometry me.layout in
    c.read_logical.ensures.reads

pub invariant_of-self-in-Err-clause-stands : goal.invariant_of-self-in-Err-clause-stands
invariant_of-self-in-Err-clause-stands g c tells not block lt =
    let F = g.F.Flash in
    let me = c.args.self.now in
    let G = geometry me.layout in
    me.stands tells not block lt ∙ ap (λ (y : List ℕ). place_of G y block) (sym (c.read_logical.ensures.reads.same tells))

pub invariant_of-self-in-Err-clause-next_is : goal.invariant_of-self-in-Err-clause-next_is
invariant_of-self-in-Err-clause-next_is g c tells not =
    let F = g.F.Flash in
    let me = c.args.self.now in
    let G = geometry me.layout in
    subst (λ (y : List ℕ). AreNext G y me.next.spare me.next.slot) (sym (c.read_logical.ensures.reads.same tells)) (me.next_is tells not)

pub invariant_of-self-in-Err-clause-whole : goal.invariant_of-self-in-Err-clause-whole
invariant_of-self-in-Err-clause-whole g c tells =
    let F = g.F.Flash in
    let me = c.args.self.now in
    let G = geometry me.layout in
    ap length (c.read_logical.ensures.reads.same tells) ∙ (me.whole tells ∙ sym (same_product _ _ _ _ c.read_logical.ensures.reads.blocks c.read_logical.ensures.reads.block_size))
