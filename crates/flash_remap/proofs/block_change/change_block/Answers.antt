use Rattle.std.proofs.Common.{◌≡◌, ◌⊎◌, inr, ⊎_elim, ◌+◌, ◌*◌, ◌<◌, true, false, length, ℕ, List, refl, sym, ◌∙◌, subst, arith}
use Rattle.std.specs.Prelude.{is_ok}
use Rattle.flash_dev.specs.Changes.{Changes}
use Rattle.flash_remap.specs.Added.{AddsFor}
use Rattle.flash_remap.specs.Change.{IsDoneBy, IsTornBy, begins_at, changed_len}
use Rattle.flash_remap.specs.Layout.{blocks_in, slots_in}
use Rattle.flash_remap.specs.Logical.{logical}
use Rattle.flash_remap.specs.Replaced.{Replaces}
use Rattle.flash_remap.specs.Shape.{geometry}
use Rattle.flash_remap.proofs.AddedLemmas.{adds_joined, adds_none}
use Rattle.flash_remap.proofs.BeneathLemmas.{beneath, beneath_changes, beneath_seen}
use Rattle.flash_remap.proofs.ChangeLemmas.{adds_kept, blank_kept, changes_torn, direct, in_block, next_kept, place_kept, replaced_done, replaced_torn, spare_kept, torn_none}
use Rattle.flash_remap.proofs.CountLemmas.{counted_in_all, tried_all, uses_at_most}
use Rattle.flash_remap.proofs.FillLemmas.{same_product}
use Rattle.flash_remap.proofs.LeavingLemmas.{err_is, err_value, left_joined, left_more, left_none, ok_is_no_err, ok_value}
use Rattle.flash_remap.proofs.ViewLemmas.{view_elapses}
use Rattle.flash_remap.proofs.block_change.change_block.Goals as goal

pub apply-requires-clause-blank : goal.apply-requires-clause-blank
apply-requires-clause-blank g c = c.requires.finds

pub returns-then-is_ok-clause-done : goal.returns-then-is_ok-clause-done
returns-then-is_ok-clause-done g c tells =
    let F = g.F.Flash in
    let G = geometry c.args.layout in
    let z = c.args.layout.block_size in
    let ch = c.args.change in
    let at = begins_at ch in
    let n = changed_len z ch in
    let b = c.args.block in
    let from = c.args.from in
    let x = F.contents c.args.inner.now in
    let mid = F.contents c.apply.new.inner in
    let inside : from < c.args.layout.logical + c.args.layout.spares = omega (arith, c.requires.from, c.requires.spare) in
    let fits = in_block z ch c.requires.inside in
    let is : is_ok c.apply.result ≡ true = sym c.is_ok.ensures.value ∙ c.if-is_ok.true in
    let done = λ (tells : F.tells). ok_value c.apply.result is (c.apply.ensures.done tells) in
    let torn = λ (tells : F.tells). changes_torn (from * z + at) n ch x mid c.requires.bytes (g.met.F.Flash.are_bytes tells c.args.inner.now) (done tells) in
    direct G x b from at n c.requires.block (c.requires.stands tells) inside fits (IsDoneBy ch) mid (done tells)

pub returns-then-is_ok-clause-torn : goal.returns-then-is_ok-clause-torn
returns-then-is_ok-clause-torn g c tells =
    let F = g.F.Flash in
    let G = geometry c.args.layout in
    let z = c.args.layout.block_size in
    let ch = c.args.change in
    let at = begins_at ch in
    let n = changed_len z ch in
    let b = c.args.block in
    let from = c.args.from in
    let x = F.contents c.args.inner.now in
    let mid = F.contents c.apply.new.inner in
    let inside : from < c.args.layout.logical + c.args.layout.spares = omega (arith, c.requires.from, c.requires.spare) in
    let fits = in_block z ch c.requires.inside in
    let is : is_ok c.apply.result ≡ true = sym c.is_ok.ensures.value ∙ c.if-is_ok.true in
    let done = λ (tells : F.tells). ok_value c.apply.result is (c.apply.ensures.done tells) in
    let torn = λ (tells : F.tells). changes_torn (from * z + at) n ch x mid c.requires.bytes (g.met.F.Flash.are_bytes tells c.args.inner.now) (done tells) in
    direct G x b from at n c.requires.block (c.requires.stands tells) inside fits (IsTornBy ch) mid (torn tells)

pub returns-then-is_ok-clause-time : goal.returns-then-is_ok-clause-time
returns-then-is_ok-clause-time g c =
    let F = g.F.Flash in
    let G = geometry c.args.layout in
    let z = c.args.layout.block_size in
    let ch = c.args.change in
    let at = begins_at ch in
    let n = changed_len z ch in
    let b = c.args.block in
    let from = c.args.from in
    let x = F.contents c.args.inner.now in
    let mid = F.contents c.apply.new.inner in
    let inside : from < c.args.layout.logical + c.args.layout.spares = omega (arith, c.requires.from, c.requires.spare) in
    let fits = in_block z ch c.requires.inside in
    let is : is_ok c.apply.result ≡ true = sym c.is_ok.ensures.value ∙ c.if-is_ok.true in
    let done = λ (tells : F.tells). ok_value c.apply.result is (c.apply.ensures.done tells) in
    let torn = λ (tells : F.tells). changes_torn (from * z + at) n ch x mid c.requires.bytes (g.met.F.Flash.are_bytes tells c.args.inner.now) (done tells) in
    let P = λ (y : List ℕ). Changes (b * z + at) n (IsTornBy ch) (logical G x) (logical G y) in
    let start = left_none F c.args.inner.now P (g.met.F.Flash.only_now c.args.inner.now)
    (λ tells. direct G x b from at n c.requires.block (c.requires.stands tells) inside fits (IsTornBy ch) x (torn_none z ch x from c.requires.bytes (g.met.F.Flash.are_bytes tells c.args.inner.now) (c.requires.finds tells))) in
    let first = left_more F c.args.inner.now c.args.inner.now c.apply.new.inner P (λ y. Changes (from * z + at) n (IsTornBy ch) x y ⊎ (y ≡ mid)) start c.apply.ensures.time
    (λ tells y. ⊎_elim (λ t. direct G x b from at n c.requires.block (c.requires.stands tells) inside fits (IsTornBy ch) y (t)) (λ e. subst P (sym e) (direct G x b from at n c.requires.block (c.requires.stands tells) inside fits (IsTornBy ch) mid (torn tells)))) in
    view_elapses F G c.args.inner.now c.apply.new.inner P (Changes (b * z + at) n (IsTornBy ch) (logical G x)) first (λ tells y p. p)

pub returns-then-is_ok-clause-counts : goal.returns-then-is_ok-clause-counts
returns-then-is_ok-clause-counts g c tells moments goes time left le t =
    let F = g.F.Flash in
    let G = geometry c.args.layout in
    let z = c.args.layout.block_size in
    let ch = c.args.change in
    let at = begins_at ch in
    let n = changed_len z ch in
    let b = c.args.block in
    let from = c.args.from in
    let x = F.contents c.args.inner.now in
    let mid = F.contents c.apply.new.inner in
    let inside : from < c.args.layout.logical + c.args.layout.spares = omega (arith, c.requires.from, c.requires.spare) in
    let fits = in_block z ch c.requires.inside in
    let is : is_ok c.apply.result ≡ true = sym c.is_ok.ensures.value ∙ c.if-is_ok.true in
    let done = λ (tells : F.tells). ok_value c.apply.result is (c.apply.ensures.done tells) in
    let torn = λ (tells : F.tells). changes_torn (from * z + at) n ch x mid c.requires.bytes (g.met.F.Flash.are_bytes tells c.args.inner.now) (done tells) in
    let whole : length x ≡ blocks_in G * z = c.requires.whole tells ∙ same_product _ _ _ _ c.requires.blocks c.requires.block_size in
    record {
      tells = tells;
      beneath = beneath G x left b from at n (IsTornBy ch) c.requires.block (c.requires.stands tells) inside fits whole t;
      since = c.apply.ensures.counts moments goes time (beneath G x left b from at n (IsTornBy ch) c.requires.block (c.requires.stands tells) inside fits whole t) le (beneath_changes G x left b from at n (IsTornBy ch) c.requires.block (c.requires.stands tells) inside fits whole t);
      is = beneath_seen G x left b from at n (IsTornBy ch) c.requires.block (c.requires.stands tells) inside fits whole t;
    }

pub returns-then-is_ok-clause-others : goal.returns-then-is_ok-clause-others
returns-then-is_ok-clause-others g c tells other not =
    let F = g.F.Flash in
    let G = geometry c.args.layout in
    let z = c.args.layout.block_size in
    let ch = c.args.change in
    let at = begins_at ch in
    let n = changed_len z ch in
    let b = c.args.block in
    let from = c.args.from in
    let x = F.contents c.args.inner.now in
    let mid = F.contents c.apply.new.inner in
    let inside : from < c.args.layout.logical + c.args.layout.spares = omega (arith, c.requires.from, c.requires.spare) in
    let fits = in_block z ch c.requires.inside in
    let is : is_ok c.apply.result ≡ true = sym c.is_ok.ensures.value ∙ c.if-is_ok.true in
    let done = λ (tells : F.tells). ok_value c.apply.result is (c.apply.ensures.done tells) in
    let torn = λ (tells : F.tells). changes_torn (from * z + at) n ch x mid c.requires.bytes (g.met.F.Flash.are_bytes tells c.args.inner.now) (done tells) in
    place_kept G x b from at n c.requires.block (c.requires.stands tells) inside fits (IsTornBy ch) mid (torn tells) other

pub returns-then-is_ok-clause-stands : goal.returns-then-is_ok-clause-stands
returns-then-is_ok-clause-stands g c tells =
    let F = g.F.Flash in
    let G = geometry c.args.layout in
    let z = c.args.layout.block_size in
    let ch = c.args.change in
    let at = begins_at ch in
    let n = changed_len z ch in
    let b = c.args.block in
    let from = c.args.from in
    let x = F.contents c.args.inner.now in
    let mid = F.contents c.apply.new.inner in
    let inside : from < c.args.layout.logical + c.args.layout.spares = omega (arith, c.requires.from, c.requires.spare) in
    let fits = in_block z ch c.requires.inside in
    let is : is_ok c.apply.result ≡ true = sym c.is_ok.ensures.value ∙ c.if-is_ok.true in
    let done = λ (tells : F.tells). ok_value c.apply.result is (c.apply.ensures.done tells) in
    let torn = λ (tells : F.tells). changes_torn (from * z + at) n ch x mid c.requires.bytes (g.met.F.Flash.are_bytes tells c.args.inner.now) (done tells) in
    place_kept G x b from at n c.requires.block (c.requires.stands tells) inside fits (IsTornBy ch) mid (torn tells) b ∙ c.requires.stands tells

pub returns-then-is_ok-clause-whole : goal.returns-then-is_ok-clause-whole
returns-then-is_ok-clause-whole g c tells =
    let F = g.F.Flash in
    let G = geometry c.args.layout in
    let z = c.args.layout.block_size in
    let ch = c.args.change in
    let at = begins_at ch in
    let n = changed_len z ch in
    let b = c.args.block in
    let from = c.args.from in
    let x = F.contents c.args.inner.now in
    let mid = F.contents c.apply.new.inner in
    let inside : from < c.args.layout.logical + c.args.layout.spares = omega (arith, c.requires.from, c.requires.spare) in
    let fits = in_block z ch c.requires.inside in
    let is : is_ok c.apply.result ≡ true = sym c.is_ok.ensures.value ∙ c.if-is_ok.true in
    let done = λ (tells : F.tells). ok_value c.apply.result is (c.apply.ensures.done tells) in
    let torn = λ (tells : F.tells). changes_torn (from * z + at) n ch x mid c.requires.bytes (g.met.F.Flash.are_bytes tells c.args.inner.now) (done tells) in
    (torn tells).size ∙ (c.requires.whole tells ∙ sym (same_product _ _ _ _ c.apply.ensures.blocks c.apply.ensures.block_size))

pub returns-then-is_ok-clause-uses : goal.returns-then-is_ok-clause-uses
returns-then-is_ok-clause-uses g c =
    inr (omega (arith, c.apply.ensures.cause.later))

pub returns-then-is_ok-clause-halt : goal.returns-then-is_ok-clause-halt
returns-then-is_ok-clause-halt g c halted =
    let is : is_ok c.apply.result ≡ true = sym c.is_ok.ensures.value ∙ c.if-is_ok.true in
    absurd (ok_is_no_err c.apply.result is (c.apply.ensures.halt halted).0)

pub returns-then-is_ok-clause-next : goal.returns-then-is_ok-clause-next
returns-then-is_ok-clause-next g c tells =
    let F = g.F.Flash in
    let G = geometry c.args.layout in
    let z = c.args.layout.block_size in
    let ch = c.args.change in
    let at = begins_at ch in
    let n = changed_len z ch in
    let b = c.args.block in
    let from = c.args.from in
    let x = F.contents c.args.inner.now in
    let mid = F.contents c.apply.new.inner in
    let inside : from < c.args.layout.logical + c.args.layout.spares = omega (arith, c.requires.from, c.requires.spare) in
    let fits = in_block z ch c.requires.inside in
    let is : is_ok c.apply.result ≡ true = sym c.is_ok.ensures.value ∙ c.if-is_ok.true in
    next_kept G x b from at n c.requires.block (c.requires.stands tells) inside fits (IsDoneBy ch) mid (ok_value c.apply.result is (c.apply.ensures.done tells)) c.args.next.now.spare c.args.next.now.slot (c.requires.next tells)

pub returns-in-Ok-clause-next : goal.returns-in-Ok-clause-next
returns-in-Ok-clause-next g c tells = c.in-Ok.ensures.next tells

pub replace-requires-clause-whole : goal.replace-requires-clause-whole
replace-requires-clause-whole g c tells =
    let F = g.F.Flash in
    let G = geometry c.args.layout in
    let z = c.args.layout.block_size in
    let ch = c.args.change in
    let at = begins_at ch in
    let n = changed_len z ch in
    let b = c.args.block in
    let from = c.args.from in
    let x = F.contents c.args.inner.now in
    let mid = F.contents c.apply.new.inner in
    let inside : from < c.args.layout.logical + c.args.layout.spares = omega (arith, c.requires.from, c.requires.spare) in
    let fits = in_block z ch c.requires.inside in
    let is : is_ok c.apply.result ≡ false = sym c.is_ok.ensures.value ∙ c.if-is_ok.false in
    let torn = λ (tells : F.tells). err_value c.apply.result is (c.apply.ensures.torn tells) in
    (torn tells).size ∙ (c.requires.whole tells ∙ sym (same_product _ _ _ _ c.apply.ensures.blocks c.apply.ensures.block_size))

pub replace-requires-clause-blank : goal.replace-requires-clause-blank
replace-requires-clause-blank g c tells =
    let F = g.F.Flash in
    let G = geometry c.args.layout in
    let z = c.args.layout.block_size in
    let ch = c.args.change in
    let at = begins_at ch in
    let n = changed_len z ch in
    let b = c.args.block in
    let from = c.args.from in
    let x = F.contents c.args.inner.now in
    let mid = F.contents c.apply.new.inner in
    let inside : from < c.args.layout.logical + c.args.layout.spares = omega (arith, c.requires.from, c.requires.spare) in
    let fits = in_block z ch c.requires.inside in
    let is : is_ok c.apply.result ≡ false = sym c.is_ok.ensures.value ∙ c.if-is_ok.false in
    let torn = λ (tells : F.tells). err_value c.apply.result is (c.apply.ensures.torn tells) in
    blank_kept G x b from at n c.requires.block (c.requires.stands tells) inside fits (IsTornBy ch) mid (torn tells) c.args.next.now.slot (c.requires.blank tells)

pub replace-requires-clause-below : goal.replace-requires-clause-below
replace-requires-clause-below g c tells =
    let F = g.F.Flash in
    let G = geometry c.args.layout in
    let z = c.args.layout.block_size in
    let ch = c.args.change in
    let at = begins_at ch in
    let n = changed_len z ch in
    let b = c.args.block in
    let from = c.args.from in
    let x = F.contents c.args.inner.now in
    let mid = F.contents c.apply.new.inner in
    let inside : from < c.args.layout.logical + c.args.layout.spares = omega (arith, c.requires.from, c.requires.spare) in
    let fits = in_block z ch c.requires.inside in
    let is : is_ok c.apply.result ≡ false = sym c.is_ok.ensures.value ∙ c.if-is_ok.false in
    let torn = λ (tells : F.tells). err_value c.apply.result is (c.apply.ensures.torn tells) in
    let kept = spare_kept G x b from at n c.requires.block (c.requires.stands tells) inside fits (IsTornBy ch) mid (torn tells) in
    omega (arith, kept, c.requires.below tells)

pub returns-in-Ok-clause-done : goal.returns-in-Ok-clause-done
returns-in-Ok-clause-done g c tells =
    let F = g.F.Flash in
    let G = geometry c.args.layout in
    let z = c.args.layout.block_size in
    let ch = c.args.change in
    let at = begins_at ch in
    let n = changed_len z ch in
    let b = c.args.block in
    let from = c.args.from in
    let x = F.contents c.args.inner.now in
    let mid = F.contents c.apply.new.inner in
    let inside : from < c.args.layout.logical + c.args.layout.spares = omega (arith, c.requires.from, c.requires.spare) in
    let fits = in_block z ch c.requires.inside in
    let is : is_ok c.apply.result ≡ false = sym c.is_ok.ensures.value ∙ c.if-is_ok.false in
    let torn = λ (tells : F.tells). err_value c.apply.result is (c.apply.ensures.torn tells) in
    let y = F.contents c.replace.new.inner in
    replaced_done G x mid y b from c.args.next.now.spare c.replace.new.next.spare ch c.requires.block (c.requires.stands tells) c.requires.from c.requires.spare c.requires.inside (c.requires.below tells) (torn tells) (c.replace.ensures.held tells) (c.in-Ok.ensures.replaced tells)

pub returns-in-Ok-clause-stands : goal.returns-in-Ok-clause-stands
returns-in-Ok-clause-stands g c tells =
    c.in-Ok.ensures.stands tells

pub returns-in-Ok-clause-halt : goal.returns-in-Ok-clause-halt
returns-in-Ok-clause-halt g c halted =
    c.in-Ok.ensures.halt ((c.apply.ensures.halt halted).1)

pub returns-in-Ok-clause-torn : goal.returns-in-Ok-clause-torn
returns-in-Ok-clause-torn g c tells =
    let F = g.F.Flash in
    let G = geometry c.args.layout in
    let z = c.args.layout.block_size in
    let ch = c.args.change in
    let at = begins_at ch in
    let n = changed_len z ch in
    let b = c.args.block in
    let from = c.args.from in
    let x = F.contents c.args.inner.now in
    let mid = F.contents c.apply.new.inner in
    let inside : from < c.args.layout.logical + c.args.layout.spares = omega (arith, c.requires.from, c.requires.spare) in
    let fits = in_block z ch c.requires.inside in
    let is : is_ok c.apply.result ≡ false = sym c.is_ok.ensures.value ∙ c.if-is_ok.false in
    let torn = λ (tells : F.tells). err_value c.apply.result is (c.apply.ensures.torn tells) in
    let y = F.contents c.replace.new.inner in
    replaced_torn G x mid y b from c.args.next.now.spare c.replace.new.next.spare ch c.requires.block (c.requires.stands tells) c.requires.from c.requires.spare c.requires.inside (c.requires.below tells) (torn tells) (c.replace.ensures.held tells) c.requires.bytes (g.met.F.Flash.are_bytes tells c.args.inner.now)

pub returns-in-Ok-clause-time : goal.returns-in-Ok-clause-time
returns-in-Ok-clause-time g c =
    let F = g.F.Flash in
    let G = geometry c.args.layout in
    let z = c.args.layout.block_size in
    let ch = c.args.change in
    let at = begins_at ch in
    let n = changed_len z ch in
    let b = c.args.block in
    let from = c.args.from in
    let x = F.contents c.args.inner.now in
    let mid = F.contents c.apply.new.inner in
    let inside : from < c.args.layout.logical + c.args.layout.spares = omega (arith, c.requires.from, c.requires.spare) in
    let fits = in_block z ch c.requires.inside in
    let is : is_ok c.apply.result ≡ false = sym c.is_ok.ensures.value ∙ c.if-is_ok.false in
    let torn = λ (tells : F.tells). err_value c.apply.result is (c.apply.ensures.torn tells) in
    let y = F.contents c.replace.new.inner in
    let P = λ (y : List ℕ). Changes (b * z + at) n (IsTornBy ch) (logical G x) (logical G y) in
    let start = left_none F c.args.inner.now P (g.met.F.Flash.only_now c.args.inner.now)
    (λ tells. direct G x b from at n c.requires.block (c.requires.stands tells) inside fits (IsTornBy ch) x (torn_none z ch x from c.requires.bytes (g.met.F.Flash.are_bytes tells c.args.inner.now) (c.requires.finds tells))) in
    let first = left_more F c.args.inner.now c.args.inner.now c.apply.new.inner P (λ y. Changes (from * z + at) n (IsTornBy ch) x y ⊎ (y ≡ mid)) start c.apply.ensures.time
    (λ tells y. ⊎_elim (λ t. direct G x b from at n c.requires.block (c.requires.stands tells) inside fits (IsTornBy ch) y (t)) (λ e. subst P (sym e) (direct G x b from at n c.requires.block (c.requires.stands tells) inside fits (IsTornBy ch) mid (torn tells)))) in
    let second = left_joined F c.args.inner.now c.apply.new.inner c.replace.new.inner P (Replaces G b from ch c.args.next.now.spare c.args.layout.spares mid) first c.replace.ensures.left
    (λ tells w r. replaced_torn G x mid w b from c.args.next.now.spare c.args.layout.spares ch c.requires.block (c.requires.stands tells) c.requires.from c.requires.spare c.requires.inside (c.requires.below tells) (torn tells) (r) c.requires.bytes (g.met.F.Flash.are_bytes tells c.args.inner.now)) in
    view_elapses F G c.args.inner.now c.replace.new.inner P (Changes (b * z + at) n (IsTornBy ch) (logical G x)) second (λ tells w p. p)

pub returns-in-Ok-clause-counts : goal.returns-in-Ok-clause-counts
returns-in-Ok-clause-counts g c tells moments goes time left le t =
    let F = g.F.Flash in
    let G = geometry c.args.layout in
    let z = c.args.layout.block_size in
    let ch = c.args.change in
    let at = begins_at ch in
    let n = changed_len z ch in
    let b = c.args.block in
    let from = c.args.from in
    let x = F.contents c.args.inner.now in
    let mid = F.contents c.apply.new.inner in
    let inside : from < c.args.layout.logical + c.args.layout.spares = omega (arith, c.requires.from, c.requires.spare) in
    let fits = in_block z ch c.requires.inside in
    let is : is_ok c.apply.result ≡ false = sym c.is_ok.ensures.value ∙ c.if-is_ok.false in
    let torn = λ (tells : F.tells). err_value c.apply.result is (c.apply.ensures.torn tells) in
    let whole : length x ≡ blocks_in G * z = c.requires.whole tells ∙ same_product _ _ _ _ c.requires.blocks c.requires.block_size in
    record {
      tells = tells;
      beneath = beneath G x left b from at n (IsTornBy ch) c.requires.block (c.requires.stands tells) inside fits whole t;
      since = c.replace.ensures.left.keeps time (beneath G x left b from at n (IsTornBy ch) c.requires.block (c.requires.stands tells) inside fits whole t) (omega (arith, le, c.apply.ensures.time.later)) (c.apply.ensures.counts moments goes time (beneath G x left b from at n (IsTornBy ch) c.requires.block (c.requires.stands tells) inside fits whole t) le (beneath_changes G x left b from at n (IsTornBy ch) c.requires.block (c.requires.stands tells) inside fits whole t));
      is = beneath_seen G x left b from at n (IsTornBy ch) c.requires.block (c.requires.stands tells) inside fits whole t;
    }

pub returns-in-Ok-clause-others : goal.returns-in-Ok-clause-others
returns-in-Ok-clause-others g c tells other not =
    let F = g.F.Flash in
    let G = geometry c.args.layout in
    let z = c.args.layout.block_size in
    let ch = c.args.change in
    let at = begins_at ch in
    let n = changed_len z ch in
    let b = c.args.block in
    let from = c.args.from in
    let x = F.contents c.args.inner.now in
    let mid = F.contents c.apply.new.inner in
    let inside : from < c.args.layout.logical + c.args.layout.spares = omega (arith, c.requires.from, c.requires.spare) in
    let fits = in_block z ch c.requires.inside in
    let is : is_ok c.apply.result ≡ false = sym c.is_ok.ensures.value ∙ c.if-is_ok.false in
    let torn = λ (tells : F.tells). err_value c.apply.result is (c.apply.ensures.torn tells) in
    (c.replace.ensures.held tells).others other not ∙ place_kept G x b from at n c.requires.block (c.requires.stands tells) inside fits (IsTornBy ch) mid (torn tells) other

pub returns-in-Ok-clause-whole : goal.returns-in-Ok-clause-whole
returns-in-Ok-clause-whole g c tells =
    let F = g.F.Flash in
    let G = geometry c.args.layout in
    let z = c.args.layout.block_size in
    let ch = c.args.change in
    let at = begins_at ch in
    let n = changed_len z ch in
    let b = c.args.block in
    let from = c.args.from in
    let x = F.contents c.args.inner.now in
    let mid = F.contents c.apply.new.inner in
    let inside : from < c.args.layout.logical + c.args.layout.spares = omega (arith, c.requires.from, c.requires.spare) in
    let fits = in_block z ch c.requires.inside in
    let is : is_ok c.apply.result ≡ false = sym c.is_ok.ensures.value ∙ c.if-is_ok.false in
    let torn = λ (tells : F.tells). err_value c.apply.result is (c.apply.ensures.torn tells) in
    (c.replace.ensures.held tells).size ∙ ((torn tells).size ∙ (c.requires.whole tells
    ∙ sym (same_product _ _ _ _ (c.replace.ensures.blocks ∙ c.apply.ensures.blocks) (c.replace.ensures.block_size ∙ c.apply.ensures.block_size))))

pub returns-in-Ok-clause-uses : goal.returns-in-Ok-clause-uses
returns-in-Ok-clause-uses g c =
    let is : is_ok c.apply.result ≡ false = sym c.is_ok.ensures.value ∙ c.if-is_ok.false in
    uses_at_most c.args.layout.spares (slots_in (geometry c.args.layout)) c.args.next.now.spare c.args.next.now.slot c.replace.new.next.spare c.replace.new.next.slot
    (g.F.Flash.faults c.args.inner.now) (g.F.Flash.faults c.apply.new.inner) (g.F.Flash.faults c.replace.new.inner) c.replace.ensures.spare c.replace.ensures.most_spare c.replace.ensures.slot
    c.replace.ensures.most_slot c.replace.ensures.slots (c.apply.ensures.cause.failed (err_is c.apply.result is)) c.replace.ensures.later c.replace.ensures.counted

pub returns-in-Err-clause-halt : goal.returns-in-Err-clause-halt
returns-in-Err-clause-halt g c halted =
    (refl, (c.replace.ensures.halt ((c.apply.ensures.halt halted).1)).1)

pub returns-in-Err-clause-rose : goal.returns-in-Err-clause-rose
returns-in-Err-clause-rose g c =
    let is : is_ok c.apply.result ≡ false = sym c.is_ok.ensures.value ∙ c.if-is_ok.false in
    omega (arith, c.apply.ensures.cause.failed (err_is c.apply.result is), c.replace.ensures.later)

pub returns-in-Err-clause-torn : goal.returns-in-Err-clause-torn
returns-in-Err-clause-torn g c tells =
    let F = g.F.Flash in
    let G = geometry c.args.layout in
    let z = c.args.layout.block_size in
    let ch = c.args.change in
    let at = begins_at ch in
    let n = changed_len z ch in
    let b = c.args.block in
    let from = c.args.from in
    let x = F.contents c.args.inner.now in
    let mid = F.contents c.apply.new.inner in
    let inside : from < c.args.layout.logical + c.args.layout.spares = omega (arith, c.requires.from, c.requires.spare) in
    let fits = in_block z ch c.requires.inside in
    let is : is_ok c.apply.result ≡ false = sym c.is_ok.ensures.value ∙ c.if-is_ok.false in
    let torn = λ (tells : F.tells). err_value c.apply.result is (c.apply.ensures.torn tells) in
    let y = F.contents c.replace.new.inner in
    replaced_torn G x mid y b from c.args.next.now.spare c.replace.new.next.spare ch c.requires.block (c.requires.stands tells) c.requires.from c.requires.spare c.requires.inside (c.requires.below tells) (torn tells) (c.replace.ensures.held tells) c.requires.bytes (g.met.F.Flash.are_bytes tells c.args.inner.now)

pub returns-in-Err-clause-time : goal.returns-in-Err-clause-time
returns-in-Err-clause-time g c =
    let F = g.F.Flash in
    let G = geometry c.args.layout in
    let z = c.args.layout.block_size in
    let ch = c.args.change in
    let at = begins_at ch in
    let n = changed_len z ch in
    let b = c.args.block in
    let from = c.args.from in
    let x = F.contents c.args.inner.now in
    let mid = F.contents c.apply.new.inner in
    let inside : from < c.args.layout.logical + c.args.layout.spares = omega (arith, c.requires.from, c.requires.spare) in
    let fits = in_block z ch c.requires.inside in
    let is : is_ok c.apply.result ≡ false = sym c.is_ok.ensures.value ∙ c.if-is_ok.false in
    let torn = λ (tells : F.tells). err_value c.apply.result is (c.apply.ensures.torn tells) in
    let y = F.contents c.replace.new.inner in
    let P = λ (y : List ℕ). Changes (b * z + at) n (IsTornBy ch) (logical G x) (logical G y) in
    let start = left_none F c.args.inner.now P (g.met.F.Flash.only_now c.args.inner.now)
    (λ tells. direct G x b from at n c.requires.block (c.requires.stands tells) inside fits (IsTornBy ch) x (torn_none z ch x from c.requires.bytes (g.met.F.Flash.are_bytes tells c.args.inner.now) (c.requires.finds tells))) in
    let first = left_more F c.args.inner.now c.args.inner.now c.apply.new.inner P (λ y. Changes (from * z + at) n (IsTornBy ch) x y ⊎ (y ≡ mid)) start c.apply.ensures.time
    (λ tells y. ⊎_elim (λ t. direct G x b from at n c.requires.block (c.requires.stands tells) inside fits (IsTornBy ch) y (t)) (λ e. subst P (sym e) (direct G x b from at n c.requires.block (c.requires.stands tells) inside fits (IsTornBy ch) mid (torn tells)))) in
    let second = left_joined F c.args.inner.now c.apply.new.inner c.replace.new.inner P (Replaces G b from ch c.args.next.now.spare c.args.layout.spares mid) first c.replace.ensures.left
    (λ tells w r. replaced_torn G x mid w b from c.args.next.now.spare c.args.layout.spares ch c.requires.block (c.requires.stands tells) c.requires.from c.requires.spare c.requires.inside (c.requires.below tells) (torn tells) (r) c.requires.bytes (g.met.F.Flash.are_bytes tells c.args.inner.now)) in
    view_elapses F G c.args.inner.now c.replace.new.inner P (Changes (b * z + at) n (IsTornBy ch) (logical G x)) second (λ tells w p. p)

pub returns-in-Err-clause-counts : goal.returns-in-Err-clause-counts
returns-in-Err-clause-counts g c tells moments goes time left le t =
    let F = g.F.Flash in
    let G = geometry c.args.layout in
    let z = c.args.layout.block_size in
    let ch = c.args.change in
    let at = begins_at ch in
    let n = changed_len z ch in
    let b = c.args.block in
    let from = c.args.from in
    let x = F.contents c.args.inner.now in
    let mid = F.contents c.apply.new.inner in
    let inside : from < c.args.layout.logical + c.args.layout.spares = omega (arith, c.requires.from, c.requires.spare) in
    let fits = in_block z ch c.requires.inside in
    let is : is_ok c.apply.result ≡ false = sym c.is_ok.ensures.value ∙ c.if-is_ok.false in
    let torn = λ (tells : F.tells). err_value c.apply.result is (c.apply.ensures.torn tells) in
    let whole : length x ≡ blocks_in G * z = c.requires.whole tells ∙ same_product _ _ _ _ c.requires.blocks c.requires.block_size in
    record {
      tells = tells;
      beneath = beneath G x left b from at n (IsTornBy ch) c.requires.block (c.requires.stands tells) inside fits whole t;
      since = c.replace.ensures.left.keeps time (beneath G x left b from at n (IsTornBy ch) c.requires.block (c.requires.stands tells) inside fits whole t) (omega (arith, le, c.apply.ensures.time.later)) (c.apply.ensures.counts moments goes time (beneath G x left b from at n (IsTornBy ch) c.requires.block (c.requires.stands tells) inside fits whole t) le (beneath_changes G x left b from at n (IsTornBy ch) c.requires.block (c.requires.stands tells) inside fits whole t));
      is = beneath_seen G x left b from at n (IsTornBy ch) c.requires.block (c.requires.stands tells) inside fits whole t;
    }

pub returns-in-Err-clause-others : goal.returns-in-Err-clause-others
returns-in-Err-clause-others g c tells other not =
    let F = g.F.Flash in
    let G = geometry c.args.layout in
    let z = c.args.layout.block_size in
    let ch = c.args.change in
    let at = begins_at ch in
    let n = changed_len z ch in
    let b = c.args.block in
    let from = c.args.from in
    let x = F.contents c.args.inner.now in
    let mid = F.contents c.apply.new.inner in
    let inside : from < c.args.layout.logical + c.args.layout.spares = omega (arith, c.requires.from, c.requires.spare) in
    let fits = in_block z ch c.requires.inside in
    let is : is_ok c.apply.result ≡ false = sym c.is_ok.ensures.value ∙ c.if-is_ok.false in
    let torn = λ (tells : F.tells). err_value c.apply.result is (c.apply.ensures.torn tells) in
    (c.replace.ensures.held tells).others other not ∙ place_kept G x b from at n c.requires.block (c.requires.stands tells) inside fits (IsTornBy ch) mid (torn tells) other

pub returns-in-Err-clause-whole : goal.returns-in-Err-clause-whole
returns-in-Err-clause-whole g c tells =
    let F = g.F.Flash in
    let G = geometry c.args.layout in
    let z = c.args.layout.block_size in
    let ch = c.args.change in
    let at = begins_at ch in
    let n = changed_len z ch in
    let b = c.args.block in
    let from = c.args.from in
    let x = F.contents c.args.inner.now in
    let mid = F.contents c.apply.new.inner in
    let inside : from < c.args.layout.logical + c.args.layout.spares = omega (arith, c.requires.from, c.requires.spare) in
    let fits = in_block z ch c.requires.inside in
    let is : is_ok c.apply.result ≡ false = sym c.is_ok.ensures.value ∙ c.if-is_ok.false in
    let torn = λ (tells : F.tells). err_value c.apply.result is (c.apply.ensures.torn tells) in
    (c.replace.ensures.held tells).size ∙ ((torn tells).size ∙ (c.requires.whole tells
    ∙ sym (same_product _ _ _ _ (c.replace.ensures.blocks ∙ c.apply.ensures.blocks) (c.replace.ensures.block_size ∙ c.apply.ensures.block_size))))

pub returns-in-Err-clause-uses : goal.returns-in-Err-clause-uses
returns-in-Err-clause-uses g c =
    let is : is_ok c.apply.result ≡ false = sym c.is_ok.ensures.value ∙ c.if-is_ok.false in
    uses_at_most c.args.layout.spares (slots_in (geometry c.args.layout)) c.args.next.now.spare c.args.next.now.slot c.replace.new.next.spare c.replace.new.next.slot
    (g.F.Flash.faults c.args.inner.now) (g.F.Flash.faults c.apply.new.inner) (g.F.Flash.faults c.replace.new.inner) c.replace.ensures.spare c.replace.ensures.most_spare c.replace.ensures.slot
    c.replace.ensures.most_slot c.replace.ensures.slots (c.apply.ensures.cause.failed (err_is c.apply.result is)) c.replace.ensures.later c.replace.ensures.counted

pub returns-in-Ok-clause-entry : goal.returns-in-Ok-clause-entry
returns-in-Ok-clause-entry g c = c.in-Ok.ensures.entry

pub returns-then-is_ok-clause-adds : goal.returns-then-is_ok-clause-adds
returns-then-is_ok-clause-adds g c tells =
    let F = g.F.Flash in
    let G = geometry c.args.layout in
    let z = c.args.layout.block_size in
    let ch = c.args.change in
    let at = begins_at ch in
    let n = changed_len z ch in
    let b = c.args.block in
    let from = c.args.from in
    let x = F.contents c.args.inner.now in
    let mid = F.contents c.apply.new.inner in
    let inside : from < c.args.layout.logical + c.args.layout.spares = omega (arith, c.requires.from, c.requires.spare) in
    let fits = in_block z ch c.requires.inside in
    let is : is_ok c.apply.result ≡ true = sym c.is_ok.ensures.value ∙ c.if-is_ok.true in
    let done = λ (tells : F.tells). ok_value c.apply.result is (c.apply.ensures.done tells) in
    let torn = λ (tells : F.tells). changes_torn (from * z + at) n ch x mid c.requires.bytes (g.met.F.Flash.are_bytes tells c.args.inner.now) (done tells) in
    let adds = λ (tells : F.tells) (y : List ℕ) (t : Changes (from * z + at) n (IsTornBy ch) x y). adds_kept G x b from at n c.requires.block (c.requires.stands tells) inside fits (IsTornBy ch) y t in
    adds tells mid (torn tells)

pub returns-then-is_ok-clause-adds_left : goal.returns-then-is_ok-clause-adds_left
returns-then-is_ok-clause-adds_left g c =
    let F = g.F.Flash in
    let G = geometry c.args.layout in
    let z = c.args.layout.block_size in
    let ch = c.args.change in
    let at = begins_at ch in
    let n = changed_len z ch in
    let b = c.args.block in
    let from = c.args.from in
    let x = F.contents c.args.inner.now in
    let mid = F.contents c.apply.new.inner in
    let inside : from < c.args.layout.logical + c.args.layout.spares = omega (arith, c.requires.from, c.requires.spare) in
    let fits = in_block z ch c.requires.inside in
    let is : is_ok c.apply.result ≡ true = sym c.is_ok.ensures.value ∙ c.if-is_ok.true in
    let done = λ (tells : F.tells). ok_value c.apply.result is (c.apply.ensures.done tells) in
    let torn = λ (tells : F.tells). changes_torn (from * z + at) n ch x mid c.requires.bytes (g.met.F.Flash.are_bytes tells c.args.inner.now) (done tells) in
    let adds = λ (tells : F.tells) (y : List ℕ) (t : Changes (from * z + at) n (IsTornBy ch) x y). adds_kept G x b from at n c.requires.block (c.requires.stands tells) inside fits (IsTornBy ch) y t in
    let P = AddsFor G b x in
    let start = left_none F c.args.inner.now P (g.met.F.Flash.only_now c.args.inner.now) (λ tells. adds_none G b x x (λ slot lt. refl)) in
    let first = left_more F c.args.inner.now c.args.inner.now c.apply.new.inner P (λ y. Changes (from * z + at) n (IsTornBy ch) x y ⊎ (y ≡ mid)) start c.apply.ensures.time
    (λ tells y. ⊎_elim (λ t. adds tells y t) (λ e. subst P (sym e) (adds tells mid (torn tells)))) in
    first

pub returns-then-is_ok-clause-counted : goal.returns-then-is_ok-clause-counted
returns-then-is_ok-clause-counted g c =
    inr (omega (arith, c.apply.ensures.cause.later))

pub returns-in-Ok-clause-adds : goal.returns-in-Ok-clause-adds
returns-in-Ok-clause-adds g c tells =
    let F = g.F.Flash in
    let G = geometry c.args.layout in
    let z = c.args.layout.block_size in
    let ch = c.args.change in
    let at = begins_at ch in
    let n = changed_len z ch in
    let b = c.args.block in
    let from = c.args.from in
    let x = F.contents c.args.inner.now in
    let mid = F.contents c.apply.new.inner in
    let inside : from < c.args.layout.logical + c.args.layout.spares = omega (arith, c.requires.from, c.requires.spare) in
    let fits = in_block z ch c.requires.inside in
    let is : is_ok c.apply.result ≡ false = sym c.is_ok.ensures.value ∙ c.if-is_ok.false in
    let torn = λ (tells : F.tells). err_value c.apply.result is (c.apply.ensures.torn tells) in
    let adds = λ (tells : F.tells) (y : List ℕ) (t : Changes (from * z + at) n (IsTornBy ch) x y). adds_kept G x b from at n c.requires.block (c.requires.stands tells) inside fits (IsTornBy ch) y t in
    adds_joined G b x mid (F.contents c.replace.new.inner) (adds tells mid (torn tells)) (c.replace.ensures.held tells).adds

pub returns-in-Ok-clause-adds_left : goal.returns-in-Ok-clause-adds_left
returns-in-Ok-clause-adds_left g c =
    let F = g.F.Flash in
    let G = geometry c.args.layout in
    let z = c.args.layout.block_size in
    let ch = c.args.change in
    let at = begins_at ch in
    let n = changed_len z ch in
    let b = c.args.block in
    let from = c.args.from in
    let x = F.contents c.args.inner.now in
    let mid = F.contents c.apply.new.inner in
    let inside : from < c.args.layout.logical + c.args.layout.spares = omega (arith, c.requires.from, c.requires.spare) in
    let fits = in_block z ch c.requires.inside in
    let is : is_ok c.apply.result ≡ false = sym c.is_ok.ensures.value ∙ c.if-is_ok.false in
    let torn = λ (tells : F.tells). err_value c.apply.result is (c.apply.ensures.torn tells) in
    let adds = λ (tells : F.tells) (y : List ℕ) (t : Changes (from * z + at) n (IsTornBy ch) x y). adds_kept G x b from at n c.requires.block (c.requires.stands tells) inside fits (IsTornBy ch) y t in
    let P = AddsFor G b x in
    let start = left_none F c.args.inner.now P (g.met.F.Flash.only_now c.args.inner.now) (λ tells. adds_none G b x x (λ slot lt. refl)) in
    let first = left_more F c.args.inner.now c.args.inner.now c.apply.new.inner P (λ y. Changes (from * z + at) n (IsTornBy ch) x y ⊎ (y ≡ mid)) start c.apply.ensures.time
    (λ tells y. ⊎_elim (λ t. adds tells y t) (λ e. subst P (sym e) (adds tells mid (torn tells)))) in
    left_joined F c.args.inner.now c.apply.new.inner c.replace.new.inner P (Replaces G b from ch c.args.next.now.spare c.args.layout.spares mid) first c.replace.ensures.left
    (λ tells w r. adds_joined G b x mid w (adds tells mid (torn tells)) r.adds)

pub returns-in-Ok-clause-counted : goal.returns-in-Ok-clause-counted
returns-in-Ok-clause-counted g c =
    let is : is_ok c.apply.result ≡ false = sym c.is_ok.ensures.value ∙ c.if-is_ok.false in
    counted_in_all (g.F.Flash.faults c.args.inner.now) (g.F.Flash.faults c.apply.new.inner) (g.F.Flash.faults c.replace.new.inner) c.args.next.now.spare c.replace.new.next.spare
    (c.apply.ensures.cause.failed (err_is c.apply.result is)) c.replace.ensures.later c.replace.ensures.counted

pub returns-in-Err-clause-adds : goal.returns-in-Err-clause-adds
returns-in-Err-clause-adds g c tells =
    let F = g.F.Flash in
    let G = geometry c.args.layout in
    let z = c.args.layout.block_size in
    let ch = c.args.change in
    let at = begins_at ch in
    let n = changed_len z ch in
    let b = c.args.block in
    let from = c.args.from in
    let x = F.contents c.args.inner.now in
    let mid = F.contents c.apply.new.inner in
    let inside : from < c.args.layout.logical + c.args.layout.spares = omega (arith, c.requires.from, c.requires.spare) in
    let fits = in_block z ch c.requires.inside in
    let is : is_ok c.apply.result ≡ false = sym c.is_ok.ensures.value ∙ c.if-is_ok.false in
    let torn = λ (tells : F.tells). err_value c.apply.result is (c.apply.ensures.torn tells) in
    let adds = λ (tells : F.tells) (y : List ℕ) (t : Changes (from * z + at) n (IsTornBy ch) x y). adds_kept G x b from at n c.requires.block (c.requires.stands tells) inside fits (IsTornBy ch) y t in
    adds_joined G b x mid (F.contents c.replace.new.inner) (adds tells mid (torn tells)) (c.replace.ensures.held tells).adds

pub returns-in-Err-clause-adds_left : goal.returns-in-Err-clause-adds_left
returns-in-Err-clause-adds_left g c =
    let F = g.F.Flash in
    let G = geometry c.args.layout in
    let z = c.args.layout.block_size in
    let ch = c.args.change in
    let at = begins_at ch in
    let n = changed_len z ch in
    let b = c.args.block in
    let from = c.args.from in
    let x = F.contents c.args.inner.now in
    let mid = F.contents c.apply.new.inner in
    let inside : from < c.args.layout.logical + c.args.layout.spares = omega (arith, c.requires.from, c.requires.spare) in
    let fits = in_block z ch c.requires.inside in
    let is : is_ok c.apply.result ≡ false = sym c.is_ok.ensures.value ∙ c.if-is_ok.false in
    let torn = λ (tells : F.tells). err_value c.apply.result is (c.apply.ensures.torn tells) in
    let adds = λ (tells : F.tells) (y : List ℕ) (t : Changes (from * z + at) n (IsTornBy ch) x y). adds_kept G x b from at n c.requires.block (c.requires.stands tells) inside fits (IsTornBy ch) y t in
    let P = AddsFor G b x in
    let start = left_none F c.args.inner.now P (g.met.F.Flash.only_now c.args.inner.now) (λ tells. adds_none G b x x (λ slot lt. refl)) in
    let first = left_more F c.args.inner.now c.args.inner.now c.apply.new.inner P (λ y. Changes (from * z + at) n (IsTornBy ch) x y ⊎ (y ≡ mid)) start c.apply.ensures.time
    (λ tells y. ⊎_elim (λ t. adds tells y t) (λ e. subst P (sym e) (adds tells mid (torn tells)))) in
    left_joined F c.args.inner.now c.apply.new.inner c.replace.new.inner P (Replaces G b from ch c.args.next.now.spare c.args.layout.spares mid) first c.replace.ensures.left
    (λ tells w r. adds_joined G b x mid w (adds tells mid (torn tells)) r.adds)

pub returns-in-Err-clause-counted : goal.returns-in-Err-clause-counted
returns-in-Err-clause-counted g c =
    let is : is_ok c.apply.result ≡ false = sym c.is_ok.ensures.value ∙ c.if-is_ok.false in
    counted_in_all (g.F.Flash.faults c.args.inner.now) (g.F.Flash.faults c.apply.new.inner) (g.F.Flash.faults c.replace.new.inner) c.args.next.now.spare c.replace.new.next.spare
    (c.apply.ensures.cause.failed (err_is c.apply.result is)) c.replace.ensures.later c.replace.ensures.counted

pub returns-in-Ok-clause-rose_moved : goal.returns-in-Ok-clause-rose_moved
returns-in-Ok-clause-rose_moved g c =
    let is : is_ok c.apply.result ≡ false = sym c.is_ok.ensures.value ∙ c.if-is_ok.false in
    omega (arith, c.apply.ensures.cause.failed (err_is c.apply.result is), c.replace.ensures.later)

pub returns-in-Ok-clause-used : goal.returns-in-Ok-clause-used
returns-in-Ok-clause-used g c =
    c.in-Ok.ensures.used

pub returns-in-Err-clause-tried : goal.returns-in-Err-clause-tried
returns-in-Err-clause-tried g c =
    let is : is_ok c.apply.result ≡ false = sym c.is_ok.ensures.value ∙ c.if-is_ok.false in
    tried_all c.args.layout.spares (slots_in (geometry c.args.layout)) c.args.next.now.spare c.args.next.now.slot c.replace.new.next.spare c.replace.new.next.slot
    (g.F.Flash.faults c.args.inner.now) (g.F.Flash.faults c.apply.new.inner) (g.F.Flash.faults c.replace.new.inner) c.replace.ensures.spare c.replace.ensures.most_spare c.replace.ensures.slot
    c.replace.ensures.most_slot c.replace.ensures.slots c.in-Err.ensures.none_left (c.apply.ensures.cause.failed (err_is c.apply.result is)) c.replace.ensures.later c.in-Err.ensures.counted_err
