use Rattle.std.proofs.Common.{◌≡◌, ⊎_elim, ◌+◌, ◌*◌, ◌≤◌, length, get_or, ℕ, List, refl, sym, ◌∙◌, ap, subst, arith}
use Rattle.flash_dev.specs.Changes.{Changes, IsProgrammed, IsTornProgram, LiesInOneBlock}
use Rattle.flash_remap.specs.Entry.{written}
use Rattle.flash_remap.specs.Layout.{map_place, slot_place}
use Rattle.flash_remap.specs.Replaced.{Anything, IsFilled, Replaces}
use Rattle.flash_remap.specs.Shape.{geometry}
use Rattle.flash_remap.specs.declared.entry.Entry.{Entry}
use Rattle.flash_remap.proofs.AttemptLemmas.{done_written, entry_blank, entry_done, entry_held, entry_left, entry_next, fill_blank, fill_left, torn_written}
use Rattle.flash_remap.proofs.FillLemmas.{same_product}
use Rattle.flash_remap.proofs.LeavingLemmas.{left_more, left_weaker}
use Rattle.flash_remap.proofs.replace.attempt.Goals as goal

pub returns-in_err-fill-clause-left : goal.returns-in_err-fill-clause-left
returns-in_err-fill-clause-left g c =
    let F = g.F.Flash in
    let G = geometry c.args.layout in
    let z = c.args.layout.block_size in
    let next = c.args.next.now in
    let x = F.contents c.args.inner.now in
    let of_spare = λ (y : List ℕ) (changes : Changes (c.spare_block-to.result * z) z Anything x y). subst (λ (w : ℕ). Changes (w * z) z Anything x y) c.spare_block-to.ensures changes in
    left_weaker F c.args.inner.now c.fill.new.inner (Changes (c.spare_block-to.result * z) z Anything x) _ c.fill.ensures.left
    (λ tells y changes. fill_left G x next.spare next.slot c.args.block c.args.from c.args.change c.requires.spare c.requires.slot c.requires.block (c.requires.blank tells) (c.requires.below tells) y (of_spare y changes))

pub returns-in_err-fill-clause-held : goal.returns-in_err-fill-clause-held
returns-in_err-fill-clause-held g c tells =
    let F = g.F.Flash in
    let G = geometry c.args.layout in
    let z = c.args.layout.block_size in
    let next = c.args.next.now in
    let x = F.contents c.args.inner.now in
    let of_spare = λ (y : List ℕ) (changes : Changes (c.spare_block-to.result * z) z Anything x y). subst (λ (w : ℕ). Changes (w * z) z Anything x y) c.spare_block-to.ensures changes in
    fill_left G x next.spare next.slot c.args.block c.args.from c.args.change c.requires.spare c.requires.slot c.requires.block (c.requires.blank tells) (c.requires.below tells) (F.contents c.fill.new.inner) (of_spare (F.contents c.fill.new.inner) (c.fill.ensures.held tells))

pub returns-in_err-fill-clause-blank : goal.returns-in_err-fill-clause-blank
returns-in_err-fill-clause-blank g c tells =
    let F = g.F.Flash in
    let G = geometry c.args.layout in
    let z = c.args.layout.block_size in
    let next = c.args.next.now in
    let x = F.contents c.args.inner.now in
    let of_spare = λ (y : List ℕ) (changes : Changes (c.spare_block-to.result * z) z Anything x y). subst (λ (w : ℕ). Changes (w * z) z Anything x y) c.spare_block-to.ensures changes in
    fill_blank G x next.spare next.slot c.args.block c.args.from c.args.change c.requires.spare c.requires.slot c.requires.block (c.requires.blank tells) (c.requires.below tells) (F.contents c.fill.new.inner) (of_spare (F.contents c.fill.new.inner) (c.fill.ensures.held tells))

pub program-requires-clause-blank : goal.program-requires-clause-blank
program-requires-clause-blank g c tells k lt =
    let F = g.F.Flash in
    let G = geometry c.args.layout in
    let z = c.args.layout.block_size in
    let next = c.args.next.now in
    let x = F.contents c.args.inner.now in
    let of_spare = λ (y : List ℕ) (changes : Changes (c.spare_block-to.result * z) z Anything x y). subst (λ (w : ℕ). Changes (w * z) z Anything x y) c.spare_block-to.ensures changes in
    let long : length c.written.result ≡ 16 = ap length c.written.ensures.bytes in
    let place : c.slot_place.result + k ≡ map_place G + (16 * next.slot + k) = omega (arith, c.slot_place.ensures.value) in
    let blank = fill_blank G x next.spare next.slot c.args.block c.args.from c.args.change c.requires.spare c.requires.slot c.requires.block (c.requires.blank tells) (c.requires.below tells) (F.contents c.fill.new.inner) (of_spare (F.contents c.fill.new.inner) (c.fill.ensures.held tells)) in
    subst (λ (p : ℕ). get_or (F.contents c.fill.new.inner) p 0 ≡ 255) (sym place) (blank.each (16 * next.slot + k) (omega arith) (omega (arith, long, lt, c.requires.slot)))

pub program-requires-clause-one_block : goal.program-requires-clause-one_block
program-requires-clause-one_block g c =
    let F = g.F.Flash in
    let G = geometry c.args.layout in
    let long : length c.written.result ≡ 16 = ap length c.written.ensures.bytes in
    let lies : LiesInOneBlock c.args.layout.block_size c.slot_place.result (length c.written.result) =
    (c.args.layout.logical + c.args.layout.spares, omega (arith, c.slot_place.ensures.value), omega (arith, c.slot_place.ensures.value, long, c.requires.slot)) in
    subst (λ (z : ℕ). LiesInOneBlock z c.slot_place.result (length c.written.result)) (sym (c.fill.ensures.block_size ∙ c.requires.block_size)) lies

pub returns-in_err-program-clause-left : goal.returns-in_err-program-clause-left
returns-in_err-program-clause-left g c =
    let F = g.F.Flash in
    let G = geometry c.args.layout in
    let z = c.args.layout.block_size in
    let next = c.args.next.now in
    let x = F.contents c.args.inner.now in
    let of_spare = λ (y : List ℕ) (changes : Changes (c.spare_block-to.result * z) z Anything x y). subst (λ (w : ℕ). Changes (w * z) z Anything x y) c.spare_block-to.ensures changes in
    let e : Entry = record { block = c.args.block; spare = next.spare } in
    let m = F.contents c.fill.new.inner in
    let y = F.contents c.program.new.self in
    let product = same_product _ _ _ _ c.requires.blocks c.requires.block_size in
    let whole = λ (tells : F.tells). let fits : slot_place G next.slot + 16 ≤ length x = omega (arith, c.slot_place.ensures.value, c.slot_place.ensures.inside, c.requires.whole tells, product) in fits in
    let filled = λ (tells : F.tells). subst (λ (w : ℕ). IsFilled G c.args.change c.args.from x w m) c.spare_block-to.ensures (c.in_ok-fill.ensures.done tells) in
    let torn = λ (w : List ℕ) (changes : Changes c.slot_place.result (length c.written.result) (IsTornProgram c.written.result) m w). torn_written c.slot_place.result (slot_place G next.slot) c.written.result e m w c.slot_place.ensures.value c.written.ensures.bytes changes in
    let done = λ (w : List ℕ) (changes : Changes c.slot_place.result (length c.written.result) (IsProgrammed c.written.result) m w). done_written c.slot_place.result (slot_place G next.slot) c.written.result e m w c.slot_place.ensures.value c.written.ensures.bytes changes in
    let P = Replaces G c.args.block c.args.from c.args.change next.spare (next.spare + 1) x in
    let first = left_weaker F c.args.inner.now c.fill.new.inner (Changes (c.spare_block-to.result * z) z Anything x) P c.fill.ensures.left
    (λ tells y changes. fill_left G x next.spare next.slot c.args.block c.args.from c.args.change c.requires.spare c.requires.slot c.requires.block (c.requires.blank tells) (c.requires.below tells) y (of_spare y changes)) in
    left_more F c.args.inner.now c.fill.new.inner c.program.new.self P _ first c.program.ensures.time
    (λ tells w. ⊎_elim (λ changes. entry_left G x next.spare next.slot c.args.block c.args.from c.args.change c.requires.spare c.requires.slot c.requires.block (c.requires.blank tells) (c.requires.below tells) m w e refl refl c.written.ensures.block c.written.ensures.spare (whole tells) (of_spare m (c.fill.ensures.held tells)) (filled tells) (torn w changes))
    (λ is. subst P (sym is) (entry_left G x next.spare next.slot c.args.block c.args.from c.args.change c.requires.spare c.requires.slot c.requires.block (c.requires.blank tells) (c.requires.below tells) m y e refl refl c.written.ensures.block c.written.ensures.spare (whole tells) (of_spare m (c.fill.ensures.held tells)) (filled tells) (torn y (c.in_err-program.ensures.torn tells)))))

pub returns-in_err-program-clause-held : goal.returns-in_err-program-clause-held
returns-in_err-program-clause-held g c tells =
    let F = g.F.Flash in
    let G = geometry c.args.layout in
    let z = c.args.layout.block_size in
    let next = c.args.next.now in
    let x = F.contents c.args.inner.now in
    let of_spare = λ (y : List ℕ) (changes : Changes (c.spare_block-to.result * z) z Anything x y). subst (λ (w : ℕ). Changes (w * z) z Anything x y) c.spare_block-to.ensures changes in
    let e : Entry = record { block = c.args.block; spare = next.spare } in
    let m = F.contents c.fill.new.inner in
    let y = F.contents c.program.new.self in
    let product = same_product _ _ _ _ c.requires.blocks c.requires.block_size in
    let whole = λ (tells : F.tells). let fits : slot_place G next.slot + 16 ≤ length x = omega (arith, c.slot_place.ensures.value, c.slot_place.ensures.inside, c.requires.whole tells, product) in fits in
    let filled = λ (tells : F.tells). subst (λ (w : ℕ). IsFilled G c.args.change c.args.from x w m) c.spare_block-to.ensures (c.in_ok-fill.ensures.done tells) in
    let torn = λ (w : List ℕ) (changes : Changes c.slot_place.result (length c.written.result) (IsTornProgram c.written.result) m w). torn_written c.slot_place.result (slot_place G next.slot) c.written.result e m w c.slot_place.ensures.value c.written.ensures.bytes changes in
    let done = λ (w : List ℕ) (changes : Changes c.slot_place.result (length c.written.result) (IsProgrammed c.written.result) m w). done_written c.slot_place.result (slot_place G next.slot) c.written.result e m w c.slot_place.ensures.value c.written.ensures.bytes changes in
    entry_left G x next.spare next.slot c.args.block c.args.from c.args.change c.requires.spare c.requires.slot c.requires.block (c.requires.blank tells) (c.requires.below tells) m y e refl refl c.written.ensures.block c.written.ensures.spare (whole tells) (of_spare m (c.fill.ensures.held tells)) (filled tells) (torn y (c.in_err-program.ensures.torn tells))

pub returns-in_err-program-clause-blank : goal.returns-in_err-program-clause-blank
returns-in_err-program-clause-blank g c tells =
    let F = g.F.Flash in
    let G = geometry c.args.layout in
    let z = c.args.layout.block_size in
    let next = c.args.next.now in
    let x = F.contents c.args.inner.now in
    let of_spare = λ (y : List ℕ) (changes : Changes (c.spare_block-to.result * z) z Anything x y). subst (λ (w : ℕ). Changes (w * z) z Anything x y) c.spare_block-to.ensures changes in
    let e : Entry = record { block = c.args.block; spare = next.spare } in
    let m = F.contents c.fill.new.inner in
    let y = F.contents c.program.new.self in
    let product = same_product _ _ _ _ c.requires.blocks c.requires.block_size in
    let whole = λ (tells : F.tells). let fits : slot_place G next.slot + 16 ≤ length x = omega (arith, c.slot_place.ensures.value, c.slot_place.ensures.inside, c.requires.whole tells, product) in fits in
    let filled = λ (tells : F.tells). subst (λ (w : ℕ). IsFilled G c.args.change c.args.from x w m) c.spare_block-to.ensures (c.in_ok-fill.ensures.done tells) in
    let torn = λ (w : List ℕ) (changes : Changes c.slot_place.result (length c.written.result) (IsTornProgram c.written.result) m w). torn_written c.slot_place.result (slot_place G next.slot) c.written.result e m w c.slot_place.ensures.value c.written.ensures.bytes changes in
    let done = λ (w : List ℕ) (changes : Changes c.slot_place.result (length c.written.result) (IsProgrammed c.written.result) m w). done_written c.slot_place.result (slot_place G next.slot) c.written.result e m w c.slot_place.ensures.value c.written.ensures.bytes changes in
    entry_blank G x next.spare next.slot c.args.block c.args.from c.args.change c.requires.spare c.requires.slot c.requires.block (c.requires.blank tells) (c.requires.below tells) m y e refl refl c.written.ensures.block c.written.ensures.spare (whole tells) (of_spare m (c.fill.ensures.held tells)) (filled tells) (IsTornProgram (written e)) (torn y (c.in_err-program.ensures.torn tells))

pub returns-clause-left : goal.returns-clause-left
returns-clause-left g c =
    let F = g.F.Flash in
    let G = geometry c.args.layout in
    let z = c.args.layout.block_size in
    let next = c.args.next.now in
    let x = F.contents c.args.inner.now in
    let of_spare = λ (y : List ℕ) (changes : Changes (c.spare_block-to.result * z) z Anything x y). subst (λ (w : ℕ). Changes (w * z) z Anything x y) c.spare_block-to.ensures changes in
    let e : Entry = record { block = c.args.block; spare = next.spare } in
    let m = F.contents c.fill.new.inner in
    let y = F.contents c.program.new.self in
    let product = same_product _ _ _ _ c.requires.blocks c.requires.block_size in
    let whole = λ (tells : F.tells). let fits : slot_place G next.slot + 16 ≤ length x = omega (arith, c.slot_place.ensures.value, c.slot_place.ensures.inside, c.requires.whole tells, product) in fits in
    let filled = λ (tells : F.tells). subst (λ (w : ℕ). IsFilled G c.args.change c.args.from x w m) c.spare_block-to.ensures (c.in_ok-fill.ensures.done tells) in
    let torn = λ (w : List ℕ) (changes : Changes c.slot_place.result (length c.written.result) (IsTornProgram c.written.result) m w). torn_written c.slot_place.result (slot_place G next.slot) c.written.result e m w c.slot_place.ensures.value c.written.ensures.bytes changes in
    let done = λ (w : List ℕ) (changes : Changes c.slot_place.result (length c.written.result) (IsProgrammed c.written.result) m w). done_written c.slot_place.result (slot_place G next.slot) c.written.result e m w c.slot_place.ensures.value c.written.ensures.bytes changes in
    let P = Replaces G c.args.block c.args.from c.args.change next.spare (next.spare + 1) x in
    let first = left_weaker F c.args.inner.now c.fill.new.inner (Changes (c.spare_block-to.result * z) z Anything x) P c.fill.ensures.left
    (λ tells y changes. fill_left G x next.spare next.slot c.args.block c.args.from c.args.change c.requires.spare c.requires.slot c.requires.block (c.requires.blank tells) (c.requires.below tells) y (of_spare y changes)) in
    left_more F c.args.inner.now c.fill.new.inner c.program.new.self P _ first c.program.ensures.time
    (λ tells w. ⊎_elim (λ changes. entry_left G x next.spare next.slot c.args.block c.args.from c.args.change c.requires.spare c.requires.slot c.requires.block (c.requires.blank tells) (c.requires.below tells) m w e refl refl c.written.ensures.block c.written.ensures.spare (whole tells) (of_spare m (c.fill.ensures.held tells)) (filled tells) (torn w changes))
    (λ is. subst P (sym is) (entry_held G x next.spare next.slot c.args.block c.args.from c.args.change c.requires.spare c.requires.slot c.requires.block (c.requires.blank tells) (c.requires.below tells) m y e refl refl c.written.ensures.block c.written.ensures.spare (whole tells) (of_spare m (c.fill.ensures.held tells)) (filled tells) (done y (c.in_ok-program.ensures.done tells)))))

pub returns-clause-held : goal.returns-clause-held
returns-clause-held g c tells =
    let F = g.F.Flash in
    let G = geometry c.args.layout in
    let z = c.args.layout.block_size in
    let next = c.args.next.now in
    let x = F.contents c.args.inner.now in
    let of_spare = λ (y : List ℕ) (changes : Changes (c.spare_block-to.result * z) z Anything x y). subst (λ (w : ℕ). Changes (w * z) z Anything x y) c.spare_block-to.ensures changes in
    let e : Entry = record { block = c.args.block; spare = next.spare } in
    let m = F.contents c.fill.new.inner in
    let y = F.contents c.program.new.self in
    let product = same_product _ _ _ _ c.requires.blocks c.requires.block_size in
    let whole = λ (tells : F.tells). let fits : slot_place G next.slot + 16 ≤ length x = omega (arith, c.slot_place.ensures.value, c.slot_place.ensures.inside, c.requires.whole tells, product) in fits in
    let filled = λ (tells : F.tells). subst (λ (w : ℕ). IsFilled G c.args.change c.args.from x w m) c.spare_block-to.ensures (c.in_ok-fill.ensures.done tells) in
    let torn = λ (w : List ℕ) (changes : Changes c.slot_place.result (length c.written.result) (IsTornProgram c.written.result) m w). torn_written c.slot_place.result (slot_place G next.slot) c.written.result e m w c.slot_place.ensures.value c.written.ensures.bytes changes in
    let done = λ (w : List ℕ) (changes : Changes c.slot_place.result (length c.written.result) (IsProgrammed c.written.result) m w). done_written c.slot_place.result (slot_place G next.slot) c.written.result e m w c.slot_place.ensures.value c.written.ensures.bytes changes in
    entry_held G x next.spare next.slot c.args.block c.args.from c.args.change c.requires.spare c.requires.slot c.requires.block (c.requires.blank tells) (c.requires.below tells) m y e refl refl c.written.ensures.block c.written.ensures.spare (whole tells) (of_spare m (c.fill.ensures.held tells)) (filled tells) (done y (c.in_ok-program.ensures.done tells))

pub returns-clause-next : goal.returns-clause-next
returns-clause-next g c tells =
    let F = g.F.Flash in
    let G = geometry c.args.layout in
    let z = c.args.layout.block_size in
    let next = c.args.next.now in
    let x = F.contents c.args.inner.now in
    let of_spare = λ (y : List ℕ) (changes : Changes (c.spare_block-to.result * z) z Anything x y). subst (λ (w : ℕ). Changes (w * z) z Anything x y) c.spare_block-to.ensures changes in
    let e : Entry = record { block = c.args.block; spare = next.spare } in
    let m = F.contents c.fill.new.inner in
    let y = F.contents c.program.new.self in
    let product = same_product _ _ _ _ c.requires.blocks c.requires.block_size in
    let whole = λ (tells : F.tells). let fits : slot_place G next.slot + 16 ≤ length x = omega (arith, c.slot_place.ensures.value, c.slot_place.ensures.inside, c.requires.whole tells, product) in fits in
    let filled = λ (tells : F.tells). subst (λ (w : ℕ). IsFilled G c.args.change c.args.from x w m) c.spare_block-to.ensures (c.in_ok-fill.ensures.done tells) in
    let torn = λ (w : List ℕ) (changes : Changes c.slot_place.result (length c.written.result) (IsTornProgram c.written.result) m w). torn_written c.slot_place.result (slot_place G next.slot) c.written.result e m w c.slot_place.ensures.value c.written.ensures.bytes changes in
    let done = λ (w : List ℕ) (changes : Changes c.slot_place.result (length c.written.result) (IsProgrammed c.written.result) m w). done_written c.slot_place.result (slot_place G next.slot) c.written.result e m w c.slot_place.ensures.value c.written.ensures.bytes changes in
    entry_next G x next.spare next.slot c.args.block c.args.from c.args.change c.requires.spare c.requires.slot c.requires.block (c.requires.blank tells) (c.requires.below tells) m y e refl refl c.written.ensures.block c.written.ensures.spare (whole tells) (of_spare m (c.fill.ensures.held tells)) (filled tells) (done y (c.in_ok-program.ensures.done tells))

pub returns-clause-replaced : goal.returns-clause-replaced
returns-clause-replaced g c tells =
    let F = g.F.Flash in
    let G = geometry c.args.layout in
    let z = c.args.layout.block_size in
    let next = c.args.next.now in
    let x = F.contents c.args.inner.now in
    let of_spare = λ (y : List ℕ) (changes : Changes (c.spare_block-to.result * z) z Anything x y). subst (λ (w : ℕ). Changes (w * z) z Anything x y) c.spare_block-to.ensures changes in
    let e : Entry = record { block = c.args.block; spare = next.spare } in
    let m = F.contents c.fill.new.inner in
    let y = F.contents c.program.new.self in
    let product = same_product _ _ _ _ c.requires.blocks c.requires.block_size in
    let whole = λ (tells : F.tells). let fits : slot_place G next.slot + 16 ≤ length x = omega (arith, c.slot_place.ensures.value, c.slot_place.ensures.inside, c.requires.whole tells, product) in fits in
    let filled = λ (tells : F.tells). subst (λ (w : ℕ). IsFilled G c.args.change c.args.from x w m) c.spare_block-to.ensures (c.in_ok-fill.ensures.done tells) in
    let torn = λ (w : List ℕ) (changes : Changes c.slot_place.result (length c.written.result) (IsTornProgram c.written.result) m w). torn_written c.slot_place.result (slot_place G next.slot) c.written.result e m w c.slot_place.ensures.value c.written.ensures.bytes changes in
    let done = λ (w : List ℕ) (changes : Changes c.slot_place.result (length c.written.result) (IsProgrammed c.written.result) m w). done_written c.slot_place.result (slot_place G next.slot) c.written.result e m w c.slot_place.ensures.value c.written.ensures.bytes changes in
    entry_done G x next.spare next.slot c.args.block c.args.from c.args.change c.requires.spare c.requires.slot c.requires.block (c.requires.blank tells) (c.requires.below tells) m y e refl refl c.written.ensures.block c.written.ensures.spare (whole tells) (of_spare m (c.fill.ensures.held tells)) (filled tells) (done y (c.in_ok-program.ensures.done tells))

pub returns-clause-blank : goal.returns-clause-blank
returns-clause-blank g c tells =
    let F = g.F.Flash in
    let G = geometry c.args.layout in
    let z = c.args.layout.block_size in
    let next = c.args.next.now in
    let x = F.contents c.args.inner.now in
    let of_spare = λ (y : List ℕ) (changes : Changes (c.spare_block-to.result * z) z Anything x y). subst (λ (w : ℕ). Changes (w * z) z Anything x y) c.spare_block-to.ensures changes in
    let e : Entry = record { block = c.args.block; spare = next.spare } in
    let m = F.contents c.fill.new.inner in
    let y = F.contents c.program.new.self in
    let product = same_product _ _ _ _ c.requires.blocks c.requires.block_size in
    let whole = λ (tells : F.tells). let fits : slot_place G next.slot + 16 ≤ length x = omega (arith, c.slot_place.ensures.value, c.slot_place.ensures.inside, c.requires.whole tells, product) in fits in
    let filled = λ (tells : F.tells). subst (λ (w : ℕ). IsFilled G c.args.change c.args.from x w m) c.spare_block-to.ensures (c.in_ok-fill.ensures.done tells) in
    let torn = λ (w : List ℕ) (changes : Changes c.slot_place.result (length c.written.result) (IsTornProgram c.written.result) m w). torn_written c.slot_place.result (slot_place G next.slot) c.written.result e m w c.slot_place.ensures.value c.written.ensures.bytes changes in
    let done = λ (w : List ℕ) (changes : Changes c.slot_place.result (length c.written.result) (IsProgrammed c.written.result) m w). done_written c.slot_place.result (slot_place G next.slot) c.written.result e m w c.slot_place.ensures.value c.written.ensures.bytes changes in
    entry_blank G x next.spare next.slot c.args.block c.args.from c.args.change c.requires.spare c.requires.slot c.requires.block (c.requires.blank tells) (c.requires.below tells) m y e refl refl c.written.ensures.block c.written.ensures.spare (whole tells) (of_spare m (c.fill.ensures.held tells)) (filled tells) (IsProgrammed (written e)) (done y (c.in_ok-program.ensures.done tells))
