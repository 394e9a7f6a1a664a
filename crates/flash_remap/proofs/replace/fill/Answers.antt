use Rattle.std.proofs.Common.{◌≡◌, inl, inr, ⊎_elim, ◌+◌, ◌-◌, ◌*◌, ◌≤◌, length, get_or, ℕ, refl, sym, ◌∙◌, subst, arith}
use Rattle.flash_dev.specs.Changes.{Changes, IsErased, IsProgrammed}
use Rattle.flash_remap.specs.Change.{LiesInBlock}
use Rattle.flash_remap.specs.Replaced.{Anything, IsFilled}
use Rattle.flash_remap.specs.Shape.{geometry}
use Rattle.flash_remap.specs.declared.change.Change.{Change}
use Rattle.flash_remap.proofs.CopyLemmas.{changes_any}
use Rattle.flash_remap.proofs.FillLemmas.{blocks_apart, erase_left, filled, moved, moved_copy, sized, spare_more}
use Rattle.flash_remap.proofs.LeavingLemmas.{left_joined, left_more, ok_map}
use Rattle.flash_remap.proofs.replace.fill.Goals as goal

pub copy-requires-clause-apart : goal.copy-requires-clause-apart
copy-requires-clause-apart g c =
    let fits : c.in-Program.at + length c.in-Program.bytes.now ≤ c.args.layout.block_size = (subst (λ (ch : Change). LiesInBlock c.args.layout.block_size ch) c.in-Program.is c.requires.inside).2 in
    ⊎_elim (λ before. inl (omega (arith, before))) (λ after. inr (omega (arith, after))) (blocks_apart c.args.layout.block_size c.args.from c.args.to c.requires.apart)

pub copy-requires-clause-blank : goal.copy-requires-clause-blank
copy-requires-clause-blank g c tells k lt =
    let fits : c.in-Program.at + length c.in-Program.bytes.now ≤ c.args.layout.block_size = (subst (λ (ch : Change). LiesInBlock c.args.layout.block_size ch) c.in-Program.is c.requires.inside).2 in
    let F = g.F.Flash in
    let z = c.args.layout.block_size in
    let erased = sized c.args.to (F.block_len c.args.inner.now) z IsErased (F.contents c.args.inner.now) (F.contents c.erase.new.self) c.requires.block_size (c.in_ok-erase.ensures.done tells) in
    let place : c.place-in-Program.result + k ≡ c.args.to * z + k = omega arith in
    subst (λ (p : ℕ). get_or (F.contents c.erase.new.self) p 0 ≡ 255) (sym place) (erased.inside k (omega arith))

pub returns-in_err-copy-in-Program-clause-left : goal.returns-in_err-copy-in-Program-clause-left
returns-in_err-copy-in-Program-clause-left g c =
    let fits : c.in-Program.at + length c.in-Program.bytes.now ≤ c.args.layout.block_size = (subst (λ (ch : Change). LiesInBlock c.args.layout.block_size ch) c.in-Program.is c.requires.inside).2 in
    let F = g.F.Flash in
    let z = c.args.layout.block_size in
    let start = c.args.to * z in
    let x = F.contents c.args.inner.now in
    let e = F.contents c.erase.new.self in
    let P = Changes start z Anything x in
    let spare = λ (tells : F.tells). changes_any start z IsErased x e (sized c.args.to (F.block_len c.args.inner.now) z IsErased x e c.requires.block_size (c.in_ok-erase.ensures.done tells)) in
    let first = erase_left F c.args.inner.now c.erase.new.self c.args.to z (g.met.F.Flash.only_now c.args.inner.now) c.erase.ensures.time c.requires.block_size spare in
    left_joined F c.args.inner.now c.erase.new.self c.copy.new.inner P (Changes c.place-in-Program.result c.in-Program.at Anything e) first c.copy.ensures.left
    (λ tells y torn. spare_more start z c.place-in-Program.result c.in-Program.at Anything x e y (spare tells) (omega arith) (omega arith) torn)

pub program-requires-clause-blank : goal.program-requires-clause-blank
program-requires-clause-blank g c tells k lt =
    let fits : c.in-Program.at + length c.in-Program.bytes.now ≤ c.args.layout.block_size = (subst (λ (ch : Change). LiesInBlock c.args.layout.block_size ch) c.in-Program.is c.requires.inside).2 in
    let F = g.F.Flash in
    let z = c.args.layout.block_size in
    let erased = sized c.args.to (F.block_len c.args.inner.now) z IsErased (F.contents c.args.inner.now) (F.contents c.erase.new.self) c.requires.block_size (c.in_ok-erase.ensures.done tells) in
    let place : c.place-in-Program-2.result + k ≡ c.args.to * z + (c.in-Program.at + k) = omega arith in
    (c.copy.ensures.held tells).after (c.place-in-Program-2.result + k) (omega arith)
    ∙ subst (λ (p : ℕ). get_or (F.contents c.erase.new.self) p 0 ≡ 255) (sym place) (erased.inside (c.in-Program.at + k) (omega arith))

pub returns-in_err-program-in-Program-clause-left : goal.returns-in_err-program-in-Program-clause-left
returns-in_err-program-in-Program-clause-left g c =
    let fits : c.in-Program.at + length c.in-Program.bytes.now ≤ c.args.layout.block_size = (subst (λ (ch : Change). LiesInBlock c.args.layout.block_size ch) c.in-Program.is c.requires.inside).2 in
    let F = g.F.Flash in
    let z = c.args.layout.block_size in
    let start = c.args.to * z in
    let x = F.contents c.args.inner.now in
    let e = F.contents c.erase.new.self in
    let m = F.contents c.copy.new.inner in
    let n = F.contents c.program.new.self in
    let P = Changes start z Anything x in
    let spare = λ (tells : F.tells). changes_any start z IsErased x e (sized c.args.to (F.block_len c.args.inner.now) z IsErased x e c.requires.block_size (c.in_ok-erase.ensures.done tells)) in
    let copied = λ (tells : F.tells). spare_more start z c.place-in-Program.result c.in-Program.at Anything x e m (spare tells) (omega arith) (omega arith) (c.copy.ensures.held tells) in
    let first = erase_left F c.args.inner.now c.erase.new.self c.args.to z (g.met.F.Flash.only_now c.args.inner.now) c.erase.ensures.time c.requires.block_size spare in
    let second = left_joined F c.args.inner.now c.erase.new.self c.copy.new.inner P (Changes c.place-in-Program.result c.in-Program.at Anything e) first c.copy.ensures.left
    (λ tells y torn. spare_more start z c.place-in-Program.result c.in-Program.at Anything x e y (spare tells) (omega arith) (omega arith) torn) in
    left_more F c.args.inner.now c.copy.new.inner c.program.new.self P _ second c.program.ensures.time
    (λ tells y. ⊎_elim (λ torn. spare_more start z c.place-in-Program-2.result (length c.in-Program.bytes.now) _ x m y (copied tells) (omega arith) (omega arith) torn)
    (λ is. subst P (sym is) (spare_more start z c.place-in-Program-2.result (length c.in-Program.bytes.now) _ x m n (copied tells) (omega arith) (omega arith) (c.in_err-program-in-Program.ensures.torn tells))))

pub copy-requires-in-Program-clause-apart : goal.copy-requires-in-Program-clause-apart
copy-requires-in-Program-clause-apart g c =
    let fits : c.in-Program.at + length c.in-Program.bytes.now ≤ c.args.layout.block_size = (subst (λ (ch : Change). LiesInBlock c.args.layout.block_size ch) c.in-Program.is c.requires.inside).2 in
    ⊎_elim (λ before. inl (omega (arith, before))) (λ after. inr (omega (arith, after))) (blocks_apart c.args.layout.block_size c.args.from c.args.to c.requires.apart)

pub copy-requires-in-Program-clause-blank : goal.copy-requires-in-Program-clause-blank
copy-requires-in-Program-clause-blank g c tells k lt =
    let fits : c.in-Program.at + length c.in-Program.bytes.now ≤ c.args.layout.block_size = (subst (λ (ch : Change). LiesInBlock c.args.layout.block_size ch) c.in-Program.is c.requires.inside).2 in
    let F = g.F.Flash in
    let z = c.args.layout.block_size in
    let start = c.args.to * z in
    let x = F.contents c.args.inner.now in
    let e = F.contents c.erase.new.self in
    let m = F.contents c.copy.new.inner in
    let n = F.contents c.program.new.self in
    let erased = sized c.args.to (F.block_len c.args.inner.now) z IsErased x e c.requires.block_size (c.in_ok-erase.ensures.done tells) in
    let place : c.place-in-Program-4.result + k ≡ c.args.to * z + (c.in-Program.at + length c.in-Program.bytes.now + k) = omega arith in
    (c.in_ok-program-in-Program.ensures.done tells).after (c.place-in-Program-4.result + k) (omega arith)
    ∙ ((c.copy.ensures.held tells).after (c.place-in-Program-4.result + k) (omega arith)
    ∙ subst (λ (p : ℕ). get_or e p 0 ≡ 255) (sym place) (erased.inside (c.in-Program.at + length c.in-Program.bytes.now + k) (omega arith)))

pub returns-in_ok-program-in-Program-clause-done : goal.returns-in_ok-program-in-Program-clause-done
returns-in_ok-program-in-Program-clause-done g c tells =
    let fits : c.in-Program.at + length c.in-Program.bytes.now ≤ c.args.layout.block_size = (subst (λ (ch : Change). LiesInBlock c.args.layout.block_size ch) c.in-Program.is c.requires.inside).2 in
    let F = g.F.Flash in
    let z = c.args.layout.block_size in
    let start = c.args.to * z in
    let x = F.contents c.args.inner.now in
    let e = F.contents c.erase.new.self in
    let m = F.contents c.copy.new.inner in
    let n = F.contents c.program.new.self in
    let y = F.contents c.copy-in-Program.new.inner in
    let at = c.in-Program.at in
    let len = length c.in-Program.bytes.now in
    let erased = sized c.args.to (F.block_len c.args.inner.now) z IsErased x e c.requires.block_size (c.in_ok-erase.ensures.done tells) in
    let front = moved_copy c.place-in-Program.result start at at c.place.result (c.args.from * z) e e m (omega arith) refl (omega arith) (c.in_ok-copy-in-Program.ensures.done tells) in
    let here = moved c.place-in-Program-2.result (start + at) len len (IsProgrammed c.in-Program.bytes.now) m n (omega arith) refl (c.in_ok-program-in-Program.ensures.done tells) in
    ok_map c.copy-in-Program.result
    (λ copy.
    let behind = moved_copy c.place-in-Program-4.result (start + (at + len)) (z - (at + len)) (z - (at + len)) c.place-in-Program-3.result (c.args.from * z + (at + len)) n n y (omega arith) refl (omega arith) copy in
    subst (λ (ch : Change). IsFilled (geometry c.args.layout) ch c.args.from x c.args.to y) (sym c.in-Program.is)
    (record { each = filled z c.args.from c.args.to at c.in-Program.bytes x e m n y c.requires.apart fits erased front here behind }))
    (c.copy-in-Program.ensures.done tells)

pub returns-in_ok-program-in-Program-clause-held : goal.returns-in_ok-program-in-Program-clause-held
returns-in_ok-program-in-Program-clause-held g c tells =
    let fits : c.in-Program.at + length c.in-Program.bytes.now ≤ c.args.layout.block_size = (subst (λ (ch : Change). LiesInBlock c.args.layout.block_size ch) c.in-Program.is c.requires.inside).2 in
    let F = g.F.Flash in
    let z = c.args.layout.block_size in
    let start = c.args.to * z in
    let x = F.contents c.args.inner.now in
    let e = F.contents c.erase.new.self in
    let m = F.contents c.copy.new.inner in
    let n = F.contents c.program.new.self in
    let y = F.contents c.copy-in-Program.new.inner in
    let P = Changes start z Anything x in
    let spare = λ (tells : F.tells). changes_any start z IsErased x e (sized c.args.to (F.block_len c.args.inner.now) z IsErased x e c.requires.block_size (c.in_ok-erase.ensures.done tells)) in
    let copied = λ (tells : F.tells). spare_more start z c.place-in-Program.result c.in-Program.at Anything x e m (spare tells) (omega arith) (omega arith) (c.copy.ensures.held tells) in
    let programmed = λ (tells : F.tells). spare_more start z c.place-in-Program-2.result (length c.in-Program.bytes.now) _ x m n (copied tells) (omega arith) (omega arith) (c.in_ok-program-in-Program.ensures.done tells) in
    let end = c.in-Program.at + length c.in-Program.bytes.now in
    spare_more start z c.place-in-Program-4.result (z - end) Anything x n y (programmed tells) (omega arith) (omega arith) (c.copy-in-Program.ensures.held tells)

pub returns-in_ok-program-in-Program-clause-left : goal.returns-in_ok-program-in-Program-clause-left
returns-in_ok-program-in-Program-clause-left g c =
    let fits : c.in-Program.at + length c.in-Program.bytes.now ≤ c.args.layout.block_size = (subst (λ (ch : Change). LiesInBlock c.args.layout.block_size ch) c.in-Program.is c.requires.inside).2 in
    let F = g.F.Flash in
    let z = c.args.layout.block_size in
    let start = c.args.to * z in
    let x = F.contents c.args.inner.now in
    let e = F.contents c.erase.new.self in
    let m = F.contents c.copy.new.inner in
    let n = F.contents c.program.new.self in
    let y = F.contents c.copy-in-Program.new.inner in
    let P = Changes start z Anything x in
    let spare = λ (tells : F.tells). changes_any start z IsErased x e (sized c.args.to (F.block_len c.args.inner.now) z IsErased x e c.requires.block_size (c.in_ok-erase.ensures.done tells)) in
    let copied = λ (tells : F.tells). spare_more start z c.place-in-Program.result c.in-Program.at Anything x e m (spare tells) (omega arith) (omega arith) (c.copy.ensures.held tells) in
    let programmed = λ (tells : F.tells). spare_more start z c.place-in-Program-2.result (length c.in-Program.bytes.now) _ x m n (copied tells) (omega arith) (omega arith) (c.in_ok-program-in-Program.ensures.done tells) in
    let end = c.in-Program.at + length c.in-Program.bytes.now in
    let first = erase_left F c.args.inner.now c.erase.new.self c.args.to z (g.met.F.Flash.only_now c.args.inner.now) c.erase.ensures.time c.requires.block_size spare in
    let second = left_joined F c.args.inner.now c.erase.new.self c.copy.new.inner P (Changes c.place-in-Program.result c.in-Program.at Anything e) first c.copy.ensures.left
    (λ tells w torn. spare_more start z c.place-in-Program.result c.in-Program.at Anything x e w (spare tells) (omega arith) (omega arith) torn) in
    let third = left_more F c.args.inner.now c.copy.new.inner c.program.new.self P _ second c.program.ensures.time
    (λ tells w. ⊎_elim (λ torn. spare_more start z c.place-in-Program-2.result (length c.in-Program.bytes.now) _ x m w (copied tells) (omega arith) (omega arith) torn)
    (λ is. subst P (sym is) (programmed tells))) in
    left_joined F c.args.inner.now c.program.new.self c.copy-in-Program.new.inner P (Changes c.place-in-Program-4.result (z - end) Anything n) third c.copy-in-Program.ensures.left
    (λ tells w torn. spare_more start z c.place-in-Program-4.result (z - end) Anything x n w (programmed tells) (omega arith) (omega arith) torn)
