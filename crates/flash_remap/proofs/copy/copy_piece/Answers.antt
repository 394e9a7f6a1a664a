use Rattle.std.proofs.Common.{◌≡◌, ⊎_elim, ℕ, List, length, sym, ◌∙◌, subst, rules}
use Rattle.flash_dev.specs.Changes.{Changes}
use Rattle.flash_remap.specs.Replaced.{Anything}
use Rattle.flash_remap.proofs.CopyLemmas.{any_none, changes_any, copied}
use Rattle.flash_remap.proofs.LeavingLemmas.{by_result, left_more, left_none, ok_map}
use Rattle.flash_remap.proofs.copy.copy_piece.Goals as goal

-- a change of as many bytes
resized : (at n m : ℕ) (P : ℕ → ℕ → ℕ → Type 0) (x y z : List ℕ) → n ≡ m → y ≡ x → Changes at n P y z → Changes at m Anything x z
resized at n m P x y z size same changes = subst (λ (l : List ℕ). Changes at m Anything l z) same (subst (λ (k : ℕ). Changes at k Anything y z) size (changes_any at n P y z changes))

pub returns-clause-held : goal.returns-clause-held
returns-clause-held g c tells =
    let F = g.F.Flash in
    let size : length c.read.new.buf ≡ c.args.len = search rules in
    ⊎_elim (resized c.args.to _ _ _ _ _ (F.contents c.program.new.self) size (c.read.ensures.same tells))
    (resized c.args.to _ _ _ _ _ (F.contents c.program.new.self) size (c.read.ensures.same tells))
    (by_result c.program.result (c.program.ensures.done tells) (c.program.ensures.torn tells))

pub returns-clause-left : goal.returns-clause-left
returns-clause-left g c =
    let F = g.F.Flash in
    let old = F.contents c.args.inner.now in
    let P = Changes c.args.to c.args.len Anything old in
    let size : length c.read.new.buf ≡ c.args.len = search rules in
    let first = left_none F c.args.inner.now P (g.met.F.Flash.only_now c.args.inner.now) (λ tells. any_none c.args.to c.args.len old) in
    let second = left_more F c.args.inner.now c.args.inner.now c.read.new.self P (λ y. y ≡ F.contents c.read.new.self) first c.read.ensures.time
    (λ tells y is. subst P (sym (is ∙ c.read.ensures.same tells)) (any_none c.args.to c.args.len old)) in
    left_more F c.args.inner.now c.read.new.self c.program.new.self P _ second c.program.ensures.time
    (λ tells y. ⊎_elim (resized c.args.to _ _ _ _ _ y size (c.read.ensures.same tells)) (λ is. subst P (sym is) (returns-clause-held g c tells)))

pub returns-clause-done : goal.returns-clause-done
returns-clause-done g c tells =
    let F = g.F.Flash in
    let size : length c.read.new.buf ≡ c.args.len = search rules in
    ok_map c.program.result
    (copied c.args.from c.args.to c.args.len c.read.new.buf (F.contents c.args.inner.now) (F.contents c.read.new.self) (F.contents c.program.new.self) size
    (c.read.ensures.same tells) (c.in_ok-read.ensures.bytes tells)) (c.program.ensures.done tells)

pub returns-in_err-read-clause-held : goal.returns-in_err-read-clause-held
returns-in_err-read-clause-held g c tells =
    let F = g.F.Flash in
    let old = F.contents c.args.inner.now in
    subst (Changes c.args.to c.args.len Anything old) (sym (c.read.ensures.same tells)) (any_none c.args.to c.args.len old)

pub returns-in_err-read-clause-left : goal.returns-in_err-read-clause-left
returns-in_err-read-clause-left g c =
    let F = g.F.Flash in
    let old = F.contents c.args.inner.now in
    let P = Changes c.args.to c.args.len Anything old in
    let first = left_none F c.args.inner.now P (g.met.F.Flash.only_now c.args.inner.now) (λ tells. any_none c.args.to c.args.len old) in
    left_more F c.args.inner.now c.args.inner.now c.read.new.self P (λ y. y ≡ F.contents c.read.new.self) first c.read.ensures.time
    (λ tells y is. subst P (sym (is ∙ c.read.ensures.same tells)) (any_none c.args.to c.args.len old))
