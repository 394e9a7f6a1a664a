-- Formats whose bytes stand in a part of what another format reads.
use Rattle.std.proofs.Common.{◌≡◌, List, ℕ, Option, Some, refl, subst}
use Rattle.wire.specs.Format.{Whole, ◌>>=◌}
use Rattle.wire.specs.Exact.{IsWhole}
use Rattle.wire.specs.Inside.{inside, noted}
use Rattle.wire.proofs.Laws.{bind_some}

abbrev some : {A : Type 0} → A → Option A
some x = Some x

same : {A : Type 0} (x y : A) → some x ≡ some y → x ≡ y
same x y e = cc

pub inside_exact : {A B : Type 0} {w : Whole A} (part : A → List ℕ) {v : Whole B} → IsWhole w → IsWhole v → IsWhole (inside w part v)
inside_exact {A} {B} {w} part {v} h k = record {
  takes = λ bs z e.
      let a = bind_some (w.of bs) (λ a. v.of (part a) >>= λ b. Some (a, b)) z e in
      let b = bind_some (v.of (part a.0)) (λ b. Some (a.0, b)) z a.2 in
      subst (λ (u : A × B). (inside w part v).Spells u bs) (same (a.0, b.0) z b.2) (h.takes bs a.0 a.1, k.takes (part a.0) b.0 b.1);
  again = λ x bs s. rw (h.again x.0 bs s.0, k.again x.1 (part x.0) s.1) refl;
}

pub noted_exact : {A : Type 0} {w : Whole A} → IsWhole w → IsWhole (noted w)
noted_exact {A} {w} h = record {
  takes = λ bs z e.
      let x = bind_some (w.of bs) (λ x. Some (x, bs)) z e in
      subst (λ (u : A × List ℕ). (noted w).Spells u bs) (same (x.0, bs) z x.2) (h.takes bs x.0 x.1, refl);
  again = λ x bs s. rw (h.again x.0 bs s.0, s.1) refl;
}
