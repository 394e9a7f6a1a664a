-- What is spelled nowhere is not read, and a time that was read lies in its day.
use Rattle.std.proofs.Common.{◌≡◌, ℕ, List, Option, Some, None, refl, arith}
use Rattle.wire.specs.Format.{Whole}
use Rattle.wire.specs.Exact.{IsWhole}
use Rattle.ssu_time.specs.UtcField.{time_view}
use Rattle.ssu_time.specs.declared.utc_time.Utc.{Utc}
use Rattle.ssu_time.proofs.UtcLemmas.{same_utc}
use Rattle.section_kind.specs.Kinds.{utc_of}

pub unread : {A : Type 0} {w : Whole A} → IsWhole w → (section : List ℕ) → ((x : A) → w.Spells x section → ⊥) → w.of section ≡ None
unread {A} {w} h section never = none_by (w.of section) (λ x e. never x (h.takes section x e))
  where
    none_by : (o : Option A) → ((x : A) → o ≡ Some x → ⊥) → o ≡ None
    none_by None f = refl
    none_by (Some x) f = absurd (f x refl)

pub time_again : (t : Utc) → utc_of (time_view t) ≡ t
time_again t = same_utc (utc_of (time_view t)) t refl (omega (arith, t.in_day))
