-- What a reader answers is what its format reads.
use Rattle.std.proofs.Common.{◌≡◌, ℕ, List, Option, Some, None, refl, sym}
use Rattle.std.specs.Prelude.{IfSome}
use Rattle.std.specs.Option.{option_map}
use Rattle.wire.specs.Format.{Whole}
use Rattle.wire.specs.Exact.{IsWhole}

pub read_exactly : {A B : Type 0} (w : Whole A) → IsWhole w → (view : B → A) (bs : List ℕ) (r : Option B)
    → IfSome r (λ d. w.Spells (view d) bs) → ((a : A) → w.Spells a bs → option_map view r ≡ Some a) → option_map view r ≡ w.of bs
read_exactly w h view bs (Some d) found only = sym (h.again (view d) bs found)
read_exactly {A} {B} w h view bs None found only = by_value (w.of bs) refl
  where
    by_value : (o : Option A) → w.of bs ≡ o → None ≡ o
    by_value None e = refl
    by_value (Some a) e = only a (h.takes bs a e)

pub reads_it : {A : Type 0} (w : Whole A) → IsWhole w → (bs : List ℕ) (r : Option A) → IfSome r (λ d. w.Spells d bs) → ((a : A) → w.Spells a bs → r ≡ Some a) → r ≡ w.of bs
reads_it w h bs (Some d) found only = sym (h.again d bs found)
reads_it {A} w h bs None found only = by_value (w.of bs) refl
  where
    by_value : (o : Option A) → w.of bs ≡ o → None ≡ o
    by_value None e = refl
    by_value (Some a) e = only a (h.takes bs a e)
