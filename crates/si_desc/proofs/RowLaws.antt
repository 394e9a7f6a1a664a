-- A descriptor more leaves a row of descriptors a row, and a row behind its length is read back.
use Rattle.std.proofs.Common.{◌≡◌, ℕ, ◌<◌, ◌^◌, List, [], ◌∷◌, ◌++◌, length, refl, subst, sym}
use Rattle.wire.proofs.ItemLaws.{each_push}
use Rattle.wire.proofs.Laws.{sized_put}
use Rattle.wire.specs.Number.{length_bytes}
use Rattle.wire.proofs.Numbers.{length_put}
use Rattle.si_desc.specs.Descriptors.{DescFields, IsRow, descriptor, row, sized_row}
use Rattle.si_desc.specs.Written.{row_bytes}

pub row_push : (old piece new : List ℕ) (d : DescFields) → descriptor.Spells d piece → new ≡ old ++ piece → IsRow old → IsRow new
unfolding row
row_push old piece new d spelled is r =
    let more : IsRow (old ++ piece) = (r.0 ++ d ∷ [], each_push descriptor.Spells r.0 old d piece r.1 spelled) in
    subst (λ (u : List ℕ). IsRow u) (sym is) more

-- no descriptors
pub empty_row : IsRow []
unfolding row
empty_row = ([], refl)

pub row_put : (info : List ℕ) → IsRow info → length info < 2 ^ 12 → sized_row.Spells info (row_bytes info)
unfolding sized_row
row_put info is few = sized_put (length_bytes (length info)) info (length_put (length info) few) (refl, is.0, is.1)
