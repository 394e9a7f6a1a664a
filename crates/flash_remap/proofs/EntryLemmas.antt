-- An entry in a slot: it is there whole, or none is.
use Rattle.std.proofs.Common.{◌≡◌, ◌⊎◌, inl, inr, ⊎_elim, ℕ, zero, suc, ◌+◌, ◌<◌, ◌≤◌, true, false, ◌&&◌, ◌==◌, List, [], ◌∷◌, length, get_or, Some, None, refl, ◌∙◌, ap, arith}
use Rattle.std.proofs.lemmas.Bool.{and_left, and_right, and_from, and_parts, cases_Bool, cond-true, cond-false, eqb-true, eq-eqb}
use Rattle.flash_remap.specs.Entry.{are_fixed, are_whole, byte_at, entry_in, half_at, pair_sum, spelled, written}
use Rattle.flash_remap.specs.declared.entry.Entry.{Entry}
use Rattle.flash_remap.proofs.PairLemmas.{first-paired, second-paired, whole_pairs}

pub whole_each : (n : ℕ) (bytes : List ℕ) → are_whole n bytes ≡ true → (i : ℕ) → i < n → pair_sum bytes i ≡ 255
unfolding are_whole
whole_each zero bytes is i lt = absurd (omega arith)
whole_each (suc n) bytes is i lt =
    let parts = and_parts (are_whole n bytes) (pair_sum bytes n == 255) is in
    ⊎_elim (whole_each n bytes parts.0 i) (λ here. ap (λ (j : ℕ). pair_sum bytes j) here ∙ eqb-true _ _ parts.1) (last_or_below i n lt)
  where
    last_or_below : (i n : ℕ) → i < suc n → (i < n) ⊎ (i ≡ n)
    last_or_below i n lt = grind arith

-- one pair more
pub whole_step : (n : ℕ) (bytes : List ℕ) → are_whole n bytes ≡ true → pair_sum bytes n ≡ 255 → are_whole (n + 1) bytes ≡ true
unfolding are_whole
whole_step n bytes so_far here =
    let next : n + 1 ≡ suc n = omega arith in
    ap (λ (m : ℕ). are_whole m bytes) next ∙ and_from _ _ so_far (eq-eqb _ _ here)

pub not_whole : (n i : ℕ) (bytes : List ℕ) → i < n → (pair_sum bytes i ≡ 255 → ⊥) → are_whole n bytes ≡ false
not_whole n i bytes lt not = ⊎_elim (λ yes. absurd (not (whole_each n bytes yes i lt))) (λ no. no) (cases_Bool (are_whole n bytes))

pub whole_from : (n : ℕ) (bytes : List ℕ) → ((i : ℕ) → i < n → pair_sum bytes i ≡ 255) → are_whole n bytes ≡ true
unfolding are_whole
whole_from zero bytes each = refl
whole_from (suc n) bytes each = and_from _ _ (whole_from n bytes (λ i lt. each i (omega arith))) (eq-eqb _ _ (each n (omega arith)))

-- the bytes of an entry
AllBytes : List ℕ → Type 0
AllBytes [] = Unit {0}
AllBytes (x ∷ xs) = (x ≤ 255) × AllBytes xs

byte_of : (xs : List ℕ) → AllBytes xs → (i : ℕ) → get_or xs i 0 ≤ 255
unfolding AllBytes
byte_of [] fit i = omega arith
byte_of (x ∷ xs) fit zero = fit.0
byte_of (x ∷ xs) fit (suc i) = byte_of xs fit.1 i

spelled_fits : (e : Entry) → e.block < 65536 → e.spare < 65536 → (i : ℕ) → get_or (spelled e) i 0 ≤ 255
unfolding AllBytes
spelled_fits e block spare i =
    byte_of (spelled e) (omega arith, (omega arith, (omega arith, (omega arith, (omega arith, (omega arith, (omega arith, (omega arith, tt)))))))) i

-- what was written is read
pub entry_of-written : (e : Entry) → e.block < 65536 → e.spare < 65536 → entry_in (written e) ≡ Some e
unfolding entry_in
entry_of-written e block spare =
    let whole : are_whole 8 (written e) ≡ true = whole_from 8 (written e) (λ i lt. omega (arith, first-paired (spelled e) i lt, second-paired (spelled e) i lt, spelled_fits e block spare i)) in
    let fixed : are_fixed (written e) ≡ true = refl in
    let read : record { block = half_at (written e) 2; spare = half_at (written e) 4 } ≡ e = same_entry _ e (omega arith) (omega arith) in
    cond-true (are_whole 8 (written e) && are_fixed (written e)) _ _ (and_from _ _ whole fixed) ∙ ap (λ (x : Entry). Some x) read
  where
    same_entry : (x y : Entry) → x.block ≡ y.block → x.spare ≡ y.spare → x ≡ y
    same_entry x y b s = λ i. record { block = b i; spare = s i }

-- a slot whose first byte is erased holds none
pub no_entry : (bytes : List ℕ) → get_or bytes 0 0 ≡ 255 → entry_in bytes ≡ None
unfolding entry_in
no_entry bytes is =
    let other : (byte_at bytes 0 == 0x42) ≡ false = ap (λ (b : ℕ). b == 0x42) is in
    cond-false (are_whole 8 bytes && are_fixed bytes) _ _ (and_right (are_whole 8 bytes) _ (and_left _ _ other))

-- Bytes that are nowhere below those of an entry are these, or hold none.
pub torn_entry : (e : Entry) → e.block < 65536 → e.spare < 65536 → (bytes : List ℕ) → length bytes ≡ 16
    → ((k : ℕ) → k < 16 → get_or (written e) k 0 ≤ get_or bytes k 0) → (entry_in bytes ≡ None) ⊎ (entry_in bytes ≡ Some e)
unfolding entry_in
torn_entry e block spare bytes size above = ⊎_elim whole torn (cases_Bool (are_whole 8 bytes))
  where
    whole : are_whole 8 bytes ≡ true → (entry_in bytes ≡ None) ⊎ (entry_in bytes ≡ Some e)
    whole is =
        let same : bytes ≡ written e = whole_pairs (spelled e) bytes (λ i lt. spelled_fits e block spare i) size above (whole_each 8 bytes is) in
        inr (ap entry_in same ∙ entry_of-written e block spare)

    torn : are_whole 8 bytes ≡ false → (entry_in bytes ≡ None) ⊎ (entry_in bytes ≡ Some e)
    torn is = inl (cond-false (are_whole 8 bytes && are_fixed bytes) _ _ (and_left _ _ is))
