-- An image that is put piece by piece.
use Rattle.std.proofs.Common.{◌≡◌, ℕ, zero, suc, ◌+◌, ◌≤◌, List, [], ◌∷◌, ◌++◌, take, drop, refl, sym, ◌∙◌, ap, subst, arith, ◌-◌, length-append}
use Rattle.std.proofs.lemmas.List.{take-append-le}
use Rattle.std.specs.Prelude.{Option, Result, Ok, Err, OnErr}
use Rattle.ssu_io.specs.Bytes.{Gains, GainsPrefix}
use Rattle.ssu_io.proofs.BytesLemmas.{Gains_join, GainsPrefix_join}
use Rattle.flash_bank.specs.Find.{Finds}
use Rattle.flash_layout.specs.Layout.{Geometry}
use Rattle.flash_layout.specs.Pairs.{part}
use Rattle.flash_bank.specs.Sound.{BootOf, boot_of}
use Rattle.flash_bank.specs.declared.find.Current.{Current}

take-plus : (l : List ℕ) (a b n : ℕ) → n ≡ a + b → take n l ≡ take a l ++ take b (drop a l)
take-plus l zero b n is = let same : n ≡ b = omega arith in ap (λ (m : ℕ). take m l) same
take-plus [] (suc a) b zero is = absurd (omega arith)
take-plus [] (suc a) zero (suc n) is = refl
take-plus [] (suc a) (suc b) (suc n) is = refl
take-plus (x ∷ l) (suc a) b zero is = absurd (omega arith)
take-plus (x ∷ l) (suc a) b (suc n) is = ap (λ (t : List ℕ). x ∷ t) (take-plus l a b n (omega arith))

drop_none : (l : List ℕ) (n : ℕ) → l ≡ [] → drop n l ≡ []
drop_none [] zero is = refl
drop_none [] (suc n) is = refl
drop_none (x ∷ l) n is = absurd (cc is)

-- a part is its front and the part behind that
pub part-plus : (c : List ℕ) (at a b n : ℕ) → n ≡ a + b → part c at n ≡ part c at a ++ part c (at + a) b
part-plus c at a b n is = take-plus (drop at c) a b n is ∙ ap (λ (l : List ℕ). part c at a ++ take b l) (drop_again c at a)
  where
    drop_again : (c : List ℕ) (at a : ℕ) → drop a (drop at c) ≡ drop (at + a) c
    drop_again c zero a = let same : a ≡ zero + a = omega arith in ap (λ (m : ℕ). drop m c) same
    drop_again [] (suc at) a = drop_none [] a refl ∙ sym (drop_none [] (suc at + a) refl)
    drop_again (x ∷ c) (suc at) a = let same : suc at + a ≡ suc (at + a) = omega arith in drop_again c at a ∙ ap (λ (m : ℕ). drop m (x ∷ c)) (sym same)

-- one piece more is put
pub piece_put : (c : List ℕ) (place done n : ℕ) (first second third : Option (List ℕ)) → Gains first second (part c place done) → Gains second third (part c (place + done) n) → Gains first third (part c place (done + n))
piece_put c place done n first second third so_far here =
    subst (Gains first third) (sym (part-plus c place done n (done + n) refl)) (Gains_join first second third (part c place done) (part c (place + done) n) so_far here)

-- a prefix of a front is a prefix
prefix_more : (before after : Option (List ℕ)) (front rest : List ℕ) → GainsPrefix before after front → GainsPrefix before after (front ++ rest)
prefix_more before after front rest (n, within, gains) =
    (n, omega (arith, length-append front rest), subst (Gains before after) (sym (take-append-le n front rest within)) gains)

-- or a prefix of it
pub prefix_put : (c : List ℕ) (place done n len : ℕ) (first second third : Option (List ℕ)) → done + n ≤ len
    → Gains first second (part c place done) → GainsPrefix second third (part c (place + done) n) → GainsPrefix first third (part c place len)
prefix_put c place done n len first second third fits so_far here =
    let joined = GainsPrefix_join first second third (part c place done) (part c (place + done) n) so_far here in
    let whole = subst (GainsPrefix first third) (sym (part-plus c place done n (done + n) refl)) joined in
    let split : part c place len ≡ part c place (done + n) ++ part c (place + (done + n)) (len - (done + n)) = part-plus c place (done + n) (len - (done + n)) len (omega arith) in
    subst (GainsPrefix first third) (sym split) (prefix_more first third (part c place (done + n)) (part c (place + (done + n)) (len - (done + n))) whole)

pub on_err : {T E : Type 0} (r : Result T E) (P : Type 0) → P → OnErr r P
on_err (Ok x) P p = tt
on_err (Err e) P p = p

-- boot takes the record that is found, with its image
pub finds_boot : (g : Geometry) (c : List ℕ) (found : Current) → Finds g c found → BootOf g c (boot_of g c found.head)
finds_boot g c found finds = record { block = found.block; current = finds.current; is = ap (boot_of g c) finds.head }
