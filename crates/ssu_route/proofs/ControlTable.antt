-- What does not begin with the table_id of the control messages is none.
use Rattle.std.proofs.Common.{◌≡◌, ℕ, ◌++◌, eqb, true, false, List, [], ◌∷◌, length, Option, Some, None, get_or, refl, ap, ◌∙◌, sym, arith}
use Rattle.std.proofs.lemmas.Bool.{eqb-true}
use Rattle.wire.specs.Format.{IsPair}
use Rattle.wire.specs.Number.{number, number_of}
use Rattle.section_form.specs.Long.{LongFields, long_form, unchecked_form}
use Rattle.dsmcc_msg.specs.Control.{DiiFields, DsiFields, dii, dsi}
use Rattle.dsmcc_msg.proofs.Exact.{dii_exact, dsi_exact}

-- the first byte of a section in the long form is its table_id
of_one_byte : (front back section : List ℕ) (n : ℕ) → section ≡ front ++ back → length front ≡ 1 → number_of front ≡ n → get_or section 0 0 ≡ n
of_one_byte [] back section n e one is = absurd (omega arith)
of_one_byte (b ∷ []) back section n e one is = let same : b ≡ n = omega (arith, is) in rw (e, same) refl
of_one_byte (b ∷ c ∷ front) back section n e one is = absurd (omega arith)

pair_begins : (S : List ℕ → Type 0) (section : List ℕ) (n : ℕ) → IsPair ((number 1).Spells n) S section → get_or section 0 0 ≡ n
pair_begins S section n p = of_one_byte p.front p.back section n p.parts p.first.0 p.first.1

table_first : (f : LongFields) (section : List ℕ) (n : ℕ) → eqb f.table n ≡ true → long_form.Spells f section → get_or section 0 0 ≡ n
unfolding long_form unchecked_form
table_first f section n is s =
    pair_begins _ section s.1.0.0 s.1.2 ∙ ap (λ (g : LongFields). g.table) s.1.1 ∙ eqb-true _ _ is

differs : (section : List ℕ) → eqb (get_or section 0 0) 59 ≡ false → get_or section 0 0 ≡ 59 → false ≡ true
differs section e same = sym e ∙ ap (λ n. eqb n 59) same

pub no_dsi : (section : List ℕ) → eqb (get_or section 0 0) 59 ≡ false → dsi.of section ≡ None
unfolding dsi
no_dsi section e = by_reading (dsi.of section) refl
  where
    by_reading : (o : Option DsiFields) → dsi.of section ≡ o → o ≡ None
    by_reading None h = refl
    by_reading (Some d) h =
        let s = dsi_exact.takes section d h in
        let f = differs section e (table_first s.0.0 section 59 s.2.0.0 s.2.0.1) in cc

pub no_dii : (section : List ℕ) → eqb (get_or section 0 0) 59 ≡ false → dii.of section ≡ None
unfolding dii
no_dii section e = by_reading (dii.of section) refl
  where
    by_reading : (o : Option DiiFields) → dii.of section ≡ o → o ≡ None
    by_reading None h = refl
    by_reading (Some d) h =
        let s = dii_exact.takes section d h in
        let f = differs section e (table_first s.0.0 section 59 s.2.0.0 s.2.0.1) in cc
