-- A right section is read in the long form without its CRC: either the CRC is right, or it is in no long form.
use Rattle.std.proofs.Common.{◌≡◌, ℕ, ◌*◌, ◌+◌, ◌/◌, ◌^◌, ◌<◌, Bool, true, false, cond, eqb, fold, List, [], ◌∷◌, ◌++◌, length, get_or, Option, Some, None, inl, inr, refl, sym, ap, ◌∙◌, arith, eqb-true, eq-eqb}
use Rattle.std.proofs.lemmas.Bool.{and_parts}
use Rattle.ts_crc.specs.Crc.{crc_of}
use Rattle.section_form.specs.Long.{LongFields, long_form, unchecked_form, long_head}
use Rattle.section_form.proofs.Exact.{unchecked_form_exact}
use Rattle.section_form.specs.Section.{syntax_indicator, IsTimeAndDate, IsRight}

front_of_one : (front : List ℕ) → length front ≡ 1 → (a : ℕ) × (front ≡ a ∷ [])
front_of_one [] e = absurd (omega arith)
front_of_one (a ∷ []) e = (a, refl)
front_of_one (a ∷ b ∷ more) e = absurd (omega arith)

front_of_two : (front : List ℕ) → length front ≡ 2 → (a : ℕ) × (b : ℕ) × (front ≡ a ∷ b ∷ [])
front_of_two [] e = absurd (omega arith)
front_of_two (a ∷ []) e = absurd (omega arith)
front_of_two (a ∷ b ∷ []) e = (a, b, refl)
front_of_two (a ∷ b ∷ c ∷ more) e = absurd (omega arith)

abbrev AreBytes : List ℕ → Type 0
AreBytes section = (k : ℕ) → get_or section k 0 < 256

-- What is in the long form has section_syntax_indicator 1.
is_set : (section : List ℕ) (f : LongFields) → AreBytes section → unchecked_form.Spells f section → syntax_indicator section ≡ 1
unfolding unchecked_form long_head
is_set section f bytes spelled =
    let pair = spelled.2 in
    let size = pair.second in
    let one = front_of_one pair.front pair.first.0 in
    let two = front_of_two size.front size.len.2.1.0 in
    let parts : section ≡ (one.0 ∷ []) ++ ((two.0 ∷ two.1 ∷ []) ++ size.inside) =
    pair.parts ∙ ap (λ (xs : List ℕ). xs ++ pair.back) one.1 ∙ ap (λ (xs : List ℕ). one.0 ∷ xs) (size.parts ∙ ap (λ (xs : List ℕ). xs ++ size.inside) two.2) in
    let high : get_or section 1 0 ≡ two.0 = ap (λ (xs : List ℕ). get_or xs 1 0) parts in
    let low : get_or section 2 0 ≡ two.1 = ap (λ (xs : List ℕ). get_or xs 2 0) parts in
    let number : (0 * 256 + two.0) * 256 + two.1 ≡ size.len.0 = sym (ap (λ (xs : List ℕ). fold (λ h byte. h * 256 + byte) 0 xs) two.2) ∙ size.len.2.1.1 in
    let set : size.len.0 / 2 ^ 15 ≡ 1 = eqb-true _ _ (and_parts _ _ size.len.2.0).0 in
    let byte = bytes 2 in
    omega (arith, high, low, number, set, byte)

of_time : (section : List ℕ) → AreBytes section → IsTimeAndDate section → unchecked_form.of section ≡ None
of_time section bytes time = by_form (unchecked_form.of section) refl
  where
    by_form : (o : Option LongFields) → unchecked_form.of section ≡ o → o ≡ None
    by_form None e = refl
    by_form (Some f) e =
        let set = is_set section f bytes (unchecked_form_exact.takes section f e) in
        let short = time.short in
        absurd (omega (arith, set, short))

abbrev nothing : Option LongFields
nothing = None

none_either_way : (right : Bool) → cond right nothing nothing ≡ nothing
none_either_way true = refl
none_either_way false = refl

-- What is read without the CRC is what is read with it.
pub right_form : (section : List ℕ) → AreBytes section → IsRight section → unchecked_form.of section ≡ long_form.of section
unfolding long_form
right_form section bytes right = elim right [
  | inl time ↦
      let none = of_time section bytes time in
      none ∙ sym (ap (λ (o : Option LongFields). cond (eqb (crc_of section) 0) o None) none ∙ none_either_way (eqb (crc_of section) 0))
  | inr other ↦
      let zero : crc_of section ≡ 0 = elim other [ inl long ↦ long.crc | inr short ↦ short.crc ] in
      sym (ap (λ (b : Bool). cond b (unchecked_form.of section) None) (eq-eqb (crc_of section) 0 zero))
]
