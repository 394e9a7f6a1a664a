-- What a section brings to the places of a plan, and what is staged then.
use Rattle.std.proofs.Common.{◌≡◌, ◌≢◌, ℕ, ◌<◌, Bool, true, false, cond, eqb, List, [], Option, Some, None, refl, sym, ap, ◌∙◌}
use Rattle.std.specs.Prelude.{is_some, unwrap_or}
use Rattle.std.specs.Option.{option_or}
use Rattle.std.proofs.lemmas.Bool.{eqb-true, eq-eqb}
use Rattle.dsmcc_msg.specs.Block.{DdbFields, ddb}
use Rattle.ssu_group.specs.declared.places.Place.{Place}
use Rattle.ssu_group.specs.declared.group_plan.GroupPlan.{GroupPlan}
use Rattle.ssu_group.specs.Place.{place_of}
use Rattle.ssu_group.specs.Carried.{Fills, brings, with_section}
use Rattle.ssu_group.proofs.Filling.{brings_place}

-- ---- a section that brings nothing

step : (plan : GroupPlan) (section : List ℕ) (fills : Fills) (n : ℕ) → with_section plan section fills n ≡ option_or (fills n) (brings plan n section)
step plan section fills n = refl

or_none : {A : Type 0} (o : Option A) → option_or o None ≡ o
or_none None = refl
or_none (Some a) = refl

-- a section that fills no place
pub filling_same : (plan : GroupPlan) (fills : Fills) (section : List ℕ) → ((n : ℕ) → brings plan n section ≡ None) → (n : ℕ)
    → with_section plan section fills n ≡ fills n
filling_same plan fills section nothing n =
    step plan section fills n ∙ ap (option_or (fills n)) (nothing n) ∙ or_none (fills n)

-- ---- a block that fills a place

module _ (plan : GroupPlan) (section : List ℕ) (d : DdbFields) (p : Place) (read : ddb.of section ≡ Some d) (placed : place_of plan d ≡ Some p) where
  own : (n : ℕ) → eqb p.number n ≡ true → brings plan n section ≡ Some d.bytes
  own n is = brings_place plan n section d p read placed ∙ ap (λ (b : Bool). cond b (Some d.bytes) None) is

  other : (n : ℕ) → eqb p.number n ≡ false → brings plan n section ≡ None
  other n is = brings_place plan n section d p read placed ∙ ap (λ (b : Bool). cond b (Some d.bytes) None) is

  differs : (n : ℕ) → eqb p.number n ≡ false → n ≢ p.number
  differs n is same = let yes : eqb p.number n ≡ true = eq-eqb p.number n (sym same) in cc

  some_or : (o : Option (List ℕ)) → is_some (option_or o (Some d.bytes)) ≡ true
  some_or None = refl
  some_or (Some b) = refl

  -- the places that are staged
  pub has_more : (has has' : ℕ → Bool) (fills : Fills) → has' p.number ≡ true → ((n : ℕ) → n ≢ p.number → has' n ≡ has n)
      → ((n : ℕ) → n < plan.places → has n ≡ is_some (fills n)) → (n : ℕ) → n < plan.places → has' n ≡ is_some (with_section plan section fills n)
  has_more has has' fills added others filled n below = by_number (eqb p.number n) refl
    where
      by_number : (same : Bool) → eqb p.number n ≡ same → has' n ≡ is_some (with_section plan section fills n)
      by_number true is =
          ap has' (sym (eqb-true p.number n is)) ∙ added
          ∙ sym (ap is_some (step plan section fills n) ∙ ap (λ (o : Option (List ℕ)). is_some (option_or (fills n) o)) (own n is) ∙ some_or (fills n))
      by_number false is =
          others n (differs n is) ∙ filled n below
          ∙ sym (ap is_some (step plan section fills n) ∙ ap (λ (o : Option (List ℕ)). is_some (option_or (fills n) o)) (other n is) ∙ ap is_some (or_none (fills n)))

  -- where others may be
  pub includes_more : (has has' : ℕ → Bool) (fills : Fills) → has' p.number ≡ true → ((n : ℕ) → n ≢ p.number → has' n ≡ has n)
      → ((n : ℕ) → n < plan.places → is_some (fills n) ≡ true → has n ≡ true)
      → (n : ℕ) → n < plan.places → is_some (with_section plan section fills n) ≡ true → has' n ≡ true
  includes_more has has' fills added others includes n below some = by_number (eqb p.number n) refl
    where
      by_number : (same : Bool) → eqb p.number n ≡ same → has' n ≡ true
      by_number true is = ap has' (sym (eqb-true p.number n is)) ∙ added
      by_number false is =
          let same : with_section plan section fills n ≡ fills n =
          step plan section fills n ∙ (ap (λ (o : Option (List ℕ)). option_or (fills n) o) (other n is) ∙ or_none (fills n)) in
          others n (differs n is) ∙ includes n below (ap is_some (sym same) ∙ some)

  -- and their bytes
  pub text_more : (has : ℕ → Bool) (text text' : ℕ → List ℕ) (fills : Fills) → (has p.number ≡ false → text' p.number ≡ d.bytes) → ((n : ℕ) → has n ≡ true → text' n ≡ text n)
      → ((n : ℕ) → n < plan.places → has n ≡ is_some (fills n)) → ((n : ℕ) (b : List ℕ) → n < plan.places → fills n ≡ Some b → text n ≡ b)
      → (n : ℕ) (b : List ℕ) → n < plan.places → with_section plan section fills n ≡ Some b → text' n ≡ b
  text_more has text text' fills new_text old_text filled holds n b below e = by_filling (fills n) refl (sym (step plan section fills n) ∙ e)
    where
      by_number : (same : Bool) → eqb p.number n ≡ same → brings plan n section ≡ Some b → has n ≡ false → text' n ≡ b
      by_number true is brought was =
          let number : p.number ≡ n = eqb-true p.number n is in
          let same : d.bytes ≡ b = let h = own n is in cc in
          ap text' (sym number) ∙ new_text (ap has number ∙ was) ∙ same
      by_number false is brought was = let h = other n is in absurd cc

      by_filling : (o : Option (List ℕ)) → fills n ≡ o → option_or (fills n) (brings plan n section) ≡ Some b → text' n ≡ b
      by_filling (Some x) is g =
          let same : x ≡ b = let h : option_or (Some x) (brings plan n section) ≡ Some b = ap (λ (o : Option (List ℕ)). option_or o (brings plan n section)) (sym is) ∙ g in cc in
          old_text n (filled n below ∙ ap is_some is) ∙ holds n x below is ∙ same
      by_filling None is g =
          let h : option_or None (brings plan n section) ≡ Some b = ap (λ (o : Option (List ℕ)). option_or o (brings plan n section)) (sym is) ∙ g in
          by_number (eqb p.number n) refl h (filled n below ∙ ap is_some is)

-- ---- what stands once no place is missing

value_of : (o : Option (List ℕ)) → is_some o ≡ true → (b : List ℕ) × (o ≡ Some b)
value_of None h = absurd cc
value_of (Some b) h = (b, refl)

-- the text of a place that is filled
pub text_filled : (plan : GroupPlan) (fills : Fills) (text : ℕ → List ℕ) → ((n : ℕ) (b : List ℕ) → n < plan.places → fills n ≡ Some b → text n ≡ b)
    → (n : ℕ) → n < plan.places → is_some (fills n) ≡ true → text n ≡ unwrap_or (fills n) []
text_filled plan fills text holds n below is =
    let some = value_of (fills n) is in
    holds n some.0 below some.1 ∙ sym (ap (λ (o : Option (List ℕ)). unwrap_or o []) some.1)

-- the places that are staged include those that are filled
pub filled_includes : (plan : GroupPlan) (has : ℕ → Bool) (fills : Fills) → ((n : ℕ) → n < plan.places → has n ≡ is_some (fills n))
    → (n : ℕ) → n < plan.places → is_some (fills n) ≡ true → has n ≡ true
filled_includes plan has fills filled n below some = filled n below ∙ some
