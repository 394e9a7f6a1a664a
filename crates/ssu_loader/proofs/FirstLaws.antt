-- What a choice keeps when it begins.
use Rattle.std.proofs.Common.{◌≡◌, ℕ, Bool, true, false, ◌&&◌, List, [], ◌∷◌, Option, Some, None, refl, sym, ap, subst, ◌∙◌, arith}
use Rattle.std.specs.Prelude.{IsSome}
use Rattle.std.specs.Option.{option_and_then, option_or}
use Rattle.std.proofs.lemmas.Slice.Eq.{bytes_eq-Decides}
use Rattle.ts_section.specs.Events.{Heard}
use Rattle.route_tables.specs.Values.{Receiver, same_option}
use Rattle.ssu_group.specs.declared.group_plan.GroupPlan.{GroupPlan}
use Rattle.ssu_group.specs.Carried.{filling, nothing_kept}
use Rattle.ssu_group.proofs.Filling.{filling-none}
use Rattle.ssu_route.specs.declared.change.Change.{Change}
use Rattle.ssu_route.specs.declared.change.Change.TheVariants.{Same, Chosen, Lost}
use Rattle.ssu_route.specs.Choosing.{level_7}
use Rattle.ssu_route.specs.Offers.{dii_of, same_message}
use Rattle.ssu_route.specs.Windows.{beginnings, change_at}
use Rattle.ssu_route.proofs.Choices.{lost_stood, one_more_begins, window_empty}
use Rattle.ssu_route.proofs.Same.{message_sound}
use Rattle.ssu_loader.specs.Opening.{earlier_windows, fills_at, is_within, keeps_at, kept, last_message, places_in, staged_still}
use Rattle.ssu_loader.proofs.ChoiceLaws.{began_before, some_began}
use Rattle.ssu_loader.proofs.KeptLaws.{earlier_step, filled_again, kept_lost, kept_none, kept_same, or_none, staged_step}

-- ---- before the first choice

some_none : {A : Type 0} (o : Option A) → o ≡ None → IsSome o → ⊥
some_none None none some = absurd cc
some_none (Some a) none some = absurd cc

module _ (me : Receiver) where
  none_stood : (heard : List Heard) → beginnings me heard ≡ 0 → level_7 me heard ≡ None
  none_stood heard none = by_level (level_7 me heard) refl
    where
      by_level : (o : Option (List ℕ)) → level_7 me heard ≡ o → level_7 me heard ≡ None
      by_level None e = e
      by_level (Some m) e = let began = some_began me heard (subst IsSome (sym e) refl) in absurd (omega (arith, began, none))

  fewer : (item : Heard) (heard : List Heard) → beginnings me (item ∷ heard) ≡ 0 → beginnings me heard ≡ 0
  fewer item heard none = let more = began_before me item heard (change_at me item heard) refl in omega (arith, more, none)

  last_first : (heard : List Heard) → beginnings me heard ≡ 0 → last_message me heard ≡ me.opening.message
  unfolding last_message
  last_first [] none = refl
  last_first (item ∷ heard) none =
      ap (λ (o : Option (List ℕ)). option_or o (last_message me heard)) (none_stood (item ∷ heard) none) ∙ last_first heard (fewer item heard none)

  staged_at : (item : Heard) (heard : List Heard) → beginnings me (item ∷ heard) ≡ 0 → staged_still me heard ≡ me.opening.staged → (c : Change) → change_at me item heard ≡ c
      → staged_still me (item ∷ heard) ≡ me.opening.staged
  staged_at item heard none before Same e = staged_step me item heard Same (keeps_at me item heard) e refl ∙ before
  staged_at item heard none before Lost e = staged_step me item heard Lost (keeps_at me item heard) e refl ∙ before
  staged_at item heard none before Chosen e = let more = one_more_begins me item heard e in absurd (omega (arith, more, none))

  staged_first : (heard : List Heard) → beginnings me heard ≡ 0 → staged_still me heard ≡ me.opening.staged
  unfolding staged_still
  staged_first [] none = refl
  staged_first (item ∷ heard) none = staged_at item heard none (staged_first heard (fewer item heard none)) (change_at me item heard) refl

  earlier_at : (item : Heard) (heard : List Heard) → beginnings me (item ∷ heard) ≡ 0 → earlier_windows me heard ≡ [] → (c : Change) → change_at me item heard ≡ c → earlier_windows me (item ∷ heard) ≡ []
  earlier_at item heard none before Same e = earlier_step me item heard Same (keeps_at me item heard) e refl ∙ before
  earlier_at item heard none before Lost e = absurd (some_none (level_7 me heard) (none_stood heard (fewer item heard none)) (lost_stood me item heard e))
  earlier_at item heard none before Chosen e = let more = one_more_begins me item heard e in absurd (omega (arith, more, none))

  earlier_first : (heard : List Heard) → beginnings me heard ≡ 0 → earlier_windows me heard ≡ []
  unfolding earlier_windows
  earlier_first [] none = refl
  earlier_first (item ∷ heard) none = earlier_at item heard none (earlier_first heard (fewer item heard none)) (change_at me item heard) refl

  kept_first : (heard : List Heard) (plan : GroupPlan) → beginnings me heard ≡ 0 → kept me heard plan ≡ me.opening.staged
  kept_first heard plan none = (λ i. λ n. at_place n i)
    where
      at_place : (n : ℕ) → kept me heard plan n ≡ me.opening.staged n
      at_place n =
          ap (λ (w : List (List ℕ)). option_or (staged_still me heard n) (filling plan w n)) (earlier_first heard none)
          ∙ ap (option_or (staged_still me heard n)) (filling-none plan n)
          ∙ or_none (staged_still me heard n)
          ∙ (λ i. staged_first heard none i n)

  pub before_first : (heard : List Heard) (plan : GroupPlan) → beginnings me heard ≡ 0 → (last_message me heard ≡ me.opening.message) × (kept me heard plan ≡ me.opening.staged)
  before_first heard plan none = (last_first heard none, kept_first heard plan none)

-- ---- section by section

pub stands_on : (me : Receiver) (item : Heard) (heard : List Heard) (plan : GroupPlan) → change_at me item heard ≡ Same → kept me (item ∷ heard) plan ≡ kept me heard plan
stands_on me item heard plan e = (λ i. λ n. kept_same me item heard plan n e i)

pub ends_with : (me : Receiver) (item : Heard) (heard : List Heard) (plan : GroupPlan) → change_at me item heard ≡ Lost → kept me (item ∷ heard) plan ≡ fills_at me heard plan
ends_with me item heard plan e = (λ i. λ n. kept_lost me item heard plan n e i)

-- ---- a choice begins

both_true : (a b : Bool) → a ≡ true → b ≡ true → (a && b) ≡ true
both_true true b p q = q
both_true false b p q = absurd cc

left_true : (a b : Bool) → (a && b) ≡ true → a ≡ true
left_true true b p = refl
left_true false b p = absurd cc

right_true : (a b : Bool) → (a && b) ≡ true → b ≡ true
right_true true b p = p
right_true false b p = absurd cc

message_itself : (message : List ℕ) → same_message (Some message) (Some message) ≡ true
unfolding same_option
message_itself message = (bytes_eq-Decides message message).1 refl

module _ (me : Receiver) (item : Heard) (heard : List Heard) (message : List ℕ) (now : level_7 me (item ∷ heard) ≡ Some message) where
  abbrev within : Bool
  within = is_within me.opening.most (places_in (dii_of message))

  keeps_is : keeps_at me item heard ≡ (same_message (last_message me heard) (Some message) && within)
  unfolding keeps_at
  keeps_is = (λ i. same_message (last_message me heard) (now i) && is_within me.opening.most (places_in (option_and_then dii_of (now i))))

  pub begins_again : (plan : GroupPlan) → change_at me item heard ≡ Chosen → last_message me heard ≡ Some message → within ≡ true → fills_at me (item ∷ heard) plan ≡ kept me heard plan
  begins_again plan e last fits = (λ i. λ n. filled_again me item heard plan n e keeps i)
    where
      keeps : keeps_at me item heard ≡ true
      keeps =
          keeps_is
          ∙ both_true (same_message (last_message me heard) (Some message)) within
          (ap (λ (o : Option (List ℕ)). same_message o (Some message)) last ∙ message_itself message) fits

  pub begins_anew : (plan : GroupPlan) → change_at me item heard ≡ Chosen → (last_message me heard ≡ Some message → within ≡ true → ⊥) → fills_at me (item ∷ heard) plan ≡ nothing_kept
  begins_anew plan e other = (λ i. λ n. at_place n i)
    where
      by_keeps : (b : Bool) → keeps_at me item heard ≡ b → keeps_at me item heard ≡ false
      by_keeps false f = f
      by_keeps true f =
          let both : (same_message (last_message me heard) (Some message) && within) ≡ true = sym keeps_is ∙ f in
          absurd (other (message_sound (last_message me heard) (Some message) (left_true (same_message (last_message me heard) (Some message)) within both))
          (right_true (same_message (last_message me heard) (Some message)) within both))

      at_place : (n : ℕ) → fills_at me (item ∷ heard) plan n ≡ None
      at_place n =
          ap (λ (w : List (List ℕ)). option_or (kept me (item ∷ heard) plan n) (filling plan w n)) (window_empty me item heard (λ same. let both : Chosen ≡ Same = sym e ∙ same in absurd cc))
          ∙ ap (option_or (kept me (item ∷ heard) plan n)) (filling-none plan n)
          ∙ or_none (kept me (item ∷ heard) plan n)
          ∙ kept_none me item heard plan n e (by_keeps (keeps_at me item heard) refl)
