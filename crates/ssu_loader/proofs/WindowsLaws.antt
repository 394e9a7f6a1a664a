-- What the choices have where nothing was staged at the opening, and what the first of them has where its message was.
use Rattle.std.proofs.Common.{◌≡◌, ◌⊎◌, inl, inr, ⊎_elim, ℕ, Bool, true, false, ◌&&◌, List, [], ◌∷◌, ◌++◌, Option, Some, None, refl, sym, ap, subst, ◌∙◌, arith}
use Rattle.std.specs.Prelude.{IsSome}
use Rattle.std.specs.Option.{option_or}
use Rattle.bank_kept.specs.Contents.{StagesGroup, StagesPlace}
use Rattle.flash_bank.specs.Sound.{Boot, BootOf}
use Rattle.flash_layout.specs.Layout.{Geometry, IsInLimits}
use Rattle.ts_section.specs.Events.{Heard}
use Rattle.route_tables.specs.Values.{Opening, Receiver}
use Rattle.ssu_group.specs.Carried.{filling}
use Rattle.ssu_group.specs.declared.group_plan.GroupPlan.{GroupPlan}
use Rattle.ssu_route.specs.declared.change.Change.{Change}
use Rattle.ssu_route.specs.declared.change.Change.TheVariants.{Same, Chosen, Lost}
use Rattle.ssu_route.specs.Choosing.{level_7}
use Rattle.ssu_route.specs.Offers.{dii_of, same_message}
use Rattle.ssu_route.specs.Windows.{beginnings, change_at, window}
use Rattle.ssu_route.proofs.Choices.{chosen_some, level_7-none, lost_none, none_begins, one_more_begins, same_stays}
use Rattle.ssu_route.proofs.Same.{message_sound}
use Rattle.ssu_loader.specs.Opening.{earlier_windows, fills_at, is_within, keeps_at, last_message, opening_of, places_in, staged_still}
use Rattle.ssu_loader.proofs.FirstLaws.{before_first, begins_again}
use Rattle.ssu_loader.proofs.KeptLaws.{filling_joined, staged_step, stays_filled}
use Rattle.ssu_loader.proofs.LastLaws.{last_lost, last_same, last_stands}
use Rattle.ssu_loader.proofs.OpenedLaws.{group_opened, most_opened, place_opened}

left_true : (a b : Bool) → (a && b) ≡ true → a ≡ true
left_true true b e = refl
left_true false b e = absurd cc

value_of : {A : Type 0} (o : Option A) → IsSome o → (a : A) × (o ≡ Some a)
value_of None some = absurd cc
value_of (Some a) some = (a, refl)

-- ---- where nothing was staged at the opening

module _ (me : Receiver) (nothing : me.opening.message ≡ None) where
  -- before the first choice, or since
  abbrev IsGone : List Heard → Type 0
  IsGone heard = (last_message me heard ≡ None) ⊎ ((n : ℕ) → staged_still me heard n ≡ None)

  same_last : (item : Heard) (heard : List Heard) → keeps_at me item heard ≡ true → last_message me heard ≡ level_7 me (item ∷ heard)
  unfolding keeps_at
  same_last item heard keeps = message_sound (last_message me heard) (level_7 me (item ∷ heard)) (left_true (same_message (last_message me heard) (level_7 me (item ∷ heard))) _ keeps)

  gone_after : (item : Heard) (heard : List Heard) → IsGone heard → (c : Change) → change_at me item heard ≡ c → IsGone (item ∷ heard)
  gone_after item heard before Same e =
      ⊎_elim (λ none. inl (last_same me item heard e ∙ none))
      (λ gone. inr (λ n. (λ i. staged_step me item heard Same (keeps_at me item heard) e refl i n) ∙ gone n)) before
  gone_after item heard before Lost e =
      ⊎_elim (λ none. inl (last_lost me item heard e ∙ none))
      (λ gone. inr (λ n. (λ i. staged_step me item heard Lost (keeps_at me item heard) e refl i n) ∙ gone n)) before
  gone_after item heard before Chosen e = by_keeps (keeps_at me item heard) refl
    where
      by_keeps : (b : Bool) → keeps_at me item heard ≡ b → IsGone (item ∷ heard)
      by_keeps false f = inr (λ n. (λ i. staged_step me item heard Chosen false e f i n))
      by_keeps true f =
          let some = value_of (level_7 me (item ∷ heard)) (chosen_some me item heard e) in
          let last : last_message me heard ≡ Some some.0 = same_last item heard f ∙ some.1 in
          ⊎_elim (λ none. let both : None ≡ Some some.0 = sym none ∙ last in absurd cc)
          (λ gone. inr (λ n. (λ i. staged_step me item heard Chosen true e f i n) ∙ gone n)) before

  gone : (heard : List Heard) → IsGone heard
  unfolding last_message
  gone [] = inl nothing
  gone (item ∷ heard) = gone_after item heard (gone heard) (change_at me item heard) refl

  gone_where_one_stands : (heard : List Heard) → IsSome (level_7 me heard) → (n : ℕ) → staged_still me heard n ≡ None
  gone_where_one_stands heard some =
      let message = value_of (level_7 me heard) some in
      ⊎_elim (λ none. let both : None ≡ Some message.0 = sym none ∙ last_stands me heard message.0 message.1 in absurd cc) (λ gone. gone) (gone heard)

  pub windows_alone : (heard : List Heard) (plan : GroupPlan) → IsSome (level_7 me heard) → fills_at me heard plan ≡ filling plan (window me heard ++ earlier_windows me heard)
  windows_alone heard plan some = (λ i. λ n. at_place n i)
    where
      at_place : (n : ℕ) → fills_at me heard plan n ≡ filling plan (window me heard ++ earlier_windows me heard) n
      at_place n =
          ap (λ (o : Option (List ℕ)). option_or (option_or o (filling plan (earlier_windows me heard) n)) (filling plan (window me heard) n)) (gone_where_one_stands heard some n)
          ∙ sym (filling_joined plan (window me heard) (earlier_windows me heard) n)

-- ---- where the message of the first choice was staged at the opening

module _ (me : Receiver) (message : List ℕ) (plan : GroupPlan) (n : ℕ) (bytes : List ℕ) (own : me.opening.message ≡ Some message) (has : me.opening.staged n ≡ Some bytes)
    (within : is_within me.opening.most (places_in (dii_of message)) ≡ true) where
  first_step : (item : Heard) (heard : List Heard)
      → (beginnings me heard ≡ 1 → level_7 me heard ≡ Some message → fills_at me heard plan n ≡ Some bytes)
      → beginnings me (item ∷ heard) ≡ 1 → level_7 me (item ∷ heard) ≡ Some message → (c : Change) → change_at me item heard ≡ c → fills_at me (item ∷ heard) plan n ≡ Some bytes
  first_step item heard before one stands Lost e = let both : None ≡ Some message = sym (lost_none me item heard e) ∙ stands in absurd cc
  first_step item heard before one stands Chosen e =
      let more = one_more_begins me item heard e in
      let first = before_first me heard plan (omega (arith, more, one)) in
      let again = begins_again me item heard message stands plan e (first.0 ∙ own) within in
      (λ i. again i n) ∙ (λ i. first.1 i n) ∙ has
  first_step item heard before one stands Same e =
      let stood = sym (same_stays me item heard e) ∙ stands in
      stays_filled me item heard plan n bytes e (subst IsSome (sym stands) refl) (before (same_count item heard one e) stood)
    where
      same_count : (item : Heard) (heard : List Heard) → beginnings me (item ∷ heard) ≡ 1 → change_at me item heard ≡ Same → beginnings me heard ≡ 1
      same_count item heard one e = sym (none_begins me item heard (λ chosen. let both : Same ≡ Chosen = sym e ∙ chosen in absurd cc)) ∙ one

  first_has : (heard : List Heard) → beginnings me heard ≡ 1 → level_7 me heard ≡ Some message → fills_at me heard plan n ≡ Some bytes
  first_has [] one stands = let both : None ≡ Some message = sym (level_7-none me) ∙ stands in absurd cc
  first_has (item ∷ heard) one stands = first_step item heard (first_has heard) one stands (change_at me item heard) refl

pub first_choice_has : (g : Geometry) (x : List ℕ) (b : Boot) → IsInLimits g → BootOf g x b → (me : Receiver) → me.opening ≡ opening_of true g b.head x → (heard : List Heard) (message : List ℕ)
    → beginnings me heard ≡ 1 → level_7 me heard ≡ Some message → (plan : GroupPlan) (n : ℕ) (bytes : List ℕ) → StagesPlace g x message n bytes → fills_at me heard plan n ≡ Some bytes
first_choice_has g x b limits boots me opens heard message one stands plan n bytes staged =
    let group : StagesGroup g x message staged.staged.dii = record { area = staged.area; spare = staged.spare; staged = staged.staged.staged } in
    first_has me message plan n bytes
    (ap (λ (o : Opening). o.message) opens ∙ group_opened g x b limits boots message staged.staged.dii group)
    (ap (λ (o : Opening). o.staged n) opens ∙ place_opened g x b limits boots message n bytes staged)
    (ap (λ (o : Opening). is_within o.most (places_in (dii_of message))) opens ∙ most_opened g x b limits boots message staged.staged.dii group)
    heard one stands
