-- What a choice keeps, section by section. Lists of sections have the newest first.
use Rattle.std.proofs.Common.{◌≡◌, ℕ, Bool, true, false, ◌&&◌, eqb, List, [], ◌∷◌, ◌++◌, Option, Some, None, refl, sym, ap, subst, ◌∙◌}
use Rattle.std.specs.Prelude.{IsSome}
use Rattle.std.specs.Option.{option_and_then, option_or}
use Rattle.std.proofs.lemmas.Bool.{eqb-true, eq-eqb}
use Rattle.ts_section.specs.Events.{Heard}
use Rattle.route_tables.specs.Values.{Receiver}
use Rattle.ssu_group.specs.declared.group_plan.GroupPlan.{GroupPlan}
use Rattle.ssu_group.specs.Carried.{Fills, brings, filling, filling_over, nothing_kept, with_section}
use Rattle.ssu_group.proofs.Filling.{filling-none, filling-step}
use Rattle.ssu_route.specs.declared.change.Change.{Change}
use Rattle.ssu_route.specs.declared.change.Change.TheVariants.{Same, Chosen, Lost}
use Rattle.ssu_route.specs.Choosing.{level_7}
use Rattle.ssu_route.specs.Offers.{dii_of, same_message}
use Rattle.ssu_route.specs.Queries.{carousel_pid}
use Rattle.ssu_route.specs.Windows.{change_at, window}
use Rattle.ssu_route.proofs.Choices.{carousel_stands, chosen_some, level_7-none, lost_none, same_stays, section_joins, section_passes, window_empty}
use Rattle.ssu_loader.specs.Opening.{KeepsNothing, by_change, earlier_windows, fills_at, is_within, keeps_at, kept, last_message, places_in, staged_still}

or_or : {A : Type 0} (a b c : Option A) → option_or (option_or a b) c ≡ option_or a (option_or b c)
or_or None b c = refl
or_or (Some a) b c = refl

pub or_none : {A : Type 0} (a : Option A) → option_or a None ≡ a
or_none None = refl
or_none (Some a) = refl

-- what is filled by the first sections, and by those after them
pub filling_joined : (plan : GroupPlan) (later earlier : List (List ℕ)) (n : ℕ) → filling plan (later ++ earlier) n ≡ option_or (filling plan earlier n) (filling plan later n)
filling_joined plan [] earlier n = sym (ap (option_or (filling plan earlier n)) (filling-none plan n) ∙ or_none (filling plan earlier n))
filling_joined plan (section ∷ later) earlier n =
    filling-step plan section (later ++ earlier) n
    ∙ ap (λ (o : Option (List ℕ)). option_or o (brings plan n section)) (filling_joined plan later earlier n)
    ∙ or_or (filling plan earlier n) (filling plan later n) (brings plan n section)
    ∙ ap (option_or (filling plan earlier n)) (sym (filling-step plan section later n))

-- ---- what is kept, section by section

module _ (me : Receiver) (item : Heard) (heard : List Heard) where
  pub staged_step : (c : Change) (b : Bool) → change_at me item heard ≡ c → keeps_at me item heard ≡ b → staged_still me (item ∷ heard) ≡ by_change c b (staged_still me heard) (staged_still me heard) (λ n. None)
  unfolding staged_still
  staged_step c b e f = (λ i. by_change (e i) (f i) (staged_still me heard) (staged_still me heard) (λ n. None))

  pub earlier_step : (c : Change) (b : Bool) → change_at me item heard ≡ c → keeps_at me item heard ≡ b → earlier_windows me (item ∷ heard) ≡ by_change c b (earlier_windows me heard) (window me heard ++ earlier_windows me heard) []
  unfolding earlier_windows
  earlier_step c b e f = (λ i. by_change (e i) (f i) (earlier_windows me heard) (window me heard ++ earlier_windows me heard) [])

  -- while nothing changes
  pub kept_same : (plan : GroupPlan) (n : ℕ) → change_at me item heard ≡ Same → kept me (item ∷ heard) plan n ≡ kept me heard plan n
  kept_same plan n e =
      let s = staged_step Same (keeps_at me item heard) e refl in
      let w = earlier_step Same (keeps_at me item heard) e refl in
      (λ i. option_or (s i n) (filling plan (w i) n))

  -- where a choice ends, all that it had kept or filled
  pub kept_lost : (plan : GroupPlan) (n : ℕ) → change_at me item heard ≡ Lost → kept me (item ∷ heard) plan n ≡ filling_over (kept me heard plan) plan (window me heard) n
  kept_lost plan n e =
      let s = staged_step Lost (keeps_at me item heard) e refl in
      let w = earlier_step Lost (keeps_at me item heard) e refl in
      (λ i. option_or (s i n) (filling plan (w i) n))
      ∙ ap (option_or (staged_still me heard n)) (filling_joined plan (window me heard) (earlier_windows me heard) n)
      ∙ sym (or_or (staged_still me heard n) (filling plan (earlier_windows me heard) n) (filling plan (window me heard) n))

  -- where one begins with the same message
  pub kept_again : (plan : GroupPlan) (n : ℕ) → change_at me item heard ≡ Chosen → keeps_at me item heard ≡ true → kept me (item ∷ heard) plan n ≡ kept me heard plan n
  kept_again plan n e f =
      let s = staged_step Chosen true e f in
      let w = earlier_step Chosen true e f in
      (λ i. option_or (s i n) (filling plan (w i) n))

  -- where one begins with another
  pub kept_none : (plan : GroupPlan) (n : ℕ) → change_at me item heard ≡ Chosen → keeps_at me item heard ≡ false → kept me (item ∷ heard) plan n ≡ None
  kept_none plan n e f =
      let s = staged_step Chosen false e f in
      let w = earlier_step Chosen false e f in
      (λ i. option_or (s i n) (filling plan (w i) n)) ∙ filling-none plan n

-- ---- a place that is filled stays filled

value_of : {A : Type 0} (o : Option A) → IsSome o → (a : A) × (o ≡ Some a)
value_of None some = absurd cc
value_of (Some a) some = (a, refl)

-- more sections in the window
more_filled : (plan : GroupPlan) (kept : Fills) (section : List ℕ) (window : List (List ℕ)) (n : ℕ) (b : List ℕ) → filling_over kept plan window n ≡ Some b → filling_over kept plan (section ∷ window) n ≡ Some b
more_filled plan kept section window n b e =
    ap (option_or (kept n)) (filling-step plan section window n)
    ∙ sym (or_or (kept n) (filling plan window n) (brings plan n section))
    ∙ ap (λ (o : Option (List ℕ)). option_or o (brings plan n section)) e

-- while the choice stands
pub stays_filled : (me : Receiver) (item : Heard) (heard : List Heard) (plan : GroupPlan) (n : ℕ) (b : List ℕ) → change_at me item heard ≡ Same → IsSome (level_7 me (item ∷ heard))
    → fills_at me heard plan n ≡ Some b → fills_at me (item ∷ heard) plan n ≡ Some b
stays_filled me item heard plan n b e some filled =
    let pid = value_of (carousel_pid me (item ∷ heard)) (carousel_stands me (item ∷ heard) some) in
    ap (λ (o : Option (List ℕ)). option_or o (filling plan (window me (item ∷ heard)) n)) (kept_same me item heard plan n e) ∙ by_pid pid.0 pid.1 (eqb item.pid pid.0) refl
  where
    by_pid : (pid : ℕ) → carousel_pid me (item ∷ heard) ≡ Some pid → (same : Bool) → eqb item.pid pid ≡ same
        → filling_over (kept me heard plan) plan (window me (item ∷ heard)) n ≡ Some b
    by_pid pid carousel true is =
        ap (λ (w : List (List ℕ)). filling_over (kept me heard plan) plan w n) (section_joins me item heard pid e some carousel (eqb-true item.pid pid is))
        ∙ more_filled plan (kept me heard plan) item.section (window me heard) n b filled
    by_pid pid carousel false is =
        ap (λ (w : List (List ℕ)). filling_over (kept me heard plan) plan w n) (section_passes me item heard pid e some carousel (λ same. let yes : eqb item.pid pid ≡ true = eq-eqb item.pid pid same in absurd cc)) ∙ filled

-- and where it begins again
pub filled_again : (me : Receiver) (item : Heard) (heard : List Heard) (plan : GroupPlan) (n : ℕ) → change_at me item heard ≡ Chosen → keeps_at me item heard ≡ true
    → filling_over (kept me (item ∷ heard) plan) plan (window me (item ∷ heard)) n ≡ kept me heard plan n
filled_again me item heard plan n e f =
    ap (λ (w : List (List ℕ)). filling_over (kept me (item ∷ heard) plan) plan w n) (window_empty me item heard (λ same. let both : Chosen ≡ Same = sym e ∙ same in absurd cc))
    ∙ ap (option_or (kept me (item ∷ heard) plan n)) (filling-none plan n)
    ∙ or_none (kept me (item ∷ heard) plan n)
    ∙ kept_again me item heard plan n e f

-- ---- the choice, section by section

pub fills_joins : (me : Receiver) (item : Heard) (heard : List Heard) (plan : GroupPlan) → change_at me item heard ≡ Same → window me (item ∷ heard) ≡ item.section ∷ window me heard
    → fills_at me (item ∷ heard) plan ≡ with_section plan item.section (fills_at me heard plan)
fills_joins me item heard plan e joins = (λ i. λ n. at_place n i)
  where
    at_place : (n : ℕ) → fills_at me (item ∷ heard) plan n ≡ with_section plan item.section (fills_at me heard plan) n
    at_place n =
        ap (λ (o : Option (List ℕ)). option_or o (filling plan (window me (item ∷ heard)) n)) (kept_same me item heard plan n e)
        ∙ ap (λ (w : List (List ℕ)). option_or (kept me heard plan n) (filling plan w n)) joins
        ∙ ap (option_or (kept me heard plan n)) (filling-step plan item.section (window me heard) n)
        ∙ sym (or_or (kept me heard plan n) (filling plan (window me heard) n) (brings plan n item.section))

pub fills_passes : (me : Receiver) (item : Heard) (heard : List Heard) (plan : GroupPlan) → change_at me item heard ≡ Same → window me (item ∷ heard) ≡ window me heard
    → fills_at me (item ∷ heard) plan ≡ fills_at me heard plan
fills_passes me item heard plan e passes = (λ i. λ n. at_place n i)
  where
    at_place : (n : ℕ) → fills_at me (item ∷ heard) plan n ≡ fills_at me heard plan n
    at_place n =
        ap (λ (o : Option (List ℕ)). option_or o (filling plan (window me (item ∷ heard)) n)) (kept_same me item heard plan n e)
        ∙ ap (λ (w : List (List ℕ)). option_or (kept me heard plan n) (filling plan w n)) passes

-- ---- a group that is not kept

and_no : (a : Bool) → (a && false) ≡ false
and_no true = refl
and_no false = refl

module _ (me : Receiver) (message : List ℕ) (few : is_within me.opening.most (places_in (dii_of message)) ≡ false) where
  not_again : (item : Heard) (heard : List Heard) → level_7 me (item ∷ heard) ≡ Some message → keeps_at me item heard ≡ false
  unfolding keeps_at
  not_again item heard now =
      ap (λ (o : Option (List ℕ)). same_message (last_message me heard) (level_7 me (item ∷ heard)) && is_within me.opening.most (places_in (option_and_then dii_of o))) now
      ∙ ap (λ (b : Bool). same_message (last_message me heard) (level_7 me (item ∷ heard)) && b) few
      ∙ and_no (same_message (last_message me heard) (level_7 me (item ∷ heard)))

  not_kept_at : (item : Heard) (heard : List Heard) (plan : GroupPlan) (n : ℕ) → level_7 me (item ∷ heard) ≡ Some message → (level_7 me heard ≡ Some message → kept me heard plan n ≡ None)
      → (c : Change) → change_at me item heard ≡ c → kept me (item ∷ heard) plan n ≡ None
  not_kept_at item heard plan n now before Same e = kept_same me item heard plan n e ∙ before (sym (same_stays me item heard e) ∙ now)
  not_kept_at item heard plan n now before Chosen e = kept_none me item heard plan n e (not_again item heard now)
  not_kept_at item heard plan n now before Lost e = let none = lost_none me item heard e in absurd cc

  -- Of such a group nothing is kept.
  pub not_kept : (heard : List Heard) (plan : GroupPlan) (n : ℕ) → level_7 me heard ≡ Some message → kept me heard plan n ≡ None
  not_kept [] plan n now = let none = level_7-none me in absurd cc
  not_kept (item ∷ heard) plan n now = not_kept_at item heard plan n now (not_kept heard plan n) (change_at me item heard) refl

  pub not_kept_fills : (heard : List Heard) (plan : GroupPlan) (n : ℕ) → level_7 me heard ≡ Some message → fills_at me heard plan n ≡ filling plan (window me heard) n
  not_kept_fills heard plan n now = ap (λ (o : Option (List ℕ)). option_or o (filling plan (window me heard) n)) (not_kept heard plan n now)

-- ---- where the flash kept nothing

module _ (me : Receiver) (opens : KeepsNothing me) where
  no_keeping : (item : Heard) (heard : List Heard) → keeps_at me item heard ≡ false
  unfolding keeps_at
  no_keeping item heard =
      ap (λ (m : Option ℕ). same_message (last_message me heard) (level_7 me (item ∷ heard)) && is_within m (places_in (option_and_then dii_of (level_7 me (item ∷ heard))))) (λ i. (opens i).most)
      ∙ and_no (same_message (last_message me heard) (level_7 me (item ∷ heard)))

  no_step : (c : Change) (b : Bool) (before : Fills) (n : ℕ) → before n ≡ None → by_change c b before before (λ k. None) n ≡ None
  no_step Same b before n none = none
  no_step Lost b before n none = none
  no_step Chosen true before n none = none
  no_step Chosen false before n none = refl

  no_staged : (heard : List Heard) (n : ℕ) → staged_still me heard n ≡ None
  unfolding staged_still
  no_staged [] n = (λ i. (opens i).staged n)
  no_staged (item ∷ heard) n = no_step (change_at me item heard) (keeps_at me item heard) (staged_still me heard) n (no_staged heard n)

  none_earlier_at : (item : Heard) (heard : List Heard) → (IsSome (level_7 me heard) → earlier_windows me heard ≡ []) → IsSome (level_7 me (item ∷ heard)) → (c : Change) → change_at me item heard ≡ c
      → earlier_windows me (item ∷ heard) ≡ []
  none_earlier_at item heard before some Same e = earlier_step me item heard Same (keeps_at me item heard) e refl ∙ before (subst IsSome (same_stays me item heard e) some)
  none_earlier_at item heard before some Chosen e = earlier_step me item heard Chosen false e (no_keeping item heard)
  none_earlier_at item heard before some Lost e = let none = lost_none me item heard e in absurd cc

  -- no choice had the message of the one that stands
  none_earlier : (heard : List Heard) → IsSome (level_7 me heard) → earlier_windows me heard ≡ []
  unfolding earlier_windows
  none_earlier [] some = refl
  none_earlier (item ∷ heard) some = none_earlier_at item heard (none_earlier heard) some (change_at me item heard) refl

  -- a choice has what its window fills, and nothing else
  pub window_alone : (heard : List Heard) (plan : GroupPlan) → IsSome (level_7 me heard) → fills_at me heard plan ≡ filling plan (window me heard)
  window_alone heard plan some = (λ i. λ n. at_place n i)
    where
      at_place : (n : ℕ) → fills_at me heard plan n ≡ filling plan (window me heard) n
      at_place n =
          ap (λ (o : Option (List ℕ)). option_or (option_or o (filling plan (earlier_windows me heard) n)) (filling plan (window me heard) n)) (no_staged heard n)
          ∙ ap (λ (w : List (List ℕ)). option_or (filling plan w n) (filling plan (window me heard) n)) (none_earlier heard some)
          ∙ ap (λ (o : Option (List ℕ)). option_or o (filling plan (window me heard) n)) (filling-none plan n)

  -- and it begins with nothing
  pub begins_empty : (item : Heard) (heard : List Heard) (plan : GroupPlan) → change_at me item heard ≡ Chosen → fills_at me (item ∷ heard) plan ≡ nothing_kept
  begins_empty item heard plan e =
      window_alone (item ∷ heard) plan (chosen_some me item heard e)
      ∙ ap (filling plan) (window_empty me item heard (λ same. let both : Chosen ≡ Same = sym e ∙ same in absurd cc))
      ∙ (λ i. λ n. filling-none plan n i)
