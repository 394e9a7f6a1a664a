-- Where the bytes of a choice come from: they were staged at the opening, or heard, under its message.
use Rattle.std.proofs.Common.{◌≡◌, ◌⊎◌, inl, inr, ℕ, ◌≤◌, Bool, true, false, ◌&&◌, List, [], ◌∷◌, ◌++◌, Option, Some, None, refl, sym, ap, ◌∙◌, arith}
use Rattle.std.specs.Prelude.{Contains, IsSome, if◌then◌else◌, nat_le}
use Rattle.std.specs.Option.{option_and_then, option_or}
use Rattle.std.proofs.lemmas.Bool.{leb-true}
use Rattle.dsmcc_msg.specs.Control.{DiiFields}
use Rattle.ts_section.specs.Events.{Heard}
use Rattle.route_tables.specs.Values.{Receiver}
use Rattle.ssu_group.specs.Carried.{brings, filling}
use Rattle.ssu_group.specs.Lays.{IsPlanOf}
use Rattle.ssu_group.specs.declared.group_plan.GroupPlan.{GroupPlan}
use Rattle.ssu_group.proofs.Filling.{filling-none, filling-step}
use Rattle.ssu_route.specs.Choosing.{level_7}
use Rattle.ssu_route.specs.Offers.{dii_of, same_message}
use Rattle.ssu_route.specs.Windows.{beginnings, change_at, chosen_dii, standing, window}
use Rattle.ssu_route.specs.declared.change.Change.{Change}
use Rattle.ssu_route.specs.declared.change.Change.TheVariants.{Same, Chosen, Lost}
use Rattle.ssu_route.specs.declared.choice.Choice.{Choice}
use Rattle.ssu_route.proofs.Choices.{chosen_some, level_7-none, lost_none, lost_stood, same_stays}
use Rattle.ssu_route.proofs.Same.{message_sound}
use Rattle.ssu_loader.specs.Decisions.{IsStanding}
use Rattle.ssu_loader.specs.Life.{HeardUnder, WasStaged}
use Rattle.ssu_loader.specs.Opening.{earlier_windows, fills_at, is_within, keeps_at, kept, last_message, places_in, staged_still}
use Rattle.ssu_loader.proofs.AmongLaws.{here, there}
use Rattle.ssu_loader.proofs.ChoiceLaws.{began_before}
use Rattle.ssu_loader.proofs.DecisionLaws.{standing_is}
use Rattle.ssu_loader.proofs.KeptLaws.{kept_again, kept_lost, kept_none, kept_same, or_none}

value_of : {A : Type 0} (o : Option A) → IsSome o → (a : A) × (o ≡ Some a)
value_of None some = absurd cc
value_of (Some a) some = (a, refl)

either_way : {A : Type 0} (k f : Option A) (b : A) → option_or k f ≡ Some b → (k ≡ Some b) ⊎ (f ≡ Some b)
either_way None f b e = inr e
either_way (Some x) f b e = inl e

and_left : (a b : Bool) → (a && b) ≡ true → a ≡ true
and_left true b e = refl
and_left false b e = absurd cc

-- ---- the message of the last choice

last_step : (me : Receiver) (item : Heard) (heard : List Heard) → last_message me (item ∷ heard) ≡ option_or (level_7 me (item ∷ heard)) (last_message me heard)
unfolding last_message
last_step me item heard = refl

or_again : {A : Type 0} (a b : Option A) → option_or a (option_or a b) ≡ option_or a b
or_again None b = refl
or_again (Some a) b = refl

-- where a choice stands, it is its own
pub last_stands : (me : Receiver) (heard : List Heard) (message : List ℕ) → level_7 me heard ≡ Some message → last_message me heard ≡ Some message
last_stands me [] message e = let none = level_7-none me in absurd cc
last_stands me (item ∷ heard) message e = last_step me item heard ∙ ap (λ (o : Option (List ℕ)). option_or o (last_message me heard)) e

own_last : (me : Receiver) (heard : List Heard) → option_or (level_7 me heard) (last_message me heard) ≡ last_message me heard
own_last me [] = ap (λ (o : Option (List ℕ)). option_or o (last_message me [])) (level_7-none me)
own_last me (item ∷ heard) =
    ap (option_or (level_7 me (item ∷ heard))) (last_step me item heard) ∙ or_again (level_7 me (item ∷ heard)) (last_message me heard) ∙ sym (last_step me item heard)

pub last_same : (me : Receiver) (item : Heard) (heard : List Heard) → change_at me item heard ≡ Same → last_message me (item ∷ heard) ≡ last_message me heard
last_same me item heard e =
    last_step me item heard ∙ ap (λ (o : Option (List ℕ)). option_or o (last_message me heard)) (same_stays me item heard e) ∙ own_last me heard

pub last_lost : (me : Receiver) (item : Heard) (heard : List Heard) → change_at me item heard ≡ Lost → last_message me (item ∷ heard) ≡ last_message me heard
last_lost me item heard e = last_step me item heard ∙ ap (λ (o : Option (List ℕ)). option_or o (last_message me heard)) (lost_none me item heard e)

pub last_again : (me : Receiver) (item : Heard) (heard : List Heard) → change_at me item heard ≡ Chosen → keeps_at me item heard ≡ true → last_message me (item ∷ heard) ≡ last_message me heard
unfolding keeps_at
last_again me item heard e keeps =
    let some = value_of (level_7 me (item ∷ heard)) (chosen_some me item heard e) in
    let same = message_sound (last_message me heard) (level_7 me (item ∷ heard))
    (and_left (same_message (last_message me heard) (level_7 me (item ∷ heard))) (is_within me.opening.most (places_in (option_and_then dii_of (level_7 me (item ∷ heard))))) keeps) in
    last_stands me (item ∷ heard) some.0 some.1 ∙ sym some.1 ∙ sym same

-- ---- the section that fills a place

record FilledBy (plan : GroupPlan) (sections : List (List ℕ)) (n : ℕ) (bytes : List ℕ) : Type 0 where
  pub section : List ℕ
  pub own : Contains sections section
  pub fills : brings plan n section ≡ Some bytes

filled_by : (plan : GroupPlan) (sections : List (List ℕ)) (n : ℕ) (bytes : List ℕ) → filling plan sections n ≡ Some bytes → FilledBy plan sections n bytes
filled_by plan [] n bytes e = let none = filling-none plan n in absurd cc
filled_by plan (section ∷ sections) n bytes e =
    by_side (filled_by plan sections n bytes) (either_way (filling plan sections n) (brings plan n section) bytes (sym (filling-step plan section sections n) ∙ e))
  where
    by_side : (filling plan sections n ≡ Some bytes → FilledBy plan sections n bytes) → (filling plan sections n ≡ Some bytes) ⊎ (brings plan n section ≡ Some bytes)
        → FilledBy plan (section ∷ sections) n bytes
    by_side rest (inl before) =
        let r = rest before in
        record { section = r.section; own = there section sections r.section r.own; fills = r.fills }
    by_side rest (inr now) = record { section = section; own = here section sections; fills = now }

-- ---- heard under a message

-- also when more is heard
pub heard_later : (me : Receiver) (later heard : List Heard) (message : List ℕ) (n : ℕ) (bytes : List ℕ) → HeardUnder me heard message n bytes → HeardUnder me (later ++ heard) message n bytes
heard_later me [] heard message n bytes h = h
heard_later me (item ∷ later) heard message n bytes h =
    let rest = heard_later me later heard message n bytes h in
    record {
      later = item ∷ rest.later;
      front = rest.front;
      parts = ap (λ (xs : List Heard). item ∷ xs) rest.parts;
      stands = rest.stands;
      dii = rest.dii;
      reads = rest.reads;
      plan = rest.plan;
      lays = rest.lays;
      section = rest.section;
      own = rest.own;
      fills = rest.fills;
    }

module _ (me : Receiver) (message : List ℕ) (dii : DiiFields) (read : dii_of message ≡ Some dii) (plan : GroupPlan) (lays : IsPlanOf dii plan) (n : ℕ) (b : List ℕ) where
  in_window : (heard : List Heard) → beginnings me heard ≤ 16 → level_7 me heard ≡ Some message → filling plan (window me heard) n ≡ Some b → HeardUnder me heard message n b
  in_window heard few stood fills =
      let by = filled_by plan (window me heard) n b fills in
      record {
        later = [];
        front = heard;
        parts = refl;
        stands = standing_is me heard few ∙ stood;
        dii = dii;
        reads = read;
        plan = plan;
        lays = lays;
        section = by.section;
        own = by.own;
        fills = by.fills;
      }

  later_one : (item : Heard) (heard : List Heard) → WasStaged me message n b ⊎ HeardUnder me heard message n b → WasStaged me message n b ⊎ HeardUnder me (item ∷ heard) message n b
  later_one item heard (inl was) = inl was
  later_one item heard (inr h) = inr (heard_later me (item ∷ []) heard message n b h)

  -- what is kept was staged at the opening, or was heard in the window of a choice with the same message
  kept_origin : (heard : List Heard) → beginnings me heard ≤ 16 → last_message me heard ≡ Some message → kept me heard plan n ≡ Some b → WasStaged me message n b ⊎ HeardUnder me heard message n b
  unfolding staged_still earlier_windows last_message
  kept_origin [] few last k =
      inl (record { own = last; has = sym (ap (option_or (me.opening.staged n)) (filling-none plan n) ∙ or_none (me.opening.staged n)) ∙ k })
  kept_origin (item ∷ heard) few last k = by_change (change_at me item heard) refl (kept_origin heard)
    where
      before : beginnings me heard ≤ 16
      before = let more = began_before me item heard (change_at me item heard) refl in omega (arith, more, few)

      by_change : (c : Change) → change_at me item heard ≡ c
          → (beginnings me heard ≤ 16 → last_message me heard ≡ Some message → kept me heard plan n ≡ Some b → WasStaged me message n b ⊎ HeardUnder me heard message n b)
          → WasStaged me message n b ⊎ HeardUnder me (item ∷ heard) message n b
      by_change Same e rest = later_one item heard (rest before (sym (last_same me item heard e) ∙ last) (sym (kept_same me item heard plan n e) ∙ k))
      by_change Lost e rest = by_side (either_way (kept me heard plan n) (filling plan (window me heard) n) b (sym (kept_lost me item heard plan n e) ∙ k))
        where
          by_side : (kept me heard plan n ≡ Some b) ⊎ (filling plan (window me heard) n ≡ Some b) → WasStaged me message n b ⊎ HeardUnder me (item ∷ heard) message n b
          by_side (inl was) = later_one item heard (rest before (sym (last_lost me item heard e) ∙ last) was)
          by_side (inr now) =
              let some = value_of (level_7 me heard) (lost_stood me item heard e) in
              let own : Some some.0 ≡ Some message = sym (last_stands me heard some.0 some.1) ∙ sym (last_lost me item heard e) ∙ last in
              later_one item heard (inr (in_window heard before (some.1 ∙ own) now))
      by_change Chosen e rest = by_keeps (keeps_at me item heard) refl
        where
          by_keeps : (keeps : Bool) → keeps_at me item heard ≡ keeps → WasStaged me message n b ⊎ HeardUnder me (item ∷ heard) message n b
          by_keeps true f = later_one item heard (rest before (sym (last_again me item heard e f) ∙ last) (sym (kept_again me item heard plan n e f) ∙ k))
          by_keeps false f = let none = kept_none me item heard plan n e f in absurd (let both : None ≡ Some b = sym none ∙ k in cc)

  filled_origin : (heard : List Heard) → beginnings me heard ≤ 16 → level_7 me heard ≡ Some message → fills_at me heard plan n ≡ Some b
      → WasStaged me message n b ⊎ HeardUnder me heard message n b
  filled_origin heard few stood e = by_side (either_way (kept me heard plan n) (filling plan (window me heard) n) b e)
    where
      by_side : (kept me heard plan n ≡ Some b) ⊎ (filling plan (window me heard) n ≡ Some b) → WasStaged me message n b ⊎ HeardUnder me heard message n b
      by_side (inl was) = kept_origin heard few (last_stands me heard message stood) was
      by_side (inr now) = inr (in_window heard few stood now)

-- ---- a choice that stands

-- At most sixteen began, and its message is the value of level 7.
stands_by : (few : Bool) (o : Option (List ℕ)) (message : List ℕ) → (if few then o else None) ≡ Some message → (few ≡ true) × (o ≡ Some message)
stands_by true o message e = (refl, e)
stands_by false o message e = absurd cc

pub stands_few : (me : Receiver) (heard : List Heard) (message : List ℕ) → standing me heard ≡ Some message → (beginnings me heard ≤ 16) × (level_7 me heard ≡ Some message)
unfolding standing
stands_few me heard message e =
    let by = stands_by (nat_le (beginnings me heard) 16) (level_7 me heard) message e in
    (leb-true (beginnings me heard) 16 by.0, by.1)

-- the DII of the choice is that of its message
pub choice_reads : (me : Receiver) (heard : List Heard) (choice : Choice) (message : List ℕ) (standing : IsStanding me heard choice) → level_7 me heard ≡ Some message
    → dii_of message ≡ Some standing.chosen.dii
unfolding chosen_dii
choice_reads me heard choice message standing stood = sym (ap (option_and_then dii_of) stood) ∙ standing.chosen.read

pub comes_of : (me : Receiver) (heard : List Heard) (choice : Choice) (message : List ℕ) (n : ℕ) (bytes : List ℕ) → IsStanding me heard choice → standing me heard ≡ Some message
    → fills_at me heard choice.plan n ≡ Some bytes → WasStaged me message n bytes ⊎ HeardUnder me heard message n bytes
comes_of me heard choice message n bytes stands is fills =
    let few = stands_few me heard message is in
    filled_origin me message stands.chosen.dii (choice_reads me heard choice message stands few.1) choice.plan stands.chosen.plan n bytes heard few.0 few.1 fills
