-- What is known of a choice, of its window, and of how many choices began.
use Rattle.std.proofs.Common.{◌≡◌, ◌≢◌, ℕ, ◌+◌, eqb, Bool, true, false, ◌&&◌, not, List, [], ◌∷◌, Option, Some, None, refl, ap, ◌∙◌, sym, inl, inr, arith}
use Rattle.std.specs.Prelude.{IsSome, ◌↔◌, is_some, if◌then◌else◌, option_map}
use Rattle.std.proofs.lemmas.Bool.{eq-eqb, ne_eqb}
use Rattle.route_part.specs.Part.{since}
use Rattle.route_part.proofs.Steps.{since-changes, since-stays}
use Rattle.ts_section.specs.Events.{Heard}
use Rattle.route_tables.specs.Values.{Receiver, CarouselFound, same_option}
use Rattle.route_tables.specs.Levels.{level_5}
use Rattle.route_tables.proofs.Beginning.{level_5-none}
use Rattle.route_tables.proofs.Same.{carousel_sound}
use Rattle.ssu_route.specs.declared.change.Change.{Change}
use Rattle.ssu_route.specs.declared.change.Change.TheVariants.{Same, Chosen, Lost}
use Rattle.ssu_route.specs.Offers.{same_message}
use Rattle.ssu_route.specs.Choosing.{level_7}
use Rattle.ssu_route.specs.Windows.{begins_at, beginnings, change_at, change_of, window, window_of}
use Rattle.ssu_route.specs.Queries.{carousel_pid}
use Rattle.ssu_route.proofs.Same.{message_sound}
use Rattle.ssu_route.proofs.Parts.{carousel_stays}
use Rattle.ssu_route.proofs.LevelSteps.{no_carousel, no_message}
use Rattle.ssu_route.proofs.TakingLaws.{message_same, some_same}

-- ---- what the answer says of level 7

change_cases : (same some : Bool) (a : Change) → (if same then Same else (if some then Chosen else Lost)) ≡ a →
    (a ≡ Same → same ≡ true) × (a ≡ Chosen → (same ≡ false) × (some ≡ true)) × (a ≡ Lost → (same ≡ false) × (some ≡ false))
change_cases true some a e = (λ _. refl, λ f. let g = e ∙ f in cc, λ f. let g = e ∙ f in cc)
change_cases false true a e = (λ f. let g = e ∙ f in cc, λ _. (refl, refl), λ f. let g = e ∙ f in cc)
change_cases false false a e = (λ f. let g = e ∙ f in cc, λ f. let g = e ∙ f in cc, λ _. (refl, refl))

cases_at : (me : Receiver) (item : Heard) (earlier : List Heard) →
    (change_at me item earlier ≡ Same → same_message (level_7 me earlier) (level_7 me (item ∷ earlier)) ≡ true)
    × (change_at me item earlier ≡ Chosen → (same_message (level_7 me earlier) (level_7 me (item ∷ earlier)) ≡ false) × (is_some (level_7 me (item ∷ earlier)) ≡ true))
    × (change_at me item earlier ≡ Lost → (same_message (level_7 me earlier) (level_7 me (item ∷ earlier)) ≡ false) × (is_some (level_7 me (item ∷ earlier)) ≡ false))
unfolding change_at change_of
cases_at me item earlier = change_cases (same_message (level_7 me earlier) (level_7 me (item ∷ earlier))) (is_some (level_7 me (item ∷ earlier))) (change_at me item earlier) refl

pub same_stays : (me : Receiver) (item : Heard) (earlier : List Heard) → change_at me item earlier ≡ Same → level_7 me (item ∷ earlier) ≡ level_7 me earlier
same_stays me item earlier e = sym (message_sound (level_7 me earlier) (level_7 me (item ∷ earlier)) ((cases_at me item earlier).0 e))

is_some-true : {A : Type 0} (o : Option A) → is_some o ≡ true → IsSome o
is_some-true None h = cc
is_some-true (Some x) h = refl

pub is_some-false : {A : Type 0} (o : Option A) → is_some o ≡ false → o ≡ None
is_some-false None h = refl
is_some-false (Some x) h = cc

pub chosen_some : (me : Receiver) (item : Heard) (earlier : List Heard) → change_at me item earlier ≡ Chosen → IsSome (level_7 me (item ∷ earlier))
chosen_some me item earlier e = is_some-true (level_7 me (item ∷ earlier)) ((cases_at me item earlier).1 e).1

pub lost_none : (me : Receiver) (item : Heard) (earlier : List Heard) → change_at me item earlier ≡ Lost → level_7 me (item ∷ earlier) ≡ None
lost_none me item earlier e = is_some-false (level_7 me (item ∷ earlier)) ((cases_at me item earlier).2 e).1

lost_from : (before now : Option (List ℕ)) → same_message before now ≡ false → now ≡ None → IsSome before
unfolding same_option
lost_from None now h e = let f = sym (ap (same_message None) e) ∙ h in cc
lost_from (Some m) now h e = refl

pub lost_stood : (me : Receiver) (item : Heard) (earlier : List Heard) → change_at me item earlier ≡ Lost → IsSome (level_7 me earlier)
lost_stood me item earlier e =
    lost_from (level_7 me earlier) (level_7 me (item ∷ earlier)) ((cases_at me item earlier).2 e).0 (lost_none me item earlier e)

-- ---- how many choices began

begins_yes : (same some : Bool) → same ≡ false → some ≡ true → (some && not same) ≡ true
begins_yes same some s t = rw (s, t) refl

begins_not : (same some : Bool) → ((if same then Same else (if some then Chosen else Lost)) ≢ Chosen) → (some && not same) ≡ false
begins_not true true n = refl
begins_not true false n = refl
begins_not false true n = absurd (n refl)
begins_not false false n = refl

begins_chosen : (me : Receiver) (item : Heard) (earlier : List Heard) → change_at me item earlier ≡ Chosen → begins_at me item earlier ≡ true
unfolding begins_at
begins_chosen me item earlier e =
    let c = (cases_at me item earlier).1 e in
    begins_yes (same_message (level_7 me earlier) (level_7 me (item ∷ earlier))) (is_some (level_7 me (item ∷ earlier))) c.0 c.1

begins_else : (me : Receiver) (item : Heard) (earlier : List Heard) → change_at me item earlier ≢ Chosen → begins_at me item earlier ≡ false
unfolding begins_at change_at change_of
begins_else me item earlier n = begins_not (same_message (level_7 me earlier) (level_7 me (item ∷ earlier))) (is_some (level_7 me (item ∷ earlier))) n

pub one_more_begins : (me : Receiver) (item : Heard) (earlier : List Heard) → change_at me item earlier ≡ Chosen → beginnings me (item ∷ earlier) ≡ beginnings me earlier + 1
unfolding beginnings
one_more_begins me item earlier e = ap (λ b. beginnings me earlier + (if b then 1 else 0)) (begins_chosen me item earlier e)

pub none_begins : (me : Receiver) (item : Heard) (earlier : List Heard) → change_at me item earlier ≢ Chosen → beginnings me (item ∷ earlier) ≡ beginnings me earlier
unfolding beginnings
none_begins me item earlier n = ap (λ b. beginnings me earlier + (if b then 1 else 0)) (begins_else me item earlier n) ∙ omega arith

pub begins_exactly : (me : Receiver) (item : Heard) (earlier : List Heard) → (begins_at me item earlier ≡ true) ↔ (change_at me item earlier ≡ Chosen)
begins_exactly me item earlier = (λ e. by_change (change_at me item earlier) refl e, begins_chosen me item earlier)
  where
    by_change : (a : Change) → change_at me item earlier ≡ a → begins_at me item earlier ≡ true → change_at me item earlier ≡ Chosen
    by_change Chosen e b = e
    by_change Same e b = let f = sym b ∙ begins_else me item earlier (λ g. let h = sym e ∙ g in cc) in cc
    by_change Lost e b = let f = sym b ∙ begins_else me item earlier (λ g. let h = sym e ∙ g in cc) in cc

-- ---- the window

-- where a choice stands, the carousel is that of before
pub carousel_same : (me : Receiver) (item : Heard) (earlier : List Heard) → IsSome (level_7 me (item ∷ earlier)) → level_5 me (item ∷ earlier) ≡ level_5 me earlier
carousel_same me item earlier some =
    elim (carousel_stays me item earlier) as (λ _. level_5 me (item ∷ earlier) ≡ level_5 me earlier) [
      | inl none ↦ let f = sym (ap is_some (no_message me (item ∷ earlier) none)) ∙ some in cc
      | inr same ↦ carousel_sound (level_5 me (item ∷ earlier)) (level_5 me earlier) same
    ]

-- and there is one
pub carousel_stands : (me : Receiver) (heard : List Heard) → IsSome (level_7 me heard) → IsSome (carousel_pid me heard)
unfolding carousel_pid
carousel_stands me heard some = by_carousel (level_5 me heard) refl
  where
    by_carousel : (c : Option CarouselFound) → level_5 me heard ≡ c → IsSome (option_map (λ c. c.pid) c)
    by_carousel None e = let f = sym (ap is_some (no_message me heard (no_carousel me heard e))) ∙ some in cc
    by_carousel (Some c) e = refl

window_at : (me : Receiver) (item : Heard) (earlier : List Heard) → change_at me item earlier ≡ Same → IsSome (level_7 me (item ∷ earlier)) →
    window me (item ∷ earlier) ≡ window_of (level_5 me (item ∷ earlier)) (item ∷ since same_message (level_7 me) earlier)
unfolding window
window_at me item earlier e some =
    let turned : same_message (level_7 me (item ∷ earlier)) (level_7 me earlier) ≡ true =
    ap (λ m. same_message m (level_7 me earlier)) (same_stays me item earlier e) ∙ message_same (level_7 me earlier) in
    ap (window_of (level_5 me (item ∷ earlier))) (since-stays same_message (level_7 me) item earlier turned)

window_before : (me : Receiver) (item : Heard) (earlier : List Heard) → IsSome (level_7 me (item ∷ earlier)) →
    window_of (level_5 me (item ∷ earlier)) (since same_message (level_7 me) earlier) ≡ window me earlier
unfolding window
window_before me item earlier some = ap (λ c. window_of c (since same_message (level_7 me) earlier)) (carousel_same me item earlier some)

joins_at : (c : CarouselFound) (item : Heard) (part : List Heard) (b : Bool) → eqb item.pid c.pid ≡ b →
    window_of (Some c) (item ∷ part) ≡ (if b then item.section ∷ window_of (Some c) part else window_of (Some c) part)
joins_at c item part true e = rw e refl
joins_at c item part false e = rw e refl

joins : (c : Option CarouselFound) (pid : ℕ) (item : Heard) (part : List Heard) → option_map (λ c. c.pid) c ≡ Some pid → item.pid ≡ pid →
    window_of c (item ∷ part) ≡ item.section ∷ window_of c part
joins None pid item part e same = cc
joins (Some c) pid item part e same =
    joins_at c item part true (eq-eqb item.pid c.pid (same ∙ some_same pid c.pid (sym e)))

passes : (c : Option CarouselFound) (pid : ℕ) (item : Heard) (part : List Heard) → option_map (λ c. c.pid) c ≡ Some pid → item.pid ≢ pid →
    window_of c (item ∷ part) ≡ window_of c part
passes None pid item part e other = cc
passes (Some c) pid item part e other =
    joins_at c item part false (ne_eqb item.pid c.pid (λ same. other (same ∙ some_same c.pid pid e)))

pub section_joins : (me : Receiver) (item : Heard) (earlier : List Heard) (pid : ℕ) → change_at me item earlier ≡ Same → IsSome (level_7 me (item ∷ earlier)) →
    carousel_pid me (item ∷ earlier) ≡ Some pid → item.pid ≡ pid → window me (item ∷ earlier) ≡ item.section ∷ window me earlier
unfolding carousel_pid
section_joins me item earlier pid e some carousel same =
    window_at me item earlier e some
    ∙ joins (level_5 me (item ∷ earlier)) pid item (since same_message (level_7 me) earlier) carousel same
    ∙ ap (λ rest. item.section ∷ rest) (window_before me item earlier some)

pub section_passes : (me : Receiver) (item : Heard) (earlier : List Heard) (pid : ℕ) → change_at me item earlier ≡ Same → IsSome (level_7 me (item ∷ earlier)) →
    carousel_pid me (item ∷ earlier) ≡ Some pid → item.pid ≢ pid → window me (item ∷ earlier) ≡ window me earlier
unfolding carousel_pid
section_passes me item earlier pid e some carousel other =
    window_at me item earlier e some
    ∙ passes (level_5 me (item ∷ earlier)) pid item (since same_message (level_7 me) earlier) carousel other
    ∙ window_before me item earlier some

empty_window : (c : Option CarouselFound) → window_of c [] ≡ []
empty_window None = refl
empty_window (Some c) = refl

turned_false : (a b : Option (List ℕ)) → same_message a b ≡ false → same_message b a ≡ false
turned_false a b h = by_test (same_message b a) refl
  where
    by_test : (t : Bool) → same_message b a ≡ t → t ≡ false
    by_test false e = refl
    by_test true e = let f = sym (ap (λ x. same_message x b) (sym (message_sound b a e)) ∙ message_same b) ∙ h in cc

pub window_empty : (me : Receiver) (item : Heard) (earlier : List Heard) → change_at me item earlier ≢ Same → window me (item ∷ earlier) ≡ []
unfolding window change_at change_of
window_empty me item earlier n =
    ap (window_of (level_5 me (item ∷ earlier))) (since-changes same_message (level_7 me) item earlier (turned_false (level_7 me earlier) (level_7 me (item ∷ earlier)) differs))
    ∙ empty_window (level_5 me (item ∷ earlier))
  where
    by_test : (t : Bool) → same_message (level_7 me earlier) (level_7 me (item ∷ earlier)) ≡ t → t ≡ false
    by_test false e = refl
    by_test true e = absurd (n (ap (λ b. if b then Same else (if is_some (level_7 me (item ∷ earlier)) then Chosen else Lost)) e))

    differs : same_message (level_7 me earlier) (level_7 me (item ∷ earlier)) ≡ false
    differs = by_test (same_message (level_7 me earlier) (level_7 me (item ∷ earlier))) refl

-- ---- before anything was heard

pub level_7-none : (me : Receiver) → level_7 me [] ≡ None
level_7-none me = no_message me [] (no_carousel me [] (level_5-none me))

pub window-none : (me : Receiver) → window me [] ≡ []
unfolding window since
window-none me = empty_window (level_5 me [])

pub beginnings-none : (me : Receiver) → beginnings me [] ≡ 0
unfolding beginnings
beginnings-none me = refl
