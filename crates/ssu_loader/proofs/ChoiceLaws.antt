-- The choice, the section before and the section after.
use Rattle.std.proofs.Common.{◌≡◌, ◌≢◌, ℕ, zero, suc, ◌≤◌, List, [], ◌∷◌, ◌++◌, Option, Some, None, refl, sym, ap, subst, ◌∙◌, arith}
use Rattle.std.specs.Prelude.{IsSome, is_some}
use Rattle.std.specs.Option.{option_and_then}
use Rattle.ts_section.specs.Events.{Heard}
use Rattle.flash_stage.specs.Keeping.{IsPlanOfMessage}
use Rattle.dsmcc_msg.specs.Control.{DiiFields, dii_message}
use Rattle.ssu_group.specs.declared.group_plan.GroupPlan.{GroupPlan}
use Rattle.ssu_group.specs.declared.module_plan.ModulePlan.{ModulePlan}
use Rattle.ssu_group.specs.Carried.{missing_places, nothing_kept}
use Rattle.ssu_group.specs.Plan.{size_of}
use Rattle.ssu_group.proofs.LayoutLaws.{laid_bytes, not_refused}
use Rattle.ssu_group.proofs.MapLaws.{missing_all}
use Rattle.group_image.proofs.ImageLaws.{some_place}
use Rattle.std.specs.Prelude.{sum_by}
use Rattle.route_tables.specs.Values.{Receiver}
use Rattle.ssu_route.specs.declared.change.Change.{Change}
use Rattle.ssu_route.specs.declared.change.Change.TheVariants.{Same, Chosen, Lost}
use Rattle.ssu_route.specs.declared.choice.Choice.{Choice}
use Rattle.ssu_route.specs.Offers.{dii_of}
use Rattle.ssu_route.specs.Choosing.{level_7}
use Rattle.ssu_route.specs.Queries.{carousel_pid}
use Rattle.ssu_route.specs.Route.{HasUsableDii}
use Rattle.ssu_route.specs.Windows.{IsChoice, beginnings, change_at, chosen_dii, offered_by, window}
use Rattle.ssu_route.proofs.Choices.{carousel_stands, chosen_some, level_7-none, lost_none, none_begins, one_more_begins, same_stays, section_passes}
use Rattle.ssu_route.proofs.OwnGroup.{groups_same, wanted_same}
use Rattle.ssu_loader.specs.Decisions.{IsStanding}
use Rattle.ssu_loader.proofs.DecisionLaws.{standing_is}

-- without a message there is no choice
pub no_choice : (me : Receiver) (heard : List Heard) (choice : Choice) → level_7 me heard ≡ None → IsChoice me heard choice → ⊥
unfolding chosen_dii
no_choice me heard choice none is = let read : option_and_then dii_of (level_7 me heard) ≡ Some is.dii = is.read in let nothing : option_and_then dii_of (level_7 me heard) ≡ None = ap (option_and_then dii_of) none in absurd cc

pub none_at : {A B : Type 0} (o : Option A) (p : Option B) → p ≡ None → is_some p ≡ is_some o → o ≡ None
none_at None p none same = refl
none_at (Some a) None none same = absurd cc
none_at (Some a) (Some b) none same = absurd cc

pub some_at : {A B : Type 0} (o : Option A) (p : Option B) (b : B) → p ≡ Some b → is_some p ≡ is_some o → IsSome o
some_at o None b some same = absurd cc
some_at None (Some c) b some same = absurd cc
some_at (Some a) (Some c) b some same = refl

-- the choice after a section that changes nothing is that before it
pub choice_back : (me : Receiver) (item : Heard) (heard : List Heard) (choice : Choice) → change_at me item heard ≡ Same → IsSome (level_7 me (item ∷ heard))
    → IsChoice me (item ∷ heard) choice → IsChoice me heard choice
unfolding chosen_dii
choice_back me item heard choice e stood is = record {
  dii = is.dii;
  read = ap (option_and_then dii_of) (sym (same_stays me item heard e)) ∙ is.read;
  group = sym (wanted_same me item heard e stood) ∙ is.group;
  software = is.software ∙ ap (offered_by choice.group) (groups_same me item heard stood);
  plan = is.plan;
  message = sym (same_stays me item heard e) ∙ is.message;
}

pub choice_stands : (me : Receiver) (heard : List Heard) (choice : Choice) → beginnings me heard ≤ 16 → IsSome (level_7 me heard) → IsChoice me heard choice → IsStanding me heard choice
choice_stands me heard choice few some is = record { stands = subst IsSome (sym (standing_is me heard few)) some; chosen = is }

value_of : {A : Type 0} (o : Option A) → IsSome o → (a : A) × (o ≡ Some a)
value_of None some = absurd cc
value_of (Some a) some = (a, refl)

-- a section on another PID than the carousel's
pub passes_by : (me : Receiver) (item : Heard) (heard : List Heard) → change_at me item heard ≡ Same → IsSome (level_7 me (item ∷ heard)) → carousel_pid me (item ∷ heard) ≢ Some item.pid
    → window me (item ∷ heard) ≡ window me heard
passes_by me item heard e some other =
    let own = value_of (carousel_pid me (item ∷ heard)) (carousel_stands me (item ∷ heard) some) in
    section_passes me item heard own.0 e some own.1 (λ same. other (own.1 ∙ ap (λ (n : ℕ). Some n) (sym same)))

-- the plan of a choice fits the bank
pub choice_fits : (me : Receiver) (heard : List Heard) (choice : Choice) → HasUsableDii me heard choice → choice.plan.total ≤ me.bank_len
choice_fits me heard choice is =
    let all = choice.plan.planned.all_bytes in
    let bytes = ap (λ (ms : List ModulePlan). sum_by size_of ms) is.plan.modules ∙ laid_bytes is.dii.block_size 0 0 is.dii.modules in
    omega (arith, all, bytes, (not_refused is.dii me.bank_len is.usable).fits)

-- the DII of its message
pub chosen_read : (me : Receiver) (heard : List Heard) (message : List ℕ) (dii : DiiFields) → level_7 me heard ≡ Some message → chosen_dii me heard ≡ Some dii → dii_of message ≡ Some dii
unfolding chosen_dii
chosen_read me heard message dii now read = sym (ap (option_and_then dii_of) now) ∙ read

pub dii_read : (message : List ℕ) (dii : DiiFields) → dii_of message ≡ Some dii → dii_message.of message ≡ Some dii
unfolding dii_of
dii_read message dii read = read

-- and is that of its message
pub plan_of_message : (me : Receiver) (heard : List Heard) (choice : Choice) → HasUsableDii me heard choice → level_7 me heard ≡ Some choice.message.items
    → IsPlanOfMessage me.bank_len choice.message.items choice.plan
plan_of_message me heard choice is now = record {
  dii = is.dii;
  reads = dii_read choice.message.items is.dii (chosen_read me heard choice.message.items is.dii now is.read);
  usable = is.usable;
  lays = is.plan;
}

-- where a choice begins, all its places are missing
pub all_missing : (plan : GroupPlan) → 1 ≤ missing_places plan nothing_kept
all_missing plan =
    let count = missing_all (λ (n : ℕ). is_some (nothing_kept n)) plan.places (λ n below. refl) in
    omega (arith, count, some_place plan)

no_some : {A : Type 0} (o : Option A) → o ≡ None → IsSome o → ⊥
no_some None none some = absurd cc
no_some (Some a) none some = absurd cc

-- a choice that begins stands
pub begun_stands : (me : Receiver) (item : Heard) (heard : List Heard) → change_at me item heard ≡ Chosen → level_7 me (item ∷ heard) ≡ None → ⊥
begun_stands me item heard chosen none = no_some (level_7 me (item ∷ heard)) none (chosen_some me item heard chosen)

-- ---- where a choice stands, one began

same_of_change : (me : Receiver) (item : Heard) (heard : List Heard) → (1 ≤ beginnings me heard → ⊥) → IsSome (level_7 me (item ∷ heard)) → (IsSome (level_7 me heard) → 1 ≤ beginnings me heard)
    → (what : Change) → change_at me item heard ≡ what → 1 ≤ beginnings me (item ∷ heard)
same_of_change me item heard none some before Same is = absurd (none (before (subst IsSome (same_stays me item heard is) some)))
same_of_change me item heard none some before Chosen is = let more = one_more_begins me item heard is in omega (arith, more)
same_of_change me item heard none some before Lost is = absurd (no_some (level_7 me (item ∷ heard)) (lost_none me item heard is) some)

pub began_before : (me : Receiver) (item : Heard) (heard : List Heard) (what : Change) → change_at me item heard ≡ what → beginnings me heard ≤ beginnings me (item ∷ heard)
began_before me item heard Same is = let same = none_begins me item heard (λ chosen. let both : Same ≡ Chosen = sym is ∙ chosen in absurd cc) in omega (arith, same)
began_before me item heard Chosen is = let more = one_more_begins me item heard is in omega (arith, more)
began_before me item heard Lost is = let same = none_begins me item heard (λ chosen. let both : Lost ≡ Chosen = sym is ∙ chosen in absurd cc) in omega (arith, same)

pub some_began : (me : Receiver) (heard : List Heard) → IsSome (level_7 me heard) → 1 ≤ beginnings me heard
some_began me [] some = absurd (no_some (level_7 me []) (level_7-none me) some)
some_began me (item ∷ heard) some = by_count (some_began me heard) (beginnings me heard) refl
  where
    by_count : (IsSome (level_7 me heard) → 1 ≤ beginnings me heard) → (n : ℕ) → beginnings me heard ≡ n → 1 ≤ beginnings me (item ∷ heard)
    by_count before zero none =
        same_of_change me item heard (λ one. absurd (omega (arith, one, none))) some before (change_at me item heard) refl
    by_count before (suc n) one = let more = began_before me item heard (change_at me item heard) refl in omega (arith, one, more)

-- more sections never make fewer
pub begun_more : (me : Receiver) (later heard : List Heard) → beginnings me heard ≤ beginnings me (later ++ heard)
begun_more me [] heard = omega arith
begun_more me (item ∷ later) heard =
    let one = began_before me item (later ++ heard) (change_at me item (later ++ heard)) refl in
    let rest = begun_more me later heard in
    omega (arith, one, rest)
