-- One section more: each level goes to its next value where the level below stayed, and has none where it changed.
use Rattle.std.proofs.Common.{◌≡◌, ℕ, Bool, true, false, if◌then◌else◌, List, [], ◌∷◌, length, Option, Some, None, refl, ap, ◌∙◌, arith}
use Rattle.std.specs.Prelude.{◌==◌, is_some, unwrap_or}
use Rattle.std.specs.List.{find}
use Rattle.std.specs.Option.{option_and_then, option_map, option_or}
use Rattle.route_part.specs.Part.{since}
use Rattle.route_part.specs.Said.{fixed_said, last_said, under, StepsBy, next_fixed}
use Rattle.route_part.proofs.Steps.{by_part, fixed_said-none, fixed_said-step, last_said-none, last_said-step}
use Rattle.ts_section.specs.Events.{Heard}
use Rattle.si_desc.specs.declared.linkages.ServiceRef.{ServiceRef}
use Rattle.si_table.specs.Tables.{PatFields}
use Rattle.ssu_unt.specs.Table.{UntFields, unt}
use Rattle.ssu_unt.specs.Targeting.{TargetFields, targeted}
use Rattle.ssu_unt.specs.Views.{me_view}
use Rattle.route_tables.specs.Values.{Receiver, ProgramFound, ComponentFound, NoticeFound, same_services, same_program, same_component}
use Rattle.route_tables.specs.Said.{on, pid_in_pat, program_said, service_said, component_said, notice_if, notice_in, number_if_entries, entries_under, number_said, entries_said, time_said}
use Rattle.route_tables.specs.Levels.{level_1, program_found, level_2, component_by, level_3, has_notice, notice_found}
use Rattle.route_tables.specs.Levels.{notice_by, notice, entries_of, level_4, time_now, level_5}
use Rattle.route_tables.specs.Levels.{carousel_from}
use Rattle.route_tables.specs.Next.{pat_in, first_listed, next_program, program_after, decided, component_after, unt_in, next_notice, notice_after, time_after}
use Rattle.route_tables.proofs.Same.{services_sound, program_sound, component_sound}
use Rattle.route_tables.proofs.Parts.{program_fits, notice_fits}

-- ---- Level 2

abbrev said_by : Option PatFields → ServiceRef → Option ℕ
said_by o s = option_and_then (pid_in_pat s) o

abbrev fixed_by : Option PatFields → List ServiceRef → Option ServiceRef
fixed_by o services = find (λ s. is_some (said_by o s)) services

no_pat : (services : List ServiceRef) → fixed_by None services ≡ None
no_pat [] = refl
no_pat (s ∷ later) = no_pat later

abbrev program_of : Option PatFields → Option ServiceRef → Option ProgramFound
program_of o fixed = option_map program_found (option_and_then (λ s. under s (said_by o s)) fixed)

listed_one : (p : PatFields) (s : ServiceRef) (later : List ServiceRef) (q : Option ℕ) → pid_in_pat s p ≡ q
    → program_of (Some p) (fixed_by (Some p) later) ≡ first_listed later p
    → program_of (Some p) (if is_some q then Some s else fixed_by (Some p) later) ≡ option_or (option_map (λ pid. program_found (s, pid)) q) (first_listed later p)
listed_one p s later None e h = h
listed_one p s later (Some pid) e h = rw e refl

listed : (p : PatFields) (services : List ServiceRef) → program_of (Some p) (fixed_by (Some p) services) ≡ first_listed services p
unfolding first_listed
listed p [] = refl
listed p (s ∷ later) = listed_one p s later (pid_in_pat s p) refl (listed p later)

first_program : (o : Option PatFields) (services : List ServiceRef) → program_of o (fixed_by o services) ≡ next_program services o None
first_program None services = ap (program_of None) (no_pat services)
first_program (Some p) services = listed p services

again_program : (o : Option PatFields) (services : List ServiceRef) (x : ServiceRef × ℕ)
    → Some (program_found (x.0, unwrap_or (said_by o x.0) x.1)) ≡ next_program services o (Some (program_found x))
again_program None services x = refl
again_program (Some p) services x = refl

program_next : (services : List ServiceRef) (item : Heard) (x : Option (ServiceRef × ℕ))
    → option_map program_found (next_fixed (service_said services) program_said item x) ≡ next_program services (pat_in item) (option_map program_found x)
unfolding service_said program_said
program_next services item None = first_program (pat_in item) services
program_next services item (Some x) = again_program (pat_in item) services x

abbrev program_by : List ServiceRef → List Heard → Option ProgramFound
program_by services part = option_map program_found (fixed_said (service_said services) program_said part)

abbrev after_pat : List ServiceRef → Heard → Option ProgramFound → Option ProgramFound
after_pat services item before = next_program services (pat_in item) before

program_steps : StepsBy program_by after_pat
program_steps services item part =
    ap (option_map program_found) (fixed_said-step (service_said services) program_said (program_fits services) item part)
    ∙ program_next services item (fixed_said (service_said services) program_said part)

program_none : (services : List ServiceRef) → program_by services [] ≡ None
program_none services = ap (option_map program_found) (fixed_said-none (service_said services) program_said)

pub level_2-step : (me : Receiver) (item : Heard) (earlier : List Heard)
    → level_2 me (item ∷ earlier)
    ≡ program_after (same_services (level_1 me (item ∷ earlier)) (level_1 me earlier)) (level_1 me (item ∷ earlier)) item (level_2 me earlier)
unfolding level_2
level_2-step me item earlier =
    by_part same_services (level_1 me) program_by after_pat services_sound program_steps item earlier
    ∙ ap (λ (o : Option ProgramFound). if same_services (level_1 me (item ∷ earlier)) (level_1 me earlier)
    then after_pat (level_1 me (item ∷ earlier)) item (program_by (level_1 me earlier) (since same_services (level_1 me) earlier)) else o)
    (program_none (level_1 me (item ∷ earlier)))

-- ---- Level 3

or_else : {A : Type 0} (a b : Option A) (d : A) → unwrap_or (option_or a b) d ≡ unwrap_or a (unwrap_or b d)
or_else None b d = refl
or_else (Some x) b d = refl

abbrev after_pmt : ℕ → Option ProgramFound → Heard → Option ComponentFound → Option ComponentFound
after_pmt oui program item before = unwrap_or (decided oui program item) before

component_steps : (me : Receiver) → StepsBy (component_by me) (after_pmt me.file.id.oui)
unfolding component_said
component_steps me None item part = refl
component_steps me (Some program) item part =
    ap (λ (o : Option (Option ComponentFound)). unwrap_or o None) (last_said-step (component_said me.file.id.oui program) item part)
    ∙ or_else (component_said me.file.id.oui program item) (last_said (component_said me.file.id.oui program) part) None

component_none : (me : Receiver) (program : Option ProgramFound) → component_by me program [] ≡ None
component_none me None = refl
component_none me (Some program) = ap (λ (o : Option (Option ComponentFound)). unwrap_or o None) (last_said-none (component_said me.file.id.oui program))

pub level_3-step : (me : Receiver) (item : Heard) (earlier : List Heard)
    → level_3 me (item ∷ earlier)
    ≡ component_after (same_program (level_2 me (item ∷ earlier)) (level_2 me earlier)) me.file.id.oui (level_2 me (item ∷ earlier)) item (level_3 me earlier)
unfolding level_3
level_3-step me item earlier =
    by_part same_program (level_2 me) (component_by me) (after_pmt me.file.id.oui) program_sound (component_steps me) item earlier
    ∙ ap (λ (o : Option ComponentFound). if same_program (level_2 me (item ∷ earlier)) (level_2 me earlier)
    then after_pmt me.file.id.oui (level_2 me (item ∷ earlier)) item (component_by me (level_2 me earlier) (since same_program (level_2 me) earlier)) else o)
    (component_none me (level_2 me (item ∷ earlier)))

-- ---- Level 4

abbrev after_unt : Receiver → Option ComponentFound → Heard → Option NoticeFound → Option NoticeFound
after_unt me component item before = next_notice (me_view me.file.id) (unt_in me.file.id.oui component item) before

abbrev entries_by : Receiver → Option UntFields → ℕ → Option (List TargetFields)
entries_by me o number = option_and_then (entries_under me number) o

first_entries : (me : Receiver) (u : UntFields) (b : Bool) → (length (targeted (me_view me.file.id) u) == 0) ≡ b
    → option_map notice_found (option_and_then (λ number. under number (entries_by me (Some u) number)) (if b then None else Some u.number))
    ≡ next_notice (me_view me.file.id) (Some u) None
first_entries me u true e = rw e refl
first_entries me u false e = rw (e, itself u.number) refl
  where
    itself : (n : ℕ) → (n == n) ≡ true
    itself n = grind arith

again_entries : (me : Receiver) (u : UntFields) (x : ℕ × List TargetFields) (b : Bool) → (u.number == x.0) ≡ b
    → Some (notice_found (x.0, unwrap_or (if b then Some (targeted (me_view me.file.id) u) else None) x.1))
    ≡ next_notice (me_view me.file.id) (Some u) (Some (notice_found x))
again_entries me u x true e = rw e refl
again_entries me u x false e = rw e refl

-- what next_fixed makes of a table
abbrev entries_fixed : Receiver → Option UntFields → Option (ℕ × List TargetFields) → Option (ℕ × List TargetFields)
entries_fixed me o None = option_and_then (λ number. under number (entries_by me o number)) (option_and_then (number_if_entries me) o)
entries_fixed me o (Some x) = Some (x.0, unwrap_or (entries_by me o x.0) x.1)

entries_next : (me : Receiver) (o : Option UntFields) (x : Option (ℕ × List TargetFields))
    → option_map notice_found (entries_fixed me o x) ≡ next_notice (me_view me.file.id) o (option_map notice_found x)
entries_next me None None = refl
entries_next me None (Some x) = refl
entries_next me (Some u) None = first_entries me u (length (targeted (me_view me.file.id) u) == 0) refl
entries_next me (Some u) (Some x) = again_entries me u x (u.number == x.0) refl

notice_next : (me : Receiver) (pid : ℕ) (item : Heard) (x : Option (ℕ × List TargetFields))
    → option_map notice_found (next_fixed (number_said me pid) (entries_said me pid) item x)
    ≡ next_notice (me_view me.file.id) (option_and_then (notice_if me.file.id.oui) (option_and_then (λ section. unt.of section) (on pid item))) (option_map notice_found x)
unfolding number_said entries_said notice_in
notice_next me pid item None = entries_next me (option_and_then (notice_if me.file.id.oui) (option_and_then (λ section. unt.of section) (on pid item))) None
notice_next me pid item (Some x) = entries_next me (option_and_then (notice_if me.file.id.oui) (option_and_then (λ section. unt.of section) (on pid item))) (Some x)

notice_on : (me : Receiver) (c : ComponentFound) (item : Heard) (part : List Heard) (b : Bool)
    → (if b then option_map notice_found (fixed_said (number_said me c.pid) (entries_said me c.pid) (item ∷ part)) else None)
    ≡ next_notice (me_view me.file.id)
    (if b then option_and_then (notice_if me.file.id.oui) (option_and_then (λ section. unt.of section) (on c.pid item)) else None)
    (if b then option_map notice_found (fixed_said (number_said me c.pid) (entries_said me c.pid) part) else None)
notice_on me c item part true =
    ap (option_map notice_found) (fixed_said-step (number_said me c.pid) (entries_said me c.pid) (notice_fits me c.pid) item part)
    ∙ notice_next me c.pid item (fixed_said (number_said me c.pid) (entries_said me c.pid) part)
notice_on me c item part false = refl

notice_steps : (me : Receiver) → StepsBy (notice_by me) (after_unt me)
notice_steps me None item part = refl
notice_steps me (Some c) item part = notice_on me c item part (has_notice c)

notice_empty : (me : Receiver) (c : ComponentFound) (b : Bool)
    → (if b then option_map notice_found (fixed_said (number_said me c.pid) (entries_said me c.pid) []) else None) ≡ None
notice_empty me c true = ap (option_map notice_found) (fixed_said-none (number_said me c.pid) (entries_said me c.pid))
notice_empty me c false = refl

notice_none : (me : Receiver) (component : Option ComponentFound) → notice_by me component [] ≡ None
notice_none me None = refl
notice_none me (Some c) = notice_empty me c (has_notice c)

pub notice-step : (me : Receiver) (item : Heard) (earlier : List Heard)
    → notice me (item ∷ earlier)
    ≡ notice_after (same_component (level_3 me (item ∷ earlier)) (level_3 me earlier)) me.file.id (level_3 me (item ∷ earlier)) item (notice me earlier)
unfolding notice
notice-step me item earlier =
    by_part same_component (level_3 me) (notice_by me) (after_unt me) component_sound (notice_steps me) item earlier
    ∙ ap (λ (o : Option NoticeFound). if same_component (level_3 me (item ∷ earlier)) (level_3 me earlier)
    then after_unt me (level_3 me (item ∷ earlier)) item (notice_by me (level_3 me earlier) (since same_component (level_3 me) earlier)) else o)
    (notice_none me (level_3 me (item ∷ earlier)))

-- ---- The time, and level 5

pub time_now-step : (item : Heard) (earlier : List Heard) → time_now (item ∷ earlier) ≡ time_after item (time_now earlier)
unfolding time_now
time_now-step item earlier = last_said-step time_said item earlier

pub level_5-is : (me : Receiver) (heard : List Heard)
    → carousel_from me.file.manual (time_now heard) (level_3 me heard) (entries_of (notice me heard)) ≡ level_5 me heard
unfolding level_5 level_4
level_5-is me heard = refl
