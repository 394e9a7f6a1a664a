-- A section of none of the formats changes nothing, nor does one on a PID on which no table is looked for.
use Rattle.std.proofs.Common.{◌≡◌, ◌≢◌, ℕ, Bool, true, false, if◌then◌else◌, eqb, List, ◌∷◌, Option, Some, None, refl, ap, ◌∙◌, arith}
use Rattle.std.specs.Option.{option_and_then, option_map}
use Rattle.std.proofs.lemmas.Bool.Decides.{nat_tests}
use Rattle.ts_section.specs.Events.{Heard}
use Rattle.si_desc.specs.declared.linkages.ServiceRef.{ServiceRef}
use Rattle.si_table.specs.Pids.{pat_pid, nit_pid, bat_pid, time_pid}
use Rattle.si_table.specs.Tables.{NetFields, pat, pmt, net}
use Rattle.ssu_unt.specs.Table.{unt}
use Rattle.route_tables.specs.Values.{Receiver, ProgramFound, ComponentFound}
use Rattle.route_tables.specs.Said.{notice_if, on, time_in, time_said}
use Rattle.route_tables.specs.Levels.{has_notice, level_1, level_2, level_3, notice, entries_of, level_4, time_now, level_5}
use Rattle.route_tables.specs.Next.{first_loop, loop_in, services_after, pat_in, decided, unt_in}
use Rattle.route_tables.specs.Standing.{IsSilent, IsElsewhere, IsUnmoved}
use Rattle.route_tables.proofs.Itself.{services_itself, program_itself, component_itself}
use Rattle.route_tables.proofs.Sixteen.{level_1-step}
use Rattle.route_tables.proofs.Steps.{level_2-step, level_3-step, notice-step, time_now-step}

-- ---- where a section says nothing

record SaysNothing (me : Receiver) (item : Heard) (earlier : List Heard) : Type 0 where
  loop : loop_in item ≡ None
  pat : pat_in item ≡ None
  pmt : decided me.file.id.oui (level_2 me earlier) item ≡ None
  unt : unt_in me.file.id.oui (level_3 me earlier) item ≡ None
  time : time_said item ≡ None

services_stay : (configured : Option ServiceRef) (oui : ℕ) (item : Heard) (before : List ServiceRef) → loop_in item ≡ None
    → services_after configured oui item before ≡ before
services_stay (Some s) oui item before e = refl
services_stay None oui item before e = rw e refl

unmoved : (me : Receiver) (item : Heard) (earlier : List Heard) → SaysNothing me item earlier → IsUnmoved me item earlier
unfolding level_4 level_5
unmoved me item earlier h =
    let services : level_1 me (item ∷ earlier) ≡ level_1 me earlier =
    level_1-step me item earlier ∙ services_stay me.file.service me.file.id.oui item (level_1 me earlier) h.loop in
    let program : level_2 me (item ∷ earlier) ≡ level_2 me earlier =
    level_2-step me item earlier ∙ rw (services, services_itself (level_1 me earlier), h.pat) refl in
    let component : level_3 me (item ∷ earlier) ≡ level_3 me earlier =
    level_3-step me item earlier ∙ rw (program, program_itself (level_2 me earlier), h.pmt) refl in
    let found : notice me (item ∷ earlier) ≡ notice me earlier =
    notice-step me item earlier ∙ rw (component, component_itself (level_3 me earlier), h.unt) refl in
    let time : time_now (item ∷ earlier) ≡ time_now earlier = time_now-step item earlier ∙ rw h.time refl in
    record {
      services = services;
      program = program;
      component = component;
      notice = found;
      entries = ap entries_of found;
      time = time;
      carousel = rw (time, component, found) refl;
    }

-- ---- bytes of none of the formats

nothing_on : {A : Type 0} (read : List ℕ → Option A) (pid : ℕ) (item : Heard) → read item.section ≡ None → option_and_then (λ section. read section) (on pid item) ≡ None
nothing_on {A} read pid item e = by_test (eqb item.pid pid)
  where
    by_test : (b : Bool) → option_and_then (λ section. read section) (if b then Some item.section else None) ≡ None
    by_test true = e
    by_test false = refl

neither : {A : Type 0} (b : Bool) (o : Option A) → o ≡ None → (if b then o else None) ≡ None
neither true o e = e
neither false o e = refl

no_component : (oui : ℕ) (program : Option ProgramFound) (item : Heard) → pmt.of item.section ≡ None → decided oui program item ≡ None
no_component oui None item e = refl
no_component oui (Some p) item e = rw (nothing_on pmt.of p.pid item e) refl

no_notice : (oui : ℕ) (component : Option ComponentFound) (item : Heard) → unt.of item.section ≡ None → unt_in oui component item ≡ None
no_notice oui None item e = refl
no_notice oui (Some c) item e =
    neither (has_notice c) (option_and_then (notice_if oui) (option_and_then (λ section. unt.of section) (on c.pid item))) (rw (nothing_on unt.of c.pid item e) refl)

pub silent : (me : Receiver) (item : Heard) (earlier : List Heard) → IsSilent item.section → IsUnmoved me item earlier
unfolding time_said
silent me item earlier h = unmoved me item earlier (record {
  loop = rw h.net refl;
  pat = nothing_on pat.of pat_pid item h.pat;
  pmt = no_component me.file.id.oui (level_2 me earlier) item h.pmt;
  unt = no_notice me.file.id.oui (level_3 me earlier) item h.unt;
  time = rw (nothing_on time_in time_pid item (rw (h.tdt, h.tot) refl)) refl;
})

-- ---- a PID on which no table is looked for

differs : (m n : ℕ) → m ≢ n → (eqb m n) ≡ false
differs m n h = grind (arith, nat_tests, h)

not_on : (pid : ℕ) (item : Heard) → item.pid ≢ pid → on pid item ≡ None
not_on pid item h = rw (differs item.pid pid h) refl

no_loop : (pid : ℕ) (o : Option NetFields) → pid ≢ nit_pid → pid ≢ bat_pid → first_loop pid o ≡ None
no_loop pid None a b = refl
no_loop pid (Some n) a b = rw (differs pid nit_pid a, differs pid bat_pid b) refl

other_program : (oui : ℕ) (program : Option ProgramFound) (item : Heard) → option_map (λ p. p.pid) program ≢ Some item.pid → decided oui program item ≡ None
other_program oui None item h = refl
other_program oui (Some p) item h = rw (not_on p.pid item (λ e. h (cc))) refl

other_component : (oui : ℕ) (component : Option ComponentFound) (item : Heard) → option_map (λ c. c.pid) component ≢ Some item.pid → unt_in oui component item ≡ None
other_component oui None item h = refl
other_component oui (Some c) item h =
    neither (has_notice c) (option_and_then (notice_if oui) (option_and_then (λ section. unt.of section) (on c.pid item))) (rw (not_on c.pid item (λ e. h (cc))) refl)

pub elsewhere : (me : Receiver) (item : Heard) (earlier : List Heard) → IsElsewhere me earlier item.pid → IsUnmoved me item earlier
unfolding time_said
elsewhere me item earlier h = unmoved me item earlier (record {
  loop = no_loop item.pid (net.of item.section) h.nit h.bat;
  pat = rw (not_on pat_pid item h.pat) refl;
  pmt = other_program me.file.id.oui (level_2 me earlier) item h.program;
  unt = other_component me.file.id.oui (level_3 me earlier) item h.component;
  time = rw (not_on time_pid item h.time) refl;
})
