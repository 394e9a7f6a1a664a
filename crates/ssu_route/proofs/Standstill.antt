-- A section that no reader accepts changes nothing, nor does one on a PID that is not listened to.
use Rattle.std.proofs.Common.{◌≡◌, ◌≢◌, ℕ, eqb, Bool, true, false, List, [], ◌∷◌, ◌++◌, Option, Some, None, refl, ap, ◌∙◌, sym, subst}
use Rattle.std.specs.Prelude.{if◌then◌else◌, option_map, option_to_list}
use Rattle.std.specs.Option.{option_and_then}
use Rattle.std.proofs.lemmas.Bool.{eq-eqb, eqb-false, ne_eqb, or_from, or_parts}
use Rattle.ts_section.specs.Events.{Heard, is_among}
use Rattle.dsmcc_msg.specs.Control.{DiiFields, dii, dsi}
use Rattle.section_kind.specs.Kinds.{IsOfNoKind}
use Rattle.route_tables.specs.Values.{Receiver, CarouselFound, same_carousel, same_carousel_found, same_number}
use Rattle.si_table.specs.Pids.{pat_pid, nit_pid, bat_pid, time_pid}
use Rattle.route_tables.specs.Said.{on}
use Rattle.route_tables.specs.Levels.{level_2, level_3, level_5}
use Rattle.route_tables.specs.Standing.{IsElsewhere, IsUnmoved}
use Rattle.route_tables.proofs.Itself.{option_itself}
use Rattle.route_tables.proofs.Unmoved.{elsewhere, silent}
use Rattle.ssu_route.specs.declared.change.Change.TheVariants.{Same}
use Rattle.ssu_route.specs.declared.choice.Choice.{Choice}
use Rattle.ssu_route.specs.Offers.{offers_in, offers_said, same_offers}
use Rattle.ssu_route.specs.Choosing.{level_6, level_7}
use Rattle.ssu_route.specs.Windows.{IsChoice, change_at, change_of, chosen_dii, offered_by}
use Rattle.ssu_route.specs.Queries.{carousel_pid, listened, missing, report}
use Rattle.ssu_route.specs.Kept.{first_usable, groups_found, message_for, next_held}
use Rattle.ssu_route.specs.Route.{Stays}
use Rattle.ssu_route.proofs.Same.{offers_itself}
use Rattle.ssu_route.proofs.TakingLaws.{group_same, nothing_changes, some, some_same}
use Rattle.ssu_route.proofs.LevelSteps.{Goes, groups_stay, heard_dii, no_carousel, no_groups, no_message, wanted_is}
use Rattle.ssu_route.proofs.Hearing.{dii_off, offers_elsewhere, offers_off}

carousel_itself : (c : Option CarouselFound) → same_carousel c c ≡ true
carousel_itself c = option_itself same_carousel_found found_itself c
  where
    found_itself : (c : CarouselFound) → same_carousel_found c c ≡ true
    found_itself c = rw (eq-eqb c.pid c.pid refl, option_itself same_number (λ n. eq-eqb n n refl) c.subgroup) refl

-- ---- where the carousel stays and neither a DSI nor a DII of it is heard

record SaysNothing (me : Receiver) (item : Heard) (c : CarouselFound) : Type 0 where
  offers : offers_said me c item ≡ None
  dii : heard_dii c.pid item ≡ None

record LastStay (me : Receiver) (item : Heard) (earlier : List Heard) : Type 0 where
  groups : level_6 me (item ∷ earlier) ≡ level_6 me earlier
  found : groups_found me (item ∷ earlier) ≡ groups_found me earlier
  modules : level_7 me (item ∷ earlier) ≡ level_7 me earlier

none_for : (w : Option ℕ) → message_for w None ≡ None
none_for None = refl
none_for (Some g) = refl

next_none : (w : Option ℕ) (held : Option (List ℕ)) → next_held None w w held ≡ held
next_none w held = rw (none_for w, group_same w) refl

of_none : (me : Receiver) (item : Heard) (earlier : List Heard) → level_5 me (item ∷ earlier) ≡ None → level_5 me earlier ≡ None → LastStay me item earlier
of_none me item earlier now before =
    let groups_now = no_carousel me (item ∷ earlier) now in
    let groups_before = no_carousel me earlier before in
    record {
      groups = groups_now ∙ sym groups_before;
      found = no_groups me (item ∷ earlier) groups_now ∙ sym (no_groups me earlier groups_before);
      modules = no_message me (item ∷ earlier) groups_now ∙ sym (no_message me earlier groups_before);
    }

of_some : (me : Receiver) (item : Heard) (earlier : List Heard) (c : CarouselFound) → level_5 me (item ∷ earlier) ≡ Some c → level_5 me earlier ≡ Some c → SaysNothing me item c →
    LastStay me item earlier
of_some me item earlier c now before nothing =
    let same : same_carousel (level_5 me (item ∷ earlier)) (level_5 me earlier) ≡ true =
    ap (same_carousel (level_5 me (item ∷ earlier))) (before ∙ sym now) ∙ carousel_itself (level_5 me (item ∷ earlier)) in
    let groups = offers_elsewhere me item earlier c same now nothing.offers in
    let stay : same_offers (level_6 me (item ∷ earlier)) (level_6 me earlier) ≡ true =
    ap (λ os. same_offers os (level_6 me earlier)) groups ∙ offers_itself (level_6 me earlier) in
    let goes = subst (λ (d : Option DiiFields). Goes me item earlier d) nothing.dii (groups_stay me item earlier c now before stay) in
    record {
      groups = groups;
      found = goes.groups;
      modules = goes.message
          ∙ ap (λ fs. next_held None (first_usable fs) (first_usable (groups_found me earlier)) (level_7 me earlier)) goes.groups
          ∙ next_none (first_usable (groups_found me earlier)) (level_7 me earlier);
    }

last_stay : (me : Receiver) (item : Heard) (earlier : List Heard) → level_5 me (item ∷ earlier) ≡ level_5 me earlier →
    ((c : CarouselFound) → level_5 me earlier ≡ Some c → SaysNothing me item c) → LastStay me item earlier
last_stay me item earlier same nothing = by_carousel (level_5 me earlier) refl
  where
    by_carousel : (c : Option CarouselFound) → level_5 me earlier ≡ c → LastStay me item earlier
    by_carousel None e = of_none me item earlier (same ∙ e) e
    by_carousel (Some c) e = of_some me item earlier c (same ∙ e) e (nothing c e)

-- ---- all that is asked

choice_stays : (me : Receiver) (item : Heard) (earlier : List Heard) → LastStay me item earlier → (choice : Choice) → IsChoice me earlier choice → IsChoice me (item ∷ earlier) choice
unfolding chosen_dii
choice_stays me item earlier last choice is = record {
  dii = is.dii;
  read = rw last.modules is.read;
  group = wanted_is me (item ∷ earlier) ∙ ap first_usable last.found ∙ sym (wanted_is me earlier) ∙ is.group;
  software = is.software ∙ ap (offered_by choice.group) (sym last.groups);
  plan = is.plan;
  message = last.modules ∙ is.message;
}

all_stays : (me : Receiver) (item : Heard) (earlier : List Heard) → IsUnmoved me item earlier → LastStay me item earlier → Stays me item earlier
unfolding listened carousel_pid missing report chosen_dii
all_stays me item earlier tables last = record {
  tables = tables;
  groups = last.groups;
  modules = last.modules;
  wanted = wanted_is me (item ∷ earlier) ∙ ap first_usable last.found ∙ sym (wanted_is me earlier);
  choice = choice_stays me item earlier last;
  listened = rw (tables.program, tables.component, tables.carousel) refl;
  carousel = rw tables.carousel refl;
  missing = rw (tables.services, tables.program, tables.component, tables.entries, tables.carousel, last.groups) refl;
  report = rw (tables.services, tables.program, tables.component, tables.entries, tables.carousel, last.groups, last.modules) refl;
}

pub same_answer : (me : Receiver) (item : Heard) (earlier : List Heard) → Stays me item earlier → Same ≡ change_at me item earlier
unfolding change_at
same_answer me item earlier stays = nothing_changes (level_7 me earlier) ∙ ap (change_of (level_7 me earlier)) (sym stays.modules)

-- ---- a section that no reader accepts

nothing_read : {A : Type 0} (read : List ℕ → Option A) (pid : ℕ) (item : Heard) → read item.section ≡ None → option_and_then (λ section. read section) (on pid item) ≡ None
nothing_read read pid item none = by_pid (eqb item.pid pid)
  where
    by_pid : (b : Bool) → option_and_then (λ section. read section) (if b then Some item.section else None) ≡ None
    by_pid true = none
    by_pid false = refl

says_nothing : (me : Receiver) (item : Heard) (c : CarouselFound) → dsi.of item.section ≡ None → dii.of item.section ≡ None → SaysNothing me item c
unfolding offers_said
says_nothing me item c no_dsi no_dii = record {
  offers = ap (option_map (offers_in me c)) (nothing_read (λ section. dsi.of section) c.pid item no_dsi);
  dii = nothing_read (λ section. dii.of section) c.pid item no_dii;
}

pub no_kind_stays : (me : Receiver) (item : Heard) (earlier : List Heard) → IsOfNoKind item.section → Stays me item earlier
no_kind_stays me item earlier none =
    let tables = silent me item earlier (record { pat = none.no_pat; net = none.no_net; pmt = none.no_pmt; unt = none.no_unt; tdt = none.no_tdt; tot = none.no_tot }) in
    all_stays me item earlier tables
    (last_stay me item earlier tables.carousel (λ c e. says_nothing me item c none.no_dsi none.no_dii))

-- ---- a section on a PID that is not listened to

among_append : (pid : ℕ) (xs ys : List ℕ) → is_among pid (xs ++ ys) ≡ false → (is_among pid xs ≡ false) × (is_among pid ys ≡ false)
among_append pid [] ys h = (refl, h)
among_append pid (x ∷ xs) ys h =
    let parts = or_parts (eqb x pid) (is_among pid (xs ++ ys)) h in
    let rest = among_append pid xs ys parts.1 in
    (or_from (eqb x pid) (is_among pid xs) parts.0 rest.0, rest.1)

not_head : (pid x : ℕ) (xs : List ℕ) → is_among pid (x ∷ xs) ≡ false → (pid ≢ x) × (is_among pid xs ≡ false)
not_head pid x xs h =
    let parts = or_parts (eqb x pid) (is_among pid xs) h in
    (λ e. eqb-false x pid parts.0 (sym e), parts.1)

not_there : (pid : ℕ) (o : Option ℕ) → is_among pid (option_to_list o) ≡ false → o ≢ Some pid
not_there pid None h e = cc
not_there pid (Some x) h e = (not_head pid x [] h).0 (some_same pid x (sym e))

record NotListened (me : Receiver) (earlier : List Heard) (pid : ℕ) : Type 0 where
  tables : IsElsewhere me earlier pid
  carousel : option_map (λ c. c.pid) (level_5 me earlier) ≢ Some pid

not_listened : (me : Receiver) (earlier : List Heard) (pid : ℕ) → is_among pid (listened me earlier) ≡ false → NotListened me earlier pid
unfolding listened carousel_pid
not_listened me earlier pid h =
    let program = option_map (λ p. p.pid) (level_2 me earlier) in
    let component = option_map (λ c. c.pid) (level_3 me earlier) in
    let carousel = option_map (λ c. c.pid) (level_5 me earlier) in
    let others = option_to_list program ++ option_to_list component ++ option_to_list carousel in
    let pat = not_head pid pat_pid (nit_pid ∷ bat_pid ∷ time_pid ∷ others) h in
    let nit = not_head pid nit_pid (bat_pid ∷ time_pid ∷ others) pat.1 in
    let bat = not_head pid bat_pid (time_pid ∷ others) nit.1 in
    let time = not_head pid time_pid others bat.1 in
    let last = among_append pid (option_to_list program ++ option_to_list component) (option_to_list carousel) time.1 in
    let first = among_append pid (option_to_list program) (option_to_list component) last.0 in
    record {
      tables = record {
        pat = pat.0;
        nit = nit.0;
        bat = bat.0;
        time = time.0;
        program = not_there pid program first.0;
        component = not_there pid component first.1;
      };
      carousel = not_there pid carousel last.1;
    }

pub unlistened_stays : (me : Receiver) (item : Heard) (earlier : List Heard) → is_among item.pid (listened me earlier) ≡ false → Stays me item earlier
unlistened_stays me item earlier h =
    let other = not_listened me earlier item.pid h in
    let tables = elsewhere me item earlier other.tables in
    all_stays me item earlier tables (last_stay me item earlier tables.carousel (λ c e. off_carousel c e))
  where
    off_carousel : (c : CarouselFound) → level_5 me earlier ≡ Some c → SaysNothing me item c
    off_carousel c e =
        let differs : eqb item.pid c.pid ≡ false =
        ne_eqb item.pid c.pid (λ same. (not_listened me earlier item.pid h).carousel (ap (option_map (λ (c : CarouselFound). c.pid)) e ∙ ap some (sym same))) in
        record { offers = offers_off me c item differs; dii = dii_off c.pid item differs }
