-- One section more: what is kept goes on standing for what was heard.
use Rattle.std.proofs.Common.{◌≡◌, ℕ, eqb, Bool, true, false, ◌&&◌, List, [], ◌∷◌, take, Option, Some, None, refl, ap, ◌∙◌, sym, subst}
use Rattle.std.specs.Prelude.{map, unwrap_or}
use Rattle.std.specs.List.{filter}
use Rattle.std.specs.Option.{option_map, option_and_then}
use Rattle.std.proofs.lemmas.List.Elements.{filter_agree}
use Rattle.route_part.specs.Part.{since}
use Rattle.ts_section.specs.Events.{Heard}
use Rattle.ssu_compat.specs.Match.{matches, offered, admits}
use Rattle.dsmcc_msg.specs.Control.{GroupFields, DsiFields, DiiFields, dsi, dii}
use Rattle.route_tables.specs.Values.{Receiver, CarouselFound, same_carousel}
use Rattle.route_tables.specs.Said.{on}
use Rattle.route_tables.specs.Levels.{level_5}
use Rattle.route_tables.proofs.Same.{carousel_sound}
use Rattle.ssu_route.specs.declared.accept.Terms.{Terms}
use Rattle.ssu_route.specs.declared.change.Change.{Change}
use Rattle.ssu_route.specs.declared.change.Change.TheVariants.{Same}
use Rattle.ssu_route.specs.declared.kept.Kept.{Kept}
use Rattle.ssu_route.specs.Offers.{Offer, carries_subgroup, is_accepted, offer_of, offers_in, offers_said, same_offers}
use Rattle.ssu_route.specs.Choosing.{level_6, level_7}
use Rattle.ssu_route.specs.Windows.{change_at, change_of}
use Rattle.ssu_route.specs.Kept.{accepted_in, is_accepted_by, offer_to, afresh, first_usable, groups_found, marked, message_if, next_held, seen, usable_after}
use Rattle.ssu_route.specs.Route.{Restarts, Takes, WherePlanned, held, AreTermsOf, KeptHears, KeptStands, offers_after}
use Rattle.ssu_route.proofs.Same.{offers_itself}
use Rattle.ssu_route.proofs.TakingLaws.{nothing_changes, take_none}
use Rattle.ssu_route.proofs.LevelSteps.{groups_afresh, groups_now, groups_stay, heard_dii, level_6-changes, level_6-stays, message_afresh, next_offers, no_carousel, no_groups, no_message}

-- ---- the box accepts the same groups by what is kept of it

and_assoc : (a b c : Bool) → (a && (b && c)) ≡ (a && b && c)
and_assoc true b c = refl
and_assoc false b c = refl

accepts_same : (me : Receiver) (terms : Terms) (c : CarouselFound) → AreTermsOf me terms → (g : GroupFields) →
    is_accepted_by terms me.running c.subgroup g ≡ is_accepted me c g
accepts_same me terms c t g =
    rw (t.oui, t.model, t.version, t.rule)
    (and_assoc (matches me.file.id.oui me.file.id.model me.file.id.version g.compat) (admits me.file.rule me.running (offered me.file.id.oui g.compat)) (carries_subgroup c.subgroup g))

offers_same : (me : Receiver) (terms : Terms) → AreTermsOf me terms → (gs : List GroupFields) → map (offer_to terms) gs ≡ map (offer_of me) gs
offers_same me terms t gs = ap (λ oui. map (λ (g : GroupFields). record { group = g.id; software = offered oui g.compat }) gs) t.oui

accepted_same : (me : Receiver) (terms : Terms) (c : CarouselFound) → AreTermsOf me terms → (d : DsiFields) → accepted_in terms me.running c.subgroup d ≡ offers_in me c d
unfolding accepted_in
accepted_same me terms c t d =
    ap (λ gs. take 32 (map (offer_to terms) gs)) (filter_agree (is_accepted_by terms me.running c.subgroup) (is_accepted me c) (accepts_same me terms c t) d.groups)
    ∙ ap (take 32) (offers_same me terms t (filter (is_accepted me c) d.groups))

after_same : (me : Receiver) (terms : Terms) (c : CarouselFound) → AreTermsOf me terms → (d : Option DsiFields) →
    option_map (accepted_in terms me.running c.subgroup) d ≡ option_map (offers_in me c) d
after_same me terms c t None = refl
after_same me terms c t (Some d) = ap (λ os. Some os) (accepted_same me terms c t d)

-- ---- a section of the carousel

on_pid : (pid : ℕ) (item : Heard) → eqb item.pid pid ≡ true → on pid item ≡ Some item.section
on_pid pid item e = rw e refl

off_pid : (pid : ℕ) (item : Heard) → eqb item.pid pid ≡ false → on pid item ≡ None
off_pid pid item e = rw e refl

pub dii_on : (pid : ℕ) (item : Heard) → eqb item.pid pid ≡ true → heard_dii pid item ≡ dii.of item.section
dii_on pid item e = ap (option_and_then (λ section. dii.of section)) (on_pid pid item e)

pub dii_off : (pid : ℕ) (item : Heard) → eqb item.pid pid ≡ false → heard_dii pid item ≡ None
dii_off pid item e = ap (option_and_then (λ section. dii.of section)) (off_pid pid item e)

pub offers_off : (me : Receiver) (c : CarouselFound) (item : Heard) → eqb item.pid c.pid ≡ false → offers_said me c item ≡ None
unfolding offers_said
offers_off me c item e = ap (λ s. option_map (offers_in me c) (option_and_then (λ section. dsi.of section) s)) (off_pid c.pid item e)

offers_on : (me : Receiver) (c : CarouselFound) (item : Heard) → eqb item.pid c.pid ≡ true → offers_said me c item ≡ option_map (offers_in me c) (dsi.of item.section)
unfolding offers_said
offers_on me c item e = ap (λ s. option_map (offers_in me c) (option_and_then (λ section. dsi.of section) s)) (on_pid c.pid item e)

-- ---- the cases

-- the groups stay
takes_stand : (me : Receiver) (item : Heard) (earlier : List Heard) (c : CarouselFound) (old new : Kept) (answer : Change) →
    level_5 me (item ∷ earlier) ≡ Some c → level_5 me earlier ≡ Some c → same_offers (level_6 me (item ∷ earlier)) (level_6 me earlier) ≡ true →
    KeptStands me earlier old → Takes me.bank_len (heard_dii c.pid item) old new answer → KeptHears me item earlier new answer
unfolding change_at
takes_stand me item earlier c old new answer now before same stands takes =
    let goes = groups_stay me item earlier c now before same in
    let d = heard_dii c.pid item in
    let groups : new.groups.items ≡ groups_found me (item ∷ earlier) = takes.groups ∙ ap (marked me.bank_len d) stands.groups ∙ sym goes.groups in
    let message : held new ≡ level_7 me (item ∷ earlier) =
    takes.message
    ∙ ap (λ fs. next_held d (first_usable fs) (first_usable old.groups.items) (held old)) groups
    ∙ ap (λ fs. next_held d (first_usable (groups_found me (item ∷ earlier))) (first_usable fs) (held old)) stands.groups
    ∙ ap (next_held d (first_usable (groups_found me (item ∷ earlier))) (first_usable (groups_found me earlier))) stands.message
    ∙ sym goes.message in
    record {
      stands = record { groups = groups; message = message; planned = takes.planned };
      change = takes.change ∙ ap (λ m. change_of m (held new)) stands.message ∙ ap (change_of (level_7 me earlier)) message;
    }

-- other groups, or none
begins_anew : (me : Receiver) (item : Heard) (earlier : List Heard) (old new : Kept) (answer : Change) → KeptStands me earlier old →
    new.groups.items ≡ groups_found me (item ∷ earlier) → level_7 me (item ∷ earlier) ≡ None → new.choice ≡ None → answer ≡ change_of (held old) None →
    KeptHears me item earlier new answer
unfolding change_at
begins_anew me item earlier old new answer stands groups none choice change =
    let held_new : held new ≡ None = ap message_if choice in
    record {
      stands = record {
        groups = groups;
        message = held_new ∙ sym none;
        planned = λ c e. let f = sym choice ∙ e in cc;
      };
      change = change ∙ ap (λ m. change_of m None) stands.message ∙ ap (change_of (level_7 me earlier)) (sym none);
    }

pub hears_other_carousel : (me : Receiver) (item : Heard) (earlier : List Heard) (old new : Kept) (answer : Change) →
    same_carousel (level_5 me (item ∷ earlier)) (level_5 me earlier) ≡ false → KeptStands me earlier old →
    new.groups.items ≡ [] → new.choice ≡ None → answer ≡ change_of (held old) None → KeptHears me item earlier new answer
hears_other_carousel me item earlier old new answer differs stands groups choice change =
    let none = level_6-changes me item earlier differs in
    begins_anew me item earlier old new answer stands (groups ∙ sym (no_groups me (item ∷ earlier) none)) (no_message me (item ∷ earlier) none) choice change

pub hears_no_carousel : (me : Receiver) (item : Heard) (earlier : List Heard) (old : Kept) →
    same_carousel (level_5 me (item ∷ earlier)) (level_5 me earlier) ≡ true → level_5 me (item ∷ earlier) ≡ None → KeptStands me earlier old →
    KeptHears me item earlier old Same
unfolding change_at
hears_no_carousel me item earlier old same none stands =
    let before : level_5 me earlier ≡ None = sym (carousel_sound (level_5 me (item ∷ earlier)) (level_5 me earlier) same) ∙ none in
    let offers_before = no_carousel me earlier before in
    let offers_now = no_carousel me (item ∷ earlier) none in
    let message : level_7 me earlier ≡ level_7 me (item ∷ earlier) = no_message me earlier offers_before ∙ sym (no_message me (item ∷ earlier) offers_now) in
    record {
      stands = record {
        groups = stands.groups ∙ no_groups me earlier offers_before ∙ sym (no_groups me (item ∷ earlier) offers_now);
        message = stands.message ∙ message;
        planned = stands.planned;
      };
      change = nothing_changes (level_7 me earlier) ∙ ap (change_of (level_7 me earlier)) message;
    }

-- the groups where no DSI is heard
pub offers_elsewhere : (me : Receiver) (item : Heard) (earlier : List Heard) (c : CarouselFound) → same_carousel (level_5 me (item ∷ earlier)) (level_5 me earlier) ≡ true →
    level_5 me (item ∷ earlier) ≡ Some c → offers_said me c item ≡ None → level_6 me (item ∷ earlier) ≡ level_6 me earlier
offers_elsewhere me item earlier c same now none =
    level_6-stays me item earlier same ∙ ap (λ x. next_offers me x item (level_6 me earlier)) now ∙ ap (λ x. unwrap_or x (level_6 me earlier)) none

pub hears_elsewhere : (me : Receiver) (item : Heard) (earlier : List Heard) (c : CarouselFound) (old : Kept) →
    same_carousel (level_5 me (item ∷ earlier)) (level_5 me earlier) ≡ true → level_5 me (item ∷ earlier) ≡ Some c → eqb item.pid c.pid ≡ false → KeptStands me earlier old →
    KeptHears me item earlier old Same
hears_elsewhere me item earlier c old same now elsewhere stands =
    let before : level_5 me earlier ≡ Some c = sym (carousel_sound (level_5 me (item ∷ earlier)) (level_5 me earlier) same) ∙ now in
    let offers = offers_elsewhere me item earlier c same now (offers_off me c item elsewhere) in
    let stay : same_offers (level_6 me (item ∷ earlier)) (level_6 me earlier) ≡ true =
    ap (λ os. same_offers os (level_6 me earlier)) offers ∙ offers_itself (level_6 me earlier) in
    let takes : Takes me.bank_len (heard_dii c.pid item) old old Same =
    subst (λ (d : Option DiiFields). Takes me.bank_len d old old Same) (sym (dii_off c.pid item elsewhere)) (take_none me.bank_len old stands.planned) in
    takes_stand me item earlier c old old Same now before stay stands takes

pub hears_carousel : (me : Receiver) (terms : Terms) (item : Heard) (earlier : List Heard) (c : CarouselFound) (old new : Kept) (answer : Change) → AreTermsOf me terms →
    same_carousel (level_5 me (item ∷ earlier)) (level_5 me earlier) ≡ true → level_5 me (item ∷ earlier) ≡ Some c → eqb item.pid c.pid ≡ true → KeptStands me earlier old →
    ((usable : ℕ → Bool) (offers : List Offer) → old.groups.items ≡ map (seen usable) offers → WherePlanned terms.bank_len old →
    same_offers (offers_after terms me.running c.subgroup item.section offers) offers ≡ true → Takes terms.bank_len (dii.of item.section) old new answer) →
    ((usable : ℕ → Bool) (offers : List Offer) → old.groups.items ≡ map (seen usable) offers →
    same_offers (offers_after terms me.running c.subgroup item.section offers) offers ≡ false → Restarts (offers_after terms me.running c.subgroup item.section offers) old new answer) →
    KeptHears me item earlier new answer
hears_carousel me terms item earlier c old new answer t same now here stands stays fresh =
    let before : level_5 me earlier ≡ Some c = sym (carousel_sound (level_5 me (item ∷ earlier)) (level_5 me earlier) same) ∙ now in
    let part = since same_offers (level_6 me) earlier in
    let usable = usable_after me.bank_len c.pid part in
    let groups : old.groups.items ≡ map (seen usable) (level_6 me earlier) = stands.groups ∙ groups_now me earlier c (level_6 me earlier) part before refl refl in
    let offers : level_6 me (item ∷ earlier) ≡ offers_after terms me.running c.subgroup item.section (level_6 me earlier) =
    level_6-stays me item earlier same ∙ ap (λ x. next_offers me x item (level_6 me earlier)) now
    ∙ ap (λ x. unwrap_or x (level_6 me earlier)) (offers_on me c item here ∙ sym (after_same me terms c t (dsi.of item.section))) in
    let planned : WherePlanned terms.bank_len old = subst (λ (n : ℕ). WherePlanned n old) (sym t.bank_len) stands.planned in
    let by_offers : (b : Bool) → same_offers (offers_after terms me.running c.subgroup item.section (level_6 me earlier)) (level_6 me earlier) ≡ b → KeptHears me item earlier new answer =
    elim [
      | true ↦ λ e.
          takes_stand me item earlier c old new answer now before (ap (λ os. same_offers os (level_6 me earlier)) offers ∙ e) stands
          (subst (λ (n : ℕ). Takes n (heard_dii c.pid item) old new answer) t.bank_len
          (subst (λ (d : Option DiiFields). Takes terms.bank_len d old new answer) (sym (dii_on c.pid item here)) (stays usable (level_6 me earlier) groups planned e)))
      | false ↦ λ e.
          let differs : same_offers (level_6 me (item ∷ earlier)) (level_6 me earlier) ≡ false = ap (λ os. same_offers os (level_6 me earlier)) offers ∙ e in
          let restarts = fresh usable (level_6 me earlier) groups e in
          begins_anew me item earlier old new answer stands
          (restarts.groups ∙ ap (map afresh) (sym offers) ∙ sym (groups_afresh me item earlier differs))
          (message_afresh me item earlier differs) restarts.choice restarts.change
    ] in
    by_offers (same_offers (offers_after terms me.running c.subgroup item.section (level_6 me earlier)) (level_6 me earlier)) refl
