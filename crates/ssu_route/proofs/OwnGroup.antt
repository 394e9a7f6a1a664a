-- The message of level 7 is of a DII of the wanted group, and that DII can be used. So a choice is the same one as long
-- as nothing changes.
use Rattle.std.proofs.Common.{◌≡◌, ℕ, eqb, Bool, true, false, not, List, [], ◌∷◌, Option, Some, None, refl, ap, ◌∙◌, sym}
use Rattle.std.specs.Prelude.{if◌then◌else◌, is_some, IsSome}
use Rattle.std.specs.Option.{option_and_then, option_map, option_or}
use Rattle.std.proofs.lemmas.Bool.{eq-eqb, eqb-true}
use Rattle.route_part.specs.Part.{since}
use Rattle.route_part.specs.Said.{last_said}
use Rattle.route_part.proofs.Steps.{last_said-step, since-stays}
use Rattle.ts_section.specs.Events.{Heard}
use Rattle.dsmcc_msg.specs.Control.{DiiFields, dii}
use Rattle.dsmcc_msg.proofs.Exact.{dii_exact}
use Rattle.ssu_group.specs.Refusal.{refusal}
use Rattle.route_tables.specs.Values.{Receiver, CarouselFound, same_carousel}
use Rattle.route_tables.specs.Levels.{level_5}
use Rattle.route_tables.proofs.Same.{carousel_sound}
use Rattle.ssu_route.specs.declared.change.Change.TheVariants.{Same}
use Rattle.ssu_route.specs.declared.choice.Choice.{Choice}
use Rattle.ssu_route.specs.Offers.{dii_if, dii_of, dii_said, same_group, same_offers}
use Rattle.ssu_route.specs.Choosing.{is_usable, level_6, level_7, message_bytes, wanted}
use Rattle.ssu_route.specs.Windows.{IsChoice, change_at, chosen_dii, offered_by}
use Rattle.ssu_route.specs.Route.{IsPlanOfOwnMessage}
use Rattle.ssu_route.specs.Kept.{first_usable, groups_found, message_for, usable_after}
use Rattle.ssu_route.proofs.Same.{group_sound, offers_sound}
use Rattle.ssu_route.proofs.Choices.{is_some-false, level_7-none, same_stays}
use Rattle.ssu_route.proofs.LevelSteps.{groups_now, groups_stay, heard_dii, level_6-changes, message_afresh, no_carousel, no_message, wanted_is}
use Rattle.ssu_route.proofs.Messages.{message_read}
use Rattle.ssu_route.proofs.TakingLaws.{seen_first, some, some_same}

pub record IsOwn (me : Receiver) (heard : List Heard) (message : List ℕ) : Type 0 where
  pub dii : DiiFields
  pub read : dii_of message ≡ Some dii
  pub first : first_usable (groups_found me heard) ≡ Some dii.transaction
  pub usable : refusal dii me.bank_len ≡ None

-- ---- the DII of the section is of the wanted group

record IsFor (w : Option ℕ) (d : Option DiiFields) (message : List ℕ) : Type 0 where
  dii : DiiFields
  heard : d ≡ Some dii
  own : w ≡ Some dii.transaction
  bytes : dii.message ≡ message

for_group : (group : ℕ) (d : DiiFields) (message : List ℕ) (b : Bool) → eqb d.transaction group ≡ b → option_map message_bytes (if b then Some d else None) ≡ Some message →
    IsFor (Some group) (Some d) message
for_group group d message true e h = record {
  dii = d;
  heard = refl;
  own = ap some (sym (eqb-true d.transaction group e));
  bytes = some_same d.message message h;
}
for_group group d message false e h = cc

is_for : (w : Option ℕ) (d : Option DiiFields) (message : List ℕ) → message_for w d ≡ Some message → IsFor w d message
is_for None d message h = cc
is_for (Some group) None message h = cc
is_for (Some group) (Some d) message h = for_group group d message (eqb d.transaction group) refl h

section_of : (pid : ℕ) (item : Heard) (b : Bool) (d : DiiFields) → option_and_then (λ section. dii.of section) (if b then Some item.section else None) ≡ Some d → dii.of item.section ≡ Some d
section_of pid item true d h = h
section_of pid item false d h = cc

not_refused : (d : DiiFields) (bank_len : ℕ) → not (is_some (refusal d bank_len)) ≡ true → refusal d bank_len ≡ None
not_refused d bank_len h = by_refusal (is_some (refusal d bank_len)) refl h
  where
    by_refusal : (b : Bool) → is_some (refusal d bank_len) ≡ b → not b ≡ true → refusal d bank_len ≡ None
    by_refusal true e k = cc
    by_refusal false e k = is_some-false (refusal d bank_len) e

usable_own : (bank_len pid : ℕ) (item : Heard) (part : List Heard) (d : DiiFields) → heard_dii pid item ≡ Some d → usable_after bank_len pid (item ∷ part) d.transaction ≡ true →
    not (is_some (refusal d bank_len)) ≡ true
unfolding dii_said
usable_own bank_len pid item part d e h =
    let said : dii_said pid d.transaction item ≡ Some d = ap (option_and_then (dii_if d.transaction)) e ∙ ap (λ b. if b then some d else None) (eq-eqb d.transaction d.transaction refl) in
    sym (ap (is_usable bank_len) (last_said-step (dii_said pid d.transaction) item part ∙ ap (λ x. option_or x (last_said (dii_said pid d.transaction) part)) said)) ∙ h

own_now : (me : Receiver) (item : Heard) (earlier : List Heard) (c : CarouselFound) (message : List ℕ) → level_5 me (item ∷ earlier) ≡ Some c →
    same_offers (level_6 me (item ∷ earlier)) (level_6 me earlier) ≡ true → IsFor (first_usable (groups_found me (item ∷ earlier))) (heard_dii c.pid item) message →
    IsOwn me (item ∷ earlier) message
own_now me item earlier c message now same for =
    let part = since same_offers (level_6 me) earlier in
    let groups = groups_now me (item ∷ earlier) c (level_6 me (item ∷ earlier)) (item ∷ part) now refl (since-stays same_offers (level_6 me) item earlier same) in
    let first = sym (ap first_usable groups) ∙ for.own in
    let stands = seen_first (usable_after me.bank_len c.pid (item ∷ part)) (level_6 me (item ∷ earlier)) for.dii.transaction first in
    let spelled = dii_exact.takes item.section for.dii (section_of c.pid item (eqb item.pid c.pid) for.dii for.heard) in
    record {
      dii = for.dii;
      read = ap dii_of (sym for.bytes) ∙ message_read for.dii item.section spelled;
      first = for.own;
      usable = not_refused for.dii me.bank_len (usable_own me.bank_len c.pid item part for.dii for.heard stands);
    }

-- ---- one section more

held_before : (b : Bool) (before : Option (List ℕ)) (message : List ℕ) → (if b then before else None) ≡ Some message → (b ≡ true) × (before ≡ Some message)
held_before true before message h = (refl, h)
held_before false before message h = cc

own_next : (me : Receiver) (item : Heard) (earlier : List Heard) (c : CarouselFound) (message : List ℕ) → level_5 me (item ∷ earlier) ≡ Some c →
    same_offers (level_6 me (item ∷ earlier)) (level_6 me earlier) ≡ true → ((m : List ℕ) → level_7 me earlier ≡ Some m → IsOwn me earlier m) →
    (said : Option (List ℕ)) → message_for (first_usable (groups_found me (item ∷ earlier))) (heard_dii c.pid item) ≡ said →
    option_or said (if same_group (first_usable (groups_found me (item ∷ earlier))) (first_usable (groups_found me earlier)) then level_7 me earlier else None) ≡ Some message →
    IsOwn me (item ∷ earlier) message
own_next me item earlier c message now same own (Some m) e h =
    own_now me item earlier c message now same (is_for (first_usable (groups_found me (item ∷ earlier))) (heard_dii c.pid item) message (e ∙ h))
own_next me item earlier c message now same own None e h =
    let kept = held_before (same_group (first_usable (groups_found me (item ∷ earlier))) (first_usable (groups_found me earlier))) (level_7 me earlier) message h in
    let before = own message kept.1 in
    record {
      dii = before.dii;
      read = before.read;
      first = group_sound (first_usable (groups_found me (item ∷ earlier))) (first_usable (groups_found me earlier)) kept.0 ∙ before.first;
      usable = before.usable;
    }

none_there : (me : Receiver) (heard : List Heard) (message : List ℕ) → level_7 me heard ≡ None → level_7 me heard ≡ Some message → IsOwn me heard message
none_there me heard message none h = let f = sym none ∙ h in cc

own_step : (me : Receiver) (item : Heard) (earlier : List Heard) (message : List ℕ) → ((m : List ℕ) → level_7 me earlier ≡ Some m → IsOwn me earlier m) →
    level_7 me (item ∷ earlier) ≡ Some message → IsOwn me (item ∷ earlier) message
own_step me item earlier message own h = by_test (same_carousel (level_5 me (item ∷ earlier)) (level_5 me earlier)) refl
  where
    by_offers : (c : CarouselFound) → level_5 me (item ∷ earlier) ≡ Some c → level_5 me earlier ≡ Some c → (b : Bool) → same_offers (level_6 me (item ∷ earlier)) (level_6 me earlier) ≡ b →
        IsOwn me (item ∷ earlier) message
    by_offers c now before true e =
        own_next me item earlier c message now e own (message_for (first_usable (groups_found me (item ∷ earlier))) (heard_dii c.pid item)) refl
        (sym (groups_stay me item earlier c now before e).message ∙ h)
    by_offers c now before false e = none_there me (item ∷ earlier) message (message_afresh me item earlier e) h

    by_carousel : (c : Option CarouselFound) → level_5 me (item ∷ earlier) ≡ c → level_5 me (item ∷ earlier) ≡ level_5 me earlier → IsOwn me (item ∷ earlier) message
    by_carousel None now stays = none_there me (item ∷ earlier) message (no_message me (item ∷ earlier) (no_carousel me (item ∷ earlier) now)) h
    by_carousel (Some c) now stays = by_offers c now (sym stays ∙ now) (same_offers (level_6 me (item ∷ earlier)) (level_6 me earlier)) refl

    by_test : (b : Bool) → same_carousel (level_5 me (item ∷ earlier)) (level_5 me earlier) ≡ b → IsOwn me (item ∷ earlier) message
    by_test true e = by_carousel (level_5 me (item ∷ earlier)) refl (carousel_sound (level_5 me (item ∷ earlier)) (level_5 me earlier) e)
    by_test false e = none_there me (item ∷ earlier) message (no_message me (item ∷ earlier) (level_6-changes me item earlier e)) h

pub is_own : (me : Receiver) (heard : List Heard) (message : List ℕ) → level_7 me heard ≡ Some message → IsOwn me heard message
is_own me [] message h = none_there me [] message (level_7-none me) h
is_own me (item ∷ earlier) message h = own_step me item earlier message (is_own me earlier) h

-- ---- the choice stays

pub groups_same : (me : Receiver) (item : Heard) (earlier : List Heard) → IsSome (level_7 me (item ∷ earlier)) → level_6 me (item ∷ earlier) ≡ level_6 me earlier
groups_same me item earlier stood = by_offers (same_offers (level_6 me (item ∷ earlier)) (level_6 me earlier)) refl
  where
    by_offers : (b : Bool) → same_offers (level_6 me (item ∷ earlier)) (level_6 me earlier) ≡ b → level_6 me (item ∷ earlier) ≡ level_6 me earlier
    by_offers true e = offers_sound (level_6 me (item ∷ earlier)) (level_6 me earlier) e
    by_offers false e = let f = sym (ap is_some (message_afresh me item earlier e)) ∙ stood in cc

own_first : (me : Receiver) (item : Heard) (earlier : List Heard) (m : Option (List ℕ)) → level_7 me earlier ≡ m → level_7 me (item ∷ earlier) ≡ m → IsSome m →
    wanted me (item ∷ earlier) ≡ wanted me earlier
own_first me item earlier None before now stood = cc
own_first me item earlier (Some m) before now stood =
    let was = is_own me earlier m before in
    let is = is_own me (item ∷ earlier) m now in
    let same : is.dii ≡ was.dii = some_same is.dii was.dii (sym is.read ∙ was.read) in
    wanted_is me (item ∷ earlier) ∙ is.first ∙ ap (λ (d : DiiFields). some d.transaction) same ∙ sym was.first ∙ sym (wanted_is me earlier)

pub wanted_same : (me : Receiver) (item : Heard) (earlier : List Heard) → change_at me item earlier ≡ Same → IsSome (level_7 me (item ∷ earlier)) →
    wanted me (item ∷ earlier) ≡ wanted me earlier
wanted_same me item earlier e stood = own_first me item earlier (level_7 me (item ∷ earlier)) (sym (same_stays me item earlier e)) refl stood

pub choice_same : (me : Receiver) (item : Heard) (earlier : List Heard) (choice : Choice) → change_at me item earlier ≡ Same → IsSome (level_7 me (item ∷ earlier)) →
    IsChoice me earlier choice → IsChoice me (item ∷ earlier) choice
unfolding chosen_dii
choice_same me item earlier choice e stood is = record {
  dii = is.dii;
  read = ap (option_and_then dii_of) (same_stays me item earlier e) ∙ is.read;
  group = wanted_same me item earlier e stood ∙ is.group;
  software = is.software ∙ ap (offered_by choice.group) (sym (groups_same me item earlier stood));
  plan = is.plan;
  message = same_stays me item earlier e ∙ is.message;
}

-- ---- the choice has the message of its DII

pub of_own_message : (me : Receiver) (heard : List Heard) (choice : Choice) → IsChoice me heard choice → IsPlanOfOwnMessage me.bank_len choice
unfolding chosen_dii dii_of
of_own_message me heard choice is =
    let own = is_own me heard choice.message.items is.message in
    let same : own.dii ≡ is.dii = some_same own.dii is.dii (sym own.read ∙ sym (ap (option_and_then dii_of) is.message) ∙ is.read) in
    record {
      dii = is.dii;
      reads = sym (ap (option_and_then dii_of) is.message) ∙ is.read;
      usable = ap (λ d. refusal d me.bank_len) (sym same) ∙ own.usable;
      lays = is.plan;
    }
