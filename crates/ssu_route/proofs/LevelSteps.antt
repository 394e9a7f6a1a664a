-- One section more at the last two levels.
use Rattle.std.proofs.Common.{◌≡◌, ℕ, eqb, Bool, true, false, not, List, [], ◌∷◌, Option, Some, None, refl, ap, ◌∙◌, sym}
use Rattle.std.specs.Prelude.{map, if◌then◌else◌, is_some, unwrap_or}
use Rattle.std.specs.List.{find}
use Rattle.std.specs.Option.{option_map, option_and_then, option_or}
use Rattle.std.proofs.lemmas.Bool.{eqb-true, eq-eqb, eqb-false, ne_eqb}
use Rattle.route_part.specs.Said.{StepsBy, last_said, held_said}
use Rattle.route_part.specs.Part.{since}
use Rattle.route_part.proofs.Steps.{by_part, held_said-none, held_said-step, last_said-none, last_said-step, since-changes, since-stays}
use Rattle.ts_section.specs.Events.{Heard}
use Rattle.dsmcc_msg.specs.Control.{DiiFields, dii}
use Rattle.ssu_group.specs.Refusal.{refusal}
use Rattle.route_tables.specs.Values.{Receiver, CarouselFound, same_carousel}
use Rattle.route_tables.specs.Said.{on}
use Rattle.route_tables.specs.Levels.{level_5}
use Rattle.route_tables.proofs.Same.{carousel_sound}
use Rattle.ssu_route.specs.declared.found.Found.{Found}
use Rattle.ssu_route.specs.Offers.{Offer, dii_if, dii_said, offers_said, same_group, same_offers}
use Rattle.ssu_route.specs.Choosing.{group_of, is_usable, level_6, level_7, message_by, message_said, offers_by, wanted, wanted_at, wanted_by}
use Rattle.ssu_route.specs.Kept.{afresh, first_usable, groups_by, groups_found, mark_if, marked, message_for, next_held, seen, usable_after}
use Rattle.ssu_route.proofs.Same.{group_sound, offers_sound}
use Rattle.ssu_route.proofs.TakingLaws.{first-cons}

-- ---- level 6

-- what a DSI makes of the groups
abbrev pub next_offers : Receiver → Option CarouselFound → Heard → List Offer → List Offer
next_offers me None item offers = offers
next_offers me (Some c) item offers = unwrap_or (offers_said me c item) offers

unwrap_or-or : (a b : Option (List Offer)) → unwrap_or (option_or a b) [] ≡ unwrap_or a (unwrap_or b [])
unwrap_or-or None b = refl
unwrap_or-or (Some x) b = refl

offers_steps : (me : Receiver) → StepsBy (offers_by me) (next_offers me)
offers_steps me None item part = refl
offers_steps me (Some c) item part =
    ap (λ x. unwrap_or x []) (last_said-step (offers_said me c) item part) ∙ unwrap_or-or (offers_said me c item) (last_said (offers_said me c) part)

offers_by-none : (me : Receiver) (c : Option CarouselFound) → offers_by me c [] ≡ []
offers_by-none me None = refl
offers_by-none me (Some c) = rw (last_said-none (offers_said me c)) refl

level_6-step : (me : Receiver) (item : Heard) (earlier : List Heard) →
    level_6 me (item ∷ earlier) ≡ (if same_carousel (level_5 me (item ∷ earlier)) (level_5 me earlier)
    then next_offers me (level_5 me (item ∷ earlier)) item (level_6 me earlier)
    else offers_by me (level_5 me (item ∷ earlier)) [])
unfolding level_6
level_6-step me item earlier = by_part same_carousel (level_5 me) (offers_by me) (next_offers me) carousel_sound (offers_steps me) item earlier

-- where the carousel changes there is no group
pub level_6-changes : (me : Receiver) (item : Heard) (earlier : List Heard) → same_carousel (level_5 me (item ∷ earlier)) (level_5 me earlier) ≡ false →
    level_6 me (item ∷ earlier) ≡ []
level_6-changes me item earlier e =
    level_6-step me item earlier
    ∙ ap (λ b. if b then next_offers me (level_5 me (item ∷ earlier)) item (level_6 me earlier) else offers_by me (level_5 me (item ∷ earlier)) []) e
    ∙ offers_by-none me (level_5 me (item ∷ earlier))

-- and where it stays a DSI may bring others
pub level_6-stays : (me : Receiver) (item : Heard) (earlier : List Heard) → same_carousel (level_5 me (item ∷ earlier)) (level_5 me earlier) ≡ true →
    level_6 me (item ∷ earlier) ≡ next_offers me (level_5 me (item ∷ earlier)) item (level_6 me earlier)
level_6-stays me item earlier e =
    level_6-step me item earlier
    ∙ ap (λ b. if b then next_offers me (level_5 me (item ∷ earlier)) item (level_6 me earlier) else offers_by me (level_5 me (item ∷ earlier)) []) e

-- without a carousel there is no group
pub no_carousel : (me : Receiver) (heard : List Heard) → level_5 me heard ≡ None → level_6 me heard ≡ []
unfolding level_6
no_carousel me heard e = rw e refl

-- ---- without a group

groups_by-none : (bank_len : ℕ) (c : Option CarouselFound) (part : List Heard) → groups_by bank_len c [] part ≡ []
groups_by-none bank_len None part = refl
groups_by-none bank_len (Some c) part = refl

pub no_groups : (me : Receiver) (heard : List Heard) → level_6 me heard ≡ [] → groups_found me heard ≡ []
unfolding groups_found
no_groups me heard e = rw e (groups_by-none me.bank_len (level_5 me heard) (since same_offers (level_6 me) heard))

either_none : (b : Bool) (x : Option (List ℕ)) → x ≡ None → (if b then x else None) ≡ None
either_none true x e = e
either_none false x e = refl

nothing_held : (bank_len pid : ℕ) (part : List Heard) → held_said same_group (wanted_by bank_len pid []) (message_said pid) part ≡ None
nothing_held bank_len pid [] = held_said-none same_group (wanted_by bank_len pid []) (message_said pid)
nothing_held bank_len pid (item ∷ part) =
    held_said-step same_group (wanted_by bank_len pid []) (message_said pid) group_sound item part
    ∙ either_none (same_group None None) (held_said same_group (wanted_by bank_len pid []) (message_said pid) part) (nothing_held bank_len pid part)

message_by-none : (bank_len : ℕ) (c : Option CarouselFound) (part : List Heard) → message_by bank_len c [] part ≡ None
message_by-none bank_len None part = refl
message_by-none bank_len (Some c) part = nothing_held bank_len c.pid part

pub no_message : (me : Receiver) (heard : List Heard) → level_6 me heard ≡ [] → level_7 me heard ≡ None
unfolding level_7
no_message me heard e = rw e (message_by-none me.bank_len (level_5 me heard) (since same_offers (level_6 me) heard))

-- ---- other groups

seen_agree : (u v : ℕ → Bool) → ((group : ℕ) → u group ≡ v group) → (os : List Offer) → map (seen u) os ≡ map (seen v) os
seen_agree u v agree [] = refl
seen_agree u v agree (o ∷ os) =
    ap (λ b. record (seen u o) { usable = b } ∷ map (seen u) os) (agree o.group) ∙ ap (λ fs. seen v o ∷ fs) (seen_agree u v agree os)

fresh_groups : (bank_len : ℕ) (c : Option CarouselFound) (os : List Offer) → (c ≡ None → os ≡ []) → groups_by bank_len c os [] ≡ map afresh os
fresh_groups bank_len None os h = sym (ap (map afresh) (h refl))
fresh_groups bank_len (Some c) os h =
    seen_agree (usable_after bank_len c.pid []) (λ _. true) (λ group. ap (is_usable bank_len) (last_said-none (dii_said c.pid group))) os

pub groups_afresh : (me : Receiver) (item : Heard) (earlier : List Heard) → same_offers (level_6 me (item ∷ earlier)) (level_6 me earlier) ≡ false →
    groups_found me (item ∷ earlier) ≡ map afresh (level_6 me (item ∷ earlier))
unfolding groups_found
groups_afresh me item earlier e =
    ap (groups_by me.bank_len (level_5 me (item ∷ earlier)) (level_6 me (item ∷ earlier))) (since-changes same_offers (level_6 me) item earlier e)
    ∙ fresh_groups me.bank_len (level_5 me (item ∷ earlier)) (level_6 me (item ∷ earlier)) (no_carousel me (item ∷ earlier))

message_by-fresh : (bank_len : ℕ) (c : Option CarouselFound) (os : List Offer) → message_by bank_len c os [] ≡ None
message_by-fresh bank_len None os = refl
message_by-fresh bank_len (Some c) os = held_said-none same_group (wanted_by bank_len c.pid os) (message_said c.pid)

pub message_afresh : (me : Receiver) (item : Heard) (earlier : List Heard) → same_offers (level_6 me (item ∷ earlier)) (level_6 me earlier) ≡ false →
    level_7 me (item ∷ earlier) ≡ None
unfolding level_7
message_afresh me item earlier e =
    ap (message_by me.bank_len (level_5 me (item ∷ earlier)) (level_6 me (item ∷ earlier))) (since-changes same_offers (level_6 me) item earlier e)
    ∙ message_by-fresh me.bank_len (level_5 me (item ∷ earlier)) (level_6 me (item ∷ earlier))

-- ---- the same groups

-- the DII that was heard on this PID, of any group
abbrev pub heard_dii : ℕ → Heard → Option DiiFields
heard_dii pid item = option_and_then (λ section. dii.of section) (on pid item)

abbrev mark_by : ℕ → Option DiiFields → Found → Found
mark_by bank_len None f = f
mark_by bank_len (Some d) f = mark_if d.transaction (not (is_some (refusal d bank_len))) f

abbrev with_mark : Offer → Bool → Found
with_mark o usable = record { group = o.group; software = o.software; usable = usable }

dii_of_group : (bank_len : ℕ) (d : DiiFields) (last : Option DiiFields) (o : Offer) (b : Bool) → eqb o.group d.transaction ≡ b →
    with_mark o (is_usable bank_len (option_or (dii_if o.group d) last)) ≡ mark_by bank_len (Some d) (with_mark o (is_usable bank_len last))
dii_of_group bank_len d last o true e =
    let turned : eqb d.transaction o.group ≡ true = eq-eqb d.transaction o.group (sym (eqb-true o.group d.transaction e)) in
    rw (turned, e) refl
dii_of_group bank_len d last o false e =
    let turned : eqb d.transaction o.group ≡ false = ne_eqb d.transaction o.group (λ same. eqb-false o.group d.transaction e (sym same)) in
    rw (turned, e) refl

one_marked : (bank_len : ℕ) (h last : Option DiiFields) (o : Offer) →
    with_mark o (is_usable bank_len (option_or (option_and_then (dii_if o.group) h) last)) ≡ mark_by bank_len h (with_mark o (is_usable bank_len last))
one_marked bank_len None last o = refl
one_marked bank_len (Some d) last o = dii_of_group bank_len d last o (eqb o.group d.transaction) refl

marked_all : (bank_len : ℕ) (h : Option DiiFields) (fs : List Found) → marked bank_len h fs ≡ map (mark_by bank_len h) fs
marked_all bank_len None [] = refl
marked_all bank_len None (f ∷ fs) = ap (λ rest. f ∷ rest) (marked_all bank_len None fs)
marked_all bank_len (Some d) fs = refl

usable-step : (bank_len pid : ℕ) (item : Heard) (part : List Heard) (o : Offer) →
    seen (usable_after bank_len pid (item ∷ part)) o ≡ mark_by bank_len (heard_dii pid item) (seen (usable_after bank_len pid part) o)
unfolding dii_said
usable-step bank_len pid item part o =
    ap (λ x. with_mark o (is_usable bank_len x)) (last_said-step (dii_said pid o.group) item part)
    ∙ one_marked bank_len (heard_dii pid item) (last_said (dii_said pid o.group) part) o

marks-step : (bank_len pid : ℕ) (item : Heard) (part : List Heard) (os : List Offer) →
    map (seen (usable_after bank_len pid (item ∷ part))) os ≡ map (mark_by bank_len (heard_dii pid item)) (map (seen (usable_after bank_len pid part)) os)
marks-step bank_len pid item part [] = refl
marks-step bank_len pid item part (o ∷ os) =
    ap (λ f. f ∷ map (seen (usable_after bank_len pid (item ∷ part))) os) (usable-step bank_len pid item part o)
    ∙ ap (λ fs. mark_by bank_len (heard_dii pid item) (seen (usable_after bank_len pid part) o) ∷ fs) (marks-step bank_len pid item part os)

-- the first group that stands
first_found : (u : ℕ → Bool) (os : List Offer) → option_map group_of (find (λ o. u o.group) os) ≡ first_usable (map (seen u) os)
unfolding first_usable
first_found u [] = refl
first_found u (o ∷ os) = by_mark u o os (u o.group) (first_found u os) ∙ sym (first-cons (seen u o) (map (seen u) os))
  where
    by_mark : (u : ℕ → Bool) (o : Offer) (os : List Offer) (b : Bool) → option_map group_of (find (λ o. u o.group) os) ≡ first_usable (map (seen u) os) →
        option_map group_of (if b then Some o else find (λ o. u o.group) os) ≡ (if b then Some o.group else first_usable (map (seen u) os))
    by_mark u o os true e = refl
    by_mark u o os false e = e

wanted_first : (bank_len pid : ℕ) (os : List Offer) (part : List Heard) → wanted_by bank_len pid os part ≡ first_usable (map (seen (usable_after bank_len pid part)) os)
wanted_first bank_len pid os part = first_found (usable_after bank_len pid part) os

said_for : (pid : ℕ) (w : Option ℕ) (item : Heard) → message_said pid w item ≡ message_for w (heard_dii pid item)
unfolding dii_said
said_for pid None item = refl
said_for pid (Some group) item = refl

message-step : (bank_len pid : ℕ) (os : List Offer) (item : Heard) (part : List Heard) →
    held_said same_group (wanted_by bank_len pid os) (message_said pid) (item ∷ part)
    ≡ next_held (heard_dii pid item) (first_usable (map (seen (usable_after bank_len pid (item ∷ part))) os)) (first_usable (map (seen (usable_after bank_len pid part)) os))
    (held_said same_group (wanted_by bank_len pid os) (message_said pid) part)
message-step bank_len pid os item part =
    held_said-step same_group (wanted_by bank_len pid os) (message_said pid) group_sound item part
    ∙ ap (λ m. option_or m (if same_group (wanted_by bank_len pid os (item ∷ part)) (wanted_by bank_len pid os part) then held_said same_group (wanted_by bank_len pid os) (message_said pid) part else None))
    (said_for pid (wanted_by bank_len pid os (item ∷ part)) item)
    ∙ ap (λ w. next_held (heard_dii pid item) w (wanted_by bank_len pid os part) (held_said same_group (wanted_by bank_len pid os) (message_said pid) part)) (wanted_first bank_len pid os (item ∷ part))
    ∙ ap (λ w. next_held (heard_dii pid item) (first_usable (map (seen (usable_after bank_len pid (item ∷ part))) os)) w (held_said same_group (wanted_by bank_len pid os) (message_said pid) part)) (wanted_first bank_len pid os part)

groups_at : (bank_len : ℕ) (c d : Option CarouselFound) (os ps : List Offer) (part other : List Heard) → c ≡ d → os ≡ ps → part ≡ other → groups_by bank_len c os part ≡ groups_by bank_len d ps other
groups_at bank_len c d os ps part other e f g = ap (λ x. groups_by bank_len x os part) e ∙ ap (λ x. groups_by bank_len d x part) f ∙ ap (groups_by bank_len d ps) g

message_at : (bank_len : ℕ) (c d : Option CarouselFound) (os ps : List Offer) (part other : List Heard) → c ≡ d → os ≡ ps → part ≡ other → message_by bank_len c os part ≡ message_by bank_len d ps other
message_at bank_len c d os ps part other e f g = ap (λ x. message_by bank_len x os part) e ∙ ap (λ x. message_by bank_len d x part) f ∙ ap (message_by bank_len d ps) g

pub groups_now : (me : Receiver) (heard : List Heard) (c : CarouselFound) (os : List Offer) (part : List Heard) → level_5 me heard ≡ Some c → level_6 me heard ≡ os → since same_offers (level_6 me) heard ≡ part →
    groups_found me heard ≡ map (seen (usable_after me.bank_len c.pid part)) os
unfolding groups_found
groups_now me heard c os part e f g = groups_at me.bank_len (level_5 me heard) (Some c) (level_6 me heard) os (since same_offers (level_6 me) heard) part e f g

message_now : (me : Receiver) (heard : List Heard) (c : CarouselFound) (os : List Offer) (part : List Heard) → level_5 me heard ≡ Some c → level_6 me heard ≡ os → since same_offers (level_6 me) heard ≡ part →
    level_7 me heard ≡ held_said same_group (wanted_by me.bank_len c.pid os) (message_said c.pid) part
unfolding level_7
message_now me heard c os part e f g = message_at me.bank_len (level_5 me heard) (Some c) (level_6 me heard) os (since same_offers (level_6 me) heard) part e f g

pub record Goes (me : Receiver) (item : Heard) (earlier : List Heard) (d : Option DiiFields) : Type 0 where
  pub groups : groups_found me (item ∷ earlier) ≡ marked me.bank_len d (groups_found me earlier)
  pub message : level_7 me (item ∷ earlier) ≡ next_held d (first_usable (groups_found me (item ∷ earlier))) (first_usable (groups_found me earlier)) (level_7 me earlier)

pub groups_stay : (me : Receiver) (item : Heard) (earlier : List Heard) (c : CarouselFound) → level_5 me (item ∷ earlier) ≡ Some c → level_5 me earlier ≡ Some c →
    same_offers (level_6 me (item ∷ earlier)) (level_6 me earlier) ≡ true → Goes me item earlier (heard_dii c.pid item)
groups_stay me item earlier c now before same =
    let os = level_6 me earlier in
    let part = since same_offers (level_6 me) earlier in
    let more = since-stays same_offers (level_6 me) item earlier same in
    let offers = offers_sound (level_6 me (item ∷ earlier)) (level_6 me earlier) same in
    let groups_then = groups_now me (item ∷ earlier) c os (item ∷ part) now offers more in
    let groups_before = groups_now me earlier c os part before refl refl in
    let message_then = message_now me (item ∷ earlier) c os (item ∷ part) now offers more in
    let message_before = message_now me earlier c os part before refl refl in
    record {
      groups = groups_then ∙ marks-step me.bank_len c.pid item part os ∙ sym (marked_all me.bank_len (heard_dii c.pid item) (map (seen (usable_after me.bank_len c.pid part)) os))
          ∙ ap (marked me.bank_len (heard_dii c.pid item)) (sym groups_before);
      message = message_then ∙ message-step me.bank_len c.pid os item part
          ∙ ap (λ fs. next_held (heard_dii c.pid item) (first_usable fs) (first_usable (map (seen (usable_after me.bank_len c.pid part)) os)) (held_said same_group (wanted_by me.bank_len c.pid os) (message_said c.pid) part)) (sym groups_then)
          ∙ ap (λ fs. next_held (heard_dii c.pid item) (first_usable (groups_found me (item ∷ earlier))) (first_usable fs) (held_said same_group (wanted_by me.bank_len c.pid os) (message_said c.pid) part)) (sym groups_before)
          ∙ ap (next_held (heard_dii c.pid item) (first_usable (groups_found me (item ∷ earlier))) (first_usable (groups_found me earlier))) (sym message_before);
    }

-- ---- the wanted group

pub wanted_is : (me : Receiver) (heard : List Heard) → wanted me heard ≡ first_usable (groups_found me heard)
unfolding wanted groups_found first_usable
wanted_is me heard = by_carousel (level_5 me heard)
  where
    by_carousel : (c : Option CarouselFound) →
        wanted_at me.bank_len c (level_6 me heard) (since same_offers (level_6 me) heard) ≡ first_usable (groups_by me.bank_len c (level_6 me heard) (since same_offers (level_6 me) heard))
    by_carousel None = refl
    by_carousel (Some c) = wanted_first me.bank_len c.pid (level_6 me heard) (since same_offers (level_6 me) heard)
