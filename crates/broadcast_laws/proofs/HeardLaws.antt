-- What is heard in events is right in the packets that were fed.
use Rattle.std.proofs.Common.{◌≡◌, ℕ, zero, suc, ◌≤◌, ◌⊎◌, inl, inr, Bool, true, false, List, [], ◌∷◌, ◌++◌, length, drop, Option, Some, None, refl, sym, ap, subst, ◌∙◌, arith, append_assoc, append-nil, length-append, eq-eqb}
use Rattle.std.specs.Prelude.{Contains, map, reverse}
use Rattle.std.specs.List.{flat_map}
use Rattle.std.proofs.lemmas.List.{drop_all, reverse-append, reverse-reverse}
use Rattle.std.proofs.lemmas.List.Concat.{flat_map-append}
use Rattle.std.proofs.lemmas.List.Elements.{Contains-append_cases, Contains-append_left, Contains-append_right}
use Rattle.ts_packet.specs.Packet.{TransportPacket, usable, pid_of}
use Rattle.ts_section.specs.Events.{Event, Feed, Heard, Listen, all_heard, fed, heard, heard_in, heard_of, is_among, is_listened, only_of, span}
use Rattle.ts_section.specs.Sections.{right_in}
use Rattle.ts_section.proofs.HearSteps.{heard_of-push}
use Rattle.ts_section.proofs.Spans.{heard-usable, heard-unusable, is_listened-feed, is_listened-listen, span-feed, span-listen, span-unlistened}
use Rattle.route_tables.specs.Values.{Receiver}
use Rattle.ssu_route.specs.Queries.{followed, heard_by, newest_first}
use Rattle.broadcast_laws.specs.Undeceived.{IsRightIn}
use Rattle.broadcast_laws.proofs.Lists.{none_in, of_map, of_reverse, same_list}

-- the packets that were fed, the oldest first
pub fed_in : List Event → List (List ℕ)
fed_in [] = []
fed_in (Listen pids ∷ earlier) = fed_in earlier
fed_in (Feed packet ∷ earlier) = fed_in earlier ++ packet ∷ []

-- the usable packets of the PID
own_packets : ℕ → List (List ℕ) → List TransportPacket
own_packets pid packets = flat_map (λ packet. only_of pid (usable packet)) packets

abbrev alone : ℕ → List Event
alone pid = Listen (pid ∷ []) ∷ []

-- ---- where one PID is listened to from the first packet on

listened_fed : (pid : ℕ) (events : List Event) (packets : List (List ℕ)) → is_listened pid (fed events packets) ≡ is_listened pid events
unfolding fed
listened_fed pid events [] = refl
listened_fed pid events (packet ∷ later) = listened_fed pid (Feed packet ∷ events) later ∙ is_listened-feed pid packet events

span_fed : (pid : ℕ) (events : List Event) (packets : List (List ℕ)) → is_listened pid events ≡ true → span pid (fed events packets) ≡ span pid events ++ own_packets pid packets
unfolding fed own_packets
span_fed pid events [] l = sym (append-nil (span pid events))
span_fed pid events (packet ∷ later) l =
    span_fed pid (Feed packet ∷ events) later (is_listened-feed pid packet events ∙ l)
    ∙ ap (λ (ps : List TransportPacket). ps ++ own_packets pid later) (span-feed pid packet events l)
    ∙ append_assoc (span pid events) (only_of pid (usable packet)) (own_packets pid later)

among_itself : (pid : ℕ) → is_among pid (pid ∷ []) ≡ true
among_itself pid = rw (eq-eqb pid pid refl) refl

alone_listened : (pid : ℕ) (packets : List (List ℕ)) → is_listened pid (fed (alone pid) packets) ≡ true
alone_listened pid packets = listened_fed pid (alone pid) packets ∙ is_listened-listen pid (pid ∷ []) [] ∙ among_itself pid

nothing_before : (pid : ℕ) → span pid (alone pid) ≡ []
unfolding span
nothing_before pid = rw (among_itself pid) refl

alone_span : (pid : ℕ) (packets : List (List ℕ)) → span pid (fed (alone pid) packets) ≡ own_packets pid packets
alone_span pid packets =
    span_fed pid (alone pid) packets (is_listened-listen pid (pid ∷ []) [] ∙ among_itself pid)
    ∙ ap (λ (ps : List TransportPacket). ps ++ own_packets pid packets) (nothing_before pid)

-- ---- a span is a rear part of the packets

record IsRear (pid : ℕ) (events : List Event) : Type 0 where
  pub first : ℕ
  pub within : first ≤ length (fed_in events)
  pub is : span pid events ≡ own_packets pid (drop first (fed_in events))

empty_rear : (pid : ℕ) (events : List Event) → span pid events ≡ [] → IsRear pid events
unfolding own_packets
empty_rear pid events e = record {
  first = length (fed_in events);
  within = omega arith;
  is = e ∙ sym (ap (own_packets pid) (drop_all (length (fed_in events)) (fed_in events) (omega arith)));
}

drop_within : {X : Type 0} (n : ℕ) (xs ys : List X) → n ≤ length xs → drop n (xs ++ ys) ≡ drop n xs ++ ys
drop_within zero xs ys h = refl
drop_within (suc n) [] ys h = absurd (omega arith)
drop_within (suc n) (x ∷ xs) ys h = drop_within n xs ys (omega arith)

rear_listen : (pid : ℕ) (pids : List ℕ) (earlier : List Event) (b : Bool) → is_among pid pids ≡ b → IsRear pid earlier → IsRear pid (Listen pids ∷ earlier)
unfolding fed_in
rear_listen pid pids earlier true e r = record { first = r.first; within = r.within; is = span-listen pid pids earlier e ∙ r.is }
rear_listen pid pids earlier false e r = empty_rear pid (Listen pids ∷ earlier) (span-unlistened pid (Listen pids ∷ earlier) (is_listened-listen pid pids earlier ∙ e))

rear_feed : (pid : ℕ) (packet : List ℕ) (earlier : List Event) (b : Bool) → is_listened pid earlier ≡ b → IsRear pid earlier → IsRear pid (Feed packet ∷ earlier)
unfolding fed_in own_packets
rear_feed pid packet earlier true e r =
    let within = r.within in
    let l = length-append (fed_in earlier) (packet ∷ []) in
    let own = λ (p : List ℕ). only_of pid (usable p) in
    record {
      first = r.first;
      within = omega arith;
      is = span-feed pid packet earlier e
          ∙ ap (λ (ps : List TransportPacket). ps ++ only_of pid (usable packet)) r.is
          ∙ sym (
          ap (own_packets pid) (drop_within r.first (fed_in earlier) (packet ∷ []) within)
          ∙ flat_map-append own (drop r.first (fed_in earlier)) (packet ∷ [])
          ∙ ap (λ (ps : List TransportPacket). own_packets pid (drop r.first (fed_in earlier)) ++ ps) (append-nil (only_of pid (usable packet))));
    }
rear_feed pid packet earlier false e r = empty_rear pid (Feed packet ∷ earlier) (span-unlistened pid (Feed packet ∷ earlier) (is_listened-feed pid packet earlier ∙ e))

none_before : (pid : ℕ) → span pid [] ≡ []
unfolding span
none_before pid = refl

rear : (pid : ℕ) (events : List Event) → IsRear pid events
rear pid [] = empty_rear pid [] (none_before pid)
rear pid (Listen pids ∷ earlier) = rear_listen pid pids earlier (is_among pid pids) refl (rear pid earlier)
rear pid (Feed packet ∷ earlier) = rear_feed pid packet earlier (is_listened pid earlier) refl (rear pid earlier)

-- ---- what is heard at a packet, and what stays when more come

right_at : (first : ℕ) (before : List (List ℕ)) (packet : List ℕ) (y : TransportPacket) (section : List ℕ) → first ≤ length before → usable packet ≡ Some y
    → Contains (right_in (own_packets y.pid (drop first before)) y) section → IsRightIn (before ++ packet ∷ []) section
right_at first before packet y section within is found =
    let rest = drop first before in
    let now : heard (Feed packet ∷ fed (alone y.pid) rest) ≡ right_in (own_packets y.pid rest) y =
    heard-usable packet (fed (alone y.pid) rest) y is (alone_listened y.pid rest) ∙ ap (λ (ps : List TransportPacket). right_in ps y) (alone_span y.pid rest) in
    let all : heard_of (alone y.pid) (drop first (before ++ packet ∷ [])) ≡ heard_of (alone y.pid) rest ++ right_in (own_packets y.pid rest) y =
    ap (heard_of (alone y.pid)) (drop_within first before (packet ∷ []) within)
    ∙ heard_of-push (alone y.pid) rest packet
    ∙ ap (λ (ss : List (List ℕ)). heard_of (alone y.pid) rest ++ ss) now in
    record {
      pid = y.pid;
      first = first;
      found = same_list section (sym all) (Contains-append_right (heard_of (alone y.pid) rest) (right_in (own_packets y.pid rest) y) section found);
    }

heard_of-append : (events : List Event) (front back : List (List ℕ)) → heard_of events (front ++ back) ≡ heard_of events front ++ heard_of (fed events front) back
unfolding heard_of fed
heard_of-append events [] back = refl
heard_of-append events (packet ∷ front) back =
    ap (λ (ss : List (List ℕ)). heard (Feed packet ∷ events) ++ ss) (heard_of-append (Feed packet ∷ events) front back)
    ∙ sym (append_assoc (heard (Feed packet ∷ events)) (heard_of (Feed packet ∷ events) front) (heard_of (fed (Feed packet ∷ events) front) back))

none_of_none : (events : List Event) (section : List ℕ) → Contains (heard_of events []) section → ⊥
unfolding heard_of
none_of_none events section c = none_in c

some_left : (pid first : ℕ) (packets : List (List ℕ)) (section : List ℕ) → Contains (heard_of (alone pid) (drop first packets)) section → (first ≤ length packets) ⊎ ⊥
some_left pid first packets section c = by_order (first_le first (length packets))
  where
    first_le : (m n : ℕ) → (m ≤ n) ⊎ (n ≤ m)
    first_le zero n = inl (omega arith)
    first_le (suc m) zero = inr (omega arith)
    first_le (suc m) (suc n) = elim (first_le m n) [ inl h ↦ inl (omega arith) | inr h ↦ inr (omega arith) ]

    by_order : (first ≤ length packets) ⊎ (length packets ≤ first) → (first ≤ length packets) ⊎ ⊥
    by_order (inl h) = inl h
    by_order (inr h) = inr (none_of_none (alone pid) section (same_list section (ap (heard_of (alone pid)) (drop_all first packets h)) c))

pub right_later : (front back : List (List ℕ)) (section : List ℕ) → IsRightIn front section → IsRightIn (front ++ back) section
right_later front back section is = elim (some_left is.pid is.first front section is.found) [
  | inl within ↦
      let rest = drop is.first front in
      let all : heard_of (alone is.pid) (drop is.first (front ++ back)) ≡ heard_of (alone is.pid) rest ++ heard_of (fed (alone is.pid) rest) back =
      ap (heard_of (alone is.pid)) (drop_within is.first front back within) ∙ heard_of-append (alone is.pid) rest back in
      record {
        pid = is.pid;
        first = is.first;
        found = same_list section (sym all) (Contains-append_left (heard_of (alone is.pid) rest) (heard_of (fed (alone is.pid) rest) back) section is.found);
      }
  | inr never ↦ absurd never
]

-- ---- all that is heard

not_heard : (packet : List ℕ) (earlier : List Event) (y : TransportPacket) → usable packet ≡ Some y → is_listened y.pid earlier ≡ false → heard (Feed packet ∷ earlier) ≡ []
unfolding heard heard_in
not_heard packet earlier y e l = rw (e, l) refl

at_packet : (packet : List ℕ) (earlier : List Event) (y : TransportPacket) (section : List ℕ) → usable packet ≡ Some y → (b : Bool) → is_listened y.pid earlier ≡ b
    → Contains (heard (Feed packet ∷ earlier)) section → IsRightIn (fed_in earlier ++ packet ∷ []) section
at_packet packet earlier y section e true l c =
    let r = rear y.pid earlier in
    let now : heard (Feed packet ∷ earlier) ≡ right_in (own_packets y.pid (drop r.first (fed_in earlier))) y =
    heard-usable packet earlier y e l ∙ ap (λ (ps : List TransportPacket). right_in ps y) r.is in
    right_at r.first (fed_in earlier) packet y section r.within e (same_list section now c)
at_packet packet earlier y section e false l c = absurd (none_in (same_list section (not_heard packet earlier y e l) c))

at_event : (packet : List ℕ) (earlier : List Event) (section : List ℕ) → Contains (heard (Feed packet ∷ earlier)) section → IsRightIn (fed_in earlier ++ packet ∷ []) section
at_event packet earlier section c = by_packet (usable packet) refl
  where
    by_packet : (o : Option TransportPacket) → usable packet ≡ o → IsRightIn (fed_in earlier ++ packet ∷ []) section
    by_packet None e = absurd (none_in (same_list section (heard-unusable packet earlier e) c))
    by_packet (Some y) e = at_packet packet earlier y section e (is_listened y.pid earlier) refl c

pub all_right : (events : List Event) (item : Heard) → Contains (all_heard events) item → IsRightIn (fed_in events) item.section
unfolding all_heard fed_in
all_right [] item c = absurd (none_in c)
all_right (Listen pids ∷ earlier) item c = elim (Contains-append_cases (all_heard earlier) [] item c) [
  | inl before ↦ all_right earlier item before
  | inr now ↦ absurd (none_in now)
]
all_right (Feed packet ∷ earlier) item c =
    let put : List ℕ → Heard = λ section. record { pid = pid_of packet; section = section } in
    elim (Contains-append_cases (all_heard earlier) (map put (heard (Feed packet ∷ earlier))) item c) [
      | inl before ↦ right_later (fed_in earlier) (packet ∷ []) item.section (all_right earlier item before)
      | inr now ↦
          let i = of_map put (heard (Feed packet ∷ earlier)) item now in
          subst (λ (s : List ℕ). IsRightIn (fed_in earlier ++ packet ∷ []) s) (ap (λ (h : Heard). h.section) i.is) (at_event packet earlier i.of i.own)
    ]

followed_fed : (me : Receiver) (packets : List (List ℕ)) → fed_in (followed me packets) ≡ reverse packets
unfolding followed fed_in
followed_fed me [] = refl
followed_fed me (packet ∷ earlier) = ap (λ (ps : List (List ℕ)). ps ++ packet ∷ []) (followed_fed me earlier) ∙ sym (reverse-append (packet ∷ []) earlier)

pub heard_right : (me : Receiver) (packets : List (List ℕ)) (item : Heard) → Contains (heard_by me (reverse packets)) item → IsRightIn packets item.section
unfolding heard_by newest_first
heard_right me packets item c =
    let events = followed me (reverse packets) in
    let is : fed_in events ≡ packets = followed_fed me (reverse packets) ∙ reverse-reverse packets in
    subst (λ (ps : List (List ℕ)). IsRightIn ps item.section) is (all_right events item (of_reverse (all_heard events) item c))
