-- What one more event does to the span of a PID, and to what is heard.
use Rattle.std.proofs.Common.{◌≡◌, ◌≢◌, ℕ, Bool, true, false, cond, List, [], ◌∷◌, ◌++◌, length, get_or, set, refl, ap, sym, ◌∙◌, eqb, ◌&&◌, Option, Some, None}
use Rattle.std.specs.Option.{option_map, option_and_then}
use Rattle.std.proofs.lemmas.Bool.{ne_eqb, eq-eqb}
use Rattle.ts_packet.specs.Packet.{TransportPacket, usable, pid_of, with_payload, is_intact, payload_of, pointed_in, starts_unit}
use Rattle.ts_section.specs.Sections.{right_in}
use Rattle.ts_section.specs.Events.{Event, Listen, Feed, is_among, is_listened, only_of, span, heard, heard_in}
use Rattle.ts_section.specs.Steps.{step_to, last_from, open_texts, right_after, open_after, as_open}
use Rattle.ts_section.specs.Hearing.{Follows, IsFresh}
use Rattle.ts_section.specs.declared.stream.Stream.{Stream}
use Rattle.ts_section.proofs.OpenTexts.{right_in-step, open_texts-step, last_from-push}

-- A packet that is not usable: its first byte is 0.
pub usable-blank : (packet : List ℕ) → get_or packet 0 0 ≡ 0 → usable packet ≡ None
unfolding usable is_intact
usable-blank packet e = rw (e, and_false (eqb (length packet) 188)) refl
  where
    and_false : (b : Bool) → (b && false) ≡ false
    and_false true = refl
    and_false false = refl

pid_or : Option TransportPacket → ℕ → ℕ
pid_or None other = other
pid_or (Some p) other = p.pid

pid_or-map : (packet payload : List ℕ) (o : Option ℕ) → pid_or (option_map (with_payload packet payload) o) (pid_of packet) ≡ pid_of packet
unfolding pid_or
pid_or-map packet payload None = refl
pid_or-map packet payload (Some n) = refl

pid_or-then : (packet : List ℕ) (o : Option (List ℕ))
    → pid_or (option_and_then (λ payload. option_map (with_payload packet payload) (pointed_in (starts_unit packet) payload)) o) (pid_of packet) ≡ pid_of packet
unfolding pid_or
pid_or-then packet None = refl
pid_or-then packet (Some payload) = pid_or-map packet payload (pointed_in (starts_unit packet) payload)

pid_or-cond : (b : Bool) (o : Option TransportPacket) (n : ℕ) → pid_or o n ≡ n → pid_or (cond b o None) n ≡ n
unfolding pid_or
pid_or-cond true o n e = e
pid_or-cond false o n e = refl

-- A usable packet has the PID that its bytes name.
pub usable-pid : (packet : List ℕ) (y : TransportPacket) → usable packet ≡ Some y → y.pid ≡ pid_of packet
unfolding usable pid_or
usable-pid packet y e =
    sym (ap (λ o. pid_or o (pid_of packet)) e) ∙ pid_or-cond (is_intact packet) _ (pid_of packet) (pid_or-then packet (payload_of packet))

pub only_of-own : (packet : List ℕ) (y : TransportPacket) → usable packet ≡ Some y → only_of y.pid (usable packet) ≡ y ∷ []
only_of-own packet y e = rw (e, eq-eqb y.pid y.pid refl) refl

only_of-option : (packet : List ℕ) (pid : ℕ) (o : Option TransportPacket) → pid ≢ pid_of packet → usable packet ≡ o → only_of pid o ≡ []
only_of-option packet pid None h e = refl
only_of-option packet pid (Some p) h e =
    let apart : p.pid ≢ pid = λ q. h (sym q ∙ usable-pid packet p e) in
    rw (ne_eqb p.pid pid apart) refl

pub only_of-other : (packet : List ℕ) (pid : ℕ) → pid ≢ pid_of packet → only_of pid (usable packet) ≡ []
only_of-other packet pid h = only_of-option packet pid (usable packet) h refl

pub only_of-unusable : (packet : List ℕ) (pid : ℕ) → usable packet ≡ None → only_of pid (usable packet) ≡ []
only_of-unusable packet pid e = rw e refl

pub is_listened-listen : (pid : ℕ) (pids : List ℕ) (events : List Event) → is_listened pid (Listen pids ∷ events) ≡ is_among pid pids
unfolding is_listened
is_listened-listen pid pids events = refl

pub is_listened-feed : (pid : ℕ) (packet : List ℕ) (events : List Event) → is_listened pid (Feed packet ∷ events) ≡ is_listened pid events
unfolding is_listened
is_listened-feed pid packet events = refl

pub is_listened-nil : (pid : ℕ) → is_listened pid [] ≡ false
unfolding is_listened
is_listened-nil pid = refl

pub span-listen : (pid : ℕ) (pids : List ℕ) (events : List Event) → is_among pid pids ≡ true → span pid (Listen pids ∷ events) ≡ span pid events
unfolding span
span-listen pid pids events h = rw h refl

pub span-feed : (pid : ℕ) (packet : List ℕ) (events : List Event) → is_listened pid events ≡ true
    → span pid (Feed packet ∷ events) ≡ span pid events ++ only_of pid (usable packet)
unfolding span
span-feed pid packet events h = rw h refl

-- There is no span of a PID that is not listened to.
pub span-unlistened : (pid : ℕ) (events : List Event) → is_listened pid events ≡ false → span pid events ≡ []
unfolding span is_listened
span-unlistened pid [] h = refl
span-unlistened pid (Listen pids ∷ events) h = rw h refl
span-unlistened pid (Feed packet ∷ events) h = rw h refl

pub heard-unusable : (packet : List ℕ) (events : List Event) → usable packet ≡ None → heard (Feed packet ∷ events) ≡ []
unfolding heard heard_in
heard-unusable packet events e = rw e refl

pub heard-usable : (packet : List ℕ) (events : List Event) (y : TransportPacket) → usable packet ≡ Some y → is_listened y.pid events ≡ true
    → heard (Feed packet ∷ events) ≡ right_in (span y.pid events) y
unfolding heard heard_in
heard-usable packet events y e h = rw (e, h) refl

heard-option : (packet : List ℕ) (events : List Event) (o : Option TransportPacket) → is_listened (pid_of packet) events ≡ false → usable packet ≡ o → heard_in o events ≡ []
unfolding heard_in
heard-option packet events None h e = refl
heard-option packet events (Some y) h e =
    let unlistened : is_listened y.pid events ≡ false = rw (usable-pid packet y e) h in
    rw unlistened refl

pub heard-unlistened : (packet : List ℕ) (events : List Event) → is_listened (pid_of packet) events ≡ false → heard (Feed packet ∷ events) ≡ []
unfolding heard
heard-unlistened packet events h = heard-option packet events (usable packet) h refl

-- A stream that keeps nothing stands for a span without packets.
pub fresh_follows : (stream : Stream) → IsFresh stream → Follows stream []
unfolding open_texts
fresh_follows stream fresh = record { last = fresh.last; text = ap as_open fresh.text }

-- A stream after one more packet.
pub follows_next : (old new : Stream) (packets : List TransportPacket) (y : TransportPacket) → Follows old packets
    → usable new.last ≡ Some y
    → as_open new.text.items ≡ open_after (step_to (usable old.last) y) (as_open old.text.items) y
    → Follows new (packets ++ y ∷ [])
follows_next old new packets y follows last text = record {
  last = last ∙ sym (last_from-push None packets y);
  text = text
      ∙ ap (λ l. open_after (step_to l y) (as_open old.text.items) y) follows.last
      ∙ ap (λ ts. open_after (step_to (last_from None packets) y) ts y) follows.text
      ∙ sym (open_texts-step packets y);
}

pub follows_heard : (old : Stream) (packets : List TransportPacket) (y : TransportPacket) → Follows old packets
    → right_after (step_to (usable old.last) y) (as_open old.text.items) y ≡ right_in packets y
follows_heard old packets y follows =
    ap (λ l. right_after (step_to l y) (as_open old.text.items) y) follows.last
    ∙ ap (λ ts. right_after (step_to (last_from None packets) y) ts y) follows.text
    ∙ sym (right_in-step packets y)

pub blanked : (packet : List ℕ) → get_or (set packet 0 0) 0 0 ≡ 0
blanked [] = refl
blanked (b ∷ packet) = refl
