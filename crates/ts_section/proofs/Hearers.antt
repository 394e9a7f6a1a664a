-- What `listen` and `feed` leave of the streams.
use Rattle.std.proofs.Common.{◌≡◌, ◌≢◌, ℕ, ◌+◌, ◌<◌, true, false, List, [], ◌∷◌, ◌++◌, length, get_or, set, ap, sym, ◌∙◌, arith, inl, inr, Some, append-nil, get_or-set_other, get_or-set_same}
use Rattle.std.proofs.lemmas.Bool.{cases_eq, cases_Bool}
use Rattle.ts_packet.specs.Packet.{TransportPacket, usable, pid_of}
use Rattle.ts_section.specs.Events.{Event, Listen, Feed, is_among, is_listened, only_of, span}
use Rattle.ts_section.specs.Hearing.{IsFirst, Follows, IsFresh}
use Rattle.ts_section.specs.declared.stream.Stream.{Stream}
use Rattle.ts_section.proofs.PidPlaces.{is_among-first, first-among, first-only}
use Rattle.ts_section.proofs.Spans.{usable-pid, only_of-own, only_of-other, span-listen, span-feed, span-unlistened, fresh_follows}

-- what the hearer's lists say of the events
abbrev pub Listens : List ℕ → List Event → Type 0
Listens pids events = (pid : ℕ) → is_listened pid events ≡ is_among pid pids

abbrev pub Streams : List ℕ → List Stream → List Event → Type 0
Streams pids streams events = (pid at : ℕ) (other : Stream) → IsFirst pids pid at → Follows (get_or streams at other) (span pid events)

-- after a packet of which the spans of these PIDs get nothing
pub unchanged : (pids : List ℕ) (streams : List Stream) (events : List Event) (packet : List ℕ)
    → Listens pids events → Streams pids streams events
    → ((pid : ℕ) → is_among pid pids ≡ true → only_of pid (usable packet) ≡ [])
    → Streams pids streams (Feed packet ∷ events)
unchanged pids streams events packet listens stands none pid at other first =
    let among = is_among-first pids pid at first in
    let same : span pid (Feed packet ∷ events) ≡ span pid events =
    span-feed pid packet events (listens pid ∙ among) ∙ ap (λ ys. span pid events ++ ys) (none pid among) ∙ append-nil (span pid events) in
    rw same (stands pid at other first)

-- a packet of a PID that is not among them
pub none_of : (pids packet : List ℕ) → is_among (pid_of packet) pids ≡ false → (pid : ℕ) → is_among pid pids ≡ true → only_of pid (usable packet) ≡ []
none_of pids packet h pid among = only_of-other packet pid (λ e. let both : is_among (pid_of packet) pids ≡ true = rw (← e) among in cc)

-- after a packet that one stream took
pub taken : (pids : List ℕ) (streams : List Stream) (events : List Event) (packet : List ℕ) (y : TransportPacket) (at : ℕ) (new : Stream)
    → Listens pids events → Streams pids streams events
    → usable packet ≡ Some y → IsFirst pids y.pid at → at < length streams
    → Follows new (span y.pid events ++ y ∷ [])
    → Streams pids (set streams at new) (Feed packet ∷ events)
taken pids streams events packet y at new listens stands e own within follows pid place other first =
    let among = is_among-first pids pid place first in
    let grown = span-feed pid packet events (listens pid ∙ among) in
    elim (cases_eq at place) [
      | inl here ↦ (let same : y.pid ≡ pid = sym own.found ∙ ap (λ k. get_or pids k 0) here ∙ first.found in
          rw (← here, get_or-set_same, grown, ← same, only_of-own packet y e) follows)
      | inr there ↦ (let apart : pid ≢ pid_of packet = λ q. there (first-only pids pid at place (rw (q ∙ sym (usable-pid packet y e)) own) first) in
          let away : place ≢ at = λ q. there (sym q) in
          rw (get_or-set_other, grown, only_of-other packet pid apart, append-nil) (stands pid place other first))
    ]

-- after the streams of the PIDs that stay were moved to their places in the new set
pub moved : (known pids : List ℕ) (old new : List Stream) (events : List Event)
    → Listens known events → Streams known old events
    → ((pid at from : ℕ) (other : Stream) → IsFirst pids pid at → IsFirst known pid from → get_or new at other ≡ get_or old from other)
    → ((pid at : ℕ) (other : Stream) → IsFirst pids pid at → is_among pid known ≡ false → IsFresh (get_or new at other))
    → Streams pids new (Listen pids ∷ events)
moved known pids old new events listens stands kept fresh pid at other first =
    let same = span-listen pid pids events (is_among-first pids pid at first) in
    elim (cases_Bool (is_among pid known)) [
      | inl among ↦ (let place = first-among known pid among in
          rw (same, kept pid at place.0 other first place.1) (stands pid place.0 other place.1))
      | inr gone ↦ rw (same, span-unlistened pid events (listens pid ∙ gone)) (fresh_follows (get_or new at other) (fresh pid at other first gone))
    ]

-- one more place of the new set
pub kept_more : (known pids : List ℕ) (i n : ℕ) (old streams spare longer : List Stream) → n ≡ get_or pids i 0
    → ((pid at from : ℕ) (other : Stream) → at < i → IsFirst pids pid at → IsFirst known pid from → get_or spare at other ≡ get_or old from other)
    → ((k : ℕ) (other : Stream) → ((j : ℕ) → j < i → get_or pids j 0 ≢ get_or known k 0) → get_or streams k other ≡ get_or old k other)
    → ((from : ℕ) (other : Stream) → IsFirst known n from → get_or longer i other ≡ get_or streams from other)
    → ((k : ℕ) (other : Stream) → k ≢ i → get_or longer k other ≡ get_or spare k other)
    → (pid at from : ℕ) (other : Stream) → at < i + 1 → IsFirst pids pid at → IsFirst known pid from → get_or longer at other ≡ get_or old from other
kept_more known pids i n old streams spare longer e kept waiting moves others pid at from other below first second =
    elim (cases_eq at i) [
      | inl here ↦ (let same : n ≡ pid = e ∙ ap (λ k. get_or pids k 0) (sym here) ∙ first.found in
          rw here (moves from other (rw same second)
          ∙ waiting from other (λ j earlier q. first.earlier j (rw here earlier) (q ∙ second.found))))
      | inr there ↦ (let earlier : at < i = omega arith in others at other there ∙ kept pid at from other earlier first second)
    ]

pub fresh_more : (known pids : List ℕ) (i n : ℕ) (spare longer : List Stream) → n ≡ get_or pids i 0
    → ((pid at : ℕ) (other : Stream) → at < i → IsFirst pids pid at → is_among pid known ≡ false → IsFresh (get_or spare at other))
    → ((other : Stream) → is_among n known ≡ false → IsFresh (get_or longer i other))
    → ((k : ℕ) (other : Stream) → k ≢ i → get_or longer k other ≡ get_or spare k other)
    → (pid at : ℕ) (other : Stream) → at < i + 1 → IsFirst pids pid at → is_among pid known ≡ false → IsFresh (get_or longer at other)
fresh_more known pids i n spare longer e fresh begins others pid at other below first gone =
    elim (cases_eq at i) [
      | inl here ↦ (let same : n ≡ pid = e ∙ ap (λ k. get_or pids k 0) (sym here) ∙ first.found in
          rw here (begins other (rw same gone)))
      | inr there ↦ (let earlier : at < i = omega arith in rw (others at other there) (fresh pid at other earlier first gone))
    ]

pub waiting_more : (known pids : List ℕ) (i n : ℕ) (old streams rest : List Stream) → n ≡ get_or pids i 0
    → ((k : ℕ) (other : Stream) → ((j : ℕ) → j < i → get_or pids j 0 ≢ get_or known k 0) → get_or streams k other ≡ get_or old k other)
    → ((k : ℕ) (other : Stream) → get_or known k 0 ≢ n → get_or rest k other ≡ get_or streams k other)
    → (k : ℕ) (other : Stream) → ((j : ℕ) → j < i + 1 → get_or pids j 0 ≢ get_or known k 0) → get_or rest k other ≡ get_or old k other
waiting_more known pids i n old streams rest e waiting others k other apart =
    let last : i < i + 1 = omega arith in
    others k other (λ q. apart i last (sym (q ∙ e)))
    ∙ waiting k other (λ j below. apart j (omega arith))
