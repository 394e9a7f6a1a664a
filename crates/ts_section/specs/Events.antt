-- What is heard of a transport stream, by the PIDs that are listened to.
use Rattle.std.specs.Prelude.{ℕ, Bool, false, if◌then◌else◌, ◌==◌, List, [], ◌∷◌, ◌++◌, map, Option, Some, None}
use Rattle.std.specs.List.{list_any, concat}
use Rattle.ts_packet.specs.Packet.{TransportPacket, usable, pid_of}
use Rattle.ts_section.specs.Sections.{right_in}

-- From now on these PIDs are listened to and no others, or the next 188 bytes of the stream come. A list of events has
-- the newest first.
pub data Event : Type 0 where
  Listen : List ℕ → Event
  Feed : List ℕ → Event

abbrev pub is_among : ℕ → List ℕ → Bool
is_among pid pids = list_any (λ p. p == pid) pids

-- Whether the PID is listened to after these events.
unfoldable pub is_listened : ℕ → List Event → Bool
is_listened pid [] = false
is_listened pid (Listen pids ∷ earlier) = is_among pid pids
is_listened pid (Feed packet ∷ earlier) = is_listened pid earlier

-- The packet alone, if it is usable and has this PID. Any other counts as lost.
abbrev pub only_of : ℕ → Option TransportPacket → List TransportPacket
only_of pid None = []
only_of pid (Some p) = if p.pid == pid then p ∷ [] else []

-- The usable packets of the PID, the oldest first, that came since it was last taken into the set of PIDs listened to.
-- A `Listen` without the PID ends its span, also where no packet comes before it is listened to again.
unfoldable pub span : ℕ → List Event → List TransportPacket
span pid [] = []
span pid (Listen pids ∷ earlier) = if is_among pid pids then span pid earlier else []
span pid (Feed packet ∷ earlier) =
    if is_listened pid earlier then span pid earlier ++ only_of pid (usable packet) else []

-- The right whole sections that become complete in this packet, in the order of their starts, where it is usable and
-- its PID is listened to.
unfoldable pub heard_in : Option TransportPacket → List Event → List (List ℕ)
heard_in None earlier = []
heard_in (Some y) earlier = if is_listened y.pid earlier then right_in (span y.pid earlier) y else []

-- What is heard in the newest event.
unfoldable pub heard : List Event → List (List ℕ)
heard [] = []
heard (Listen pids ∷ earlier) = []
heard (Feed packet ∷ earlier) = heard_in (usable packet) earlier

-- A section with the PID on which it is heard.
pub record Heard : Type 0 where
  pub pid : ℕ
  pub section : List ℕ

abbrev pub with_pid : Event → List (List ℕ) → List Heard
with_pid (Listen pids) sections = []
with_pid (Feed packet) sections = map (λ section. record { pid = pid_of packet; section = section }) sections

-- All that is heard in these events, in the order of completion, and in one packet in the order of the starts.
unfoldable pub all_heard : List Event → List Heard
all_heard [] = []
all_heard (event ∷ earlier) = all_heard earlier ++ with_pid event (heard (event ∷ earlier))

-- The events after these packets, the oldest first, were fed one by one.
unfoldable pub fed : List Event → List (List ℕ) → List Event
fed earlier [] = earlier
fed earlier (packet ∷ later) = fed (Feed packet ∷ earlier) later

-- What is heard while these packets, the oldest first, are fed one by one.
unfoldable pub heard_of : List Event → List (List ℕ) → List (List ℕ)
heard_of earlier [] = []
heard_of earlier (packet ∷ later) = heard (Feed packet ∷ earlier) ++ heard_of (Feed packet ∷ earlier) later

-- The join of the sections that are heard in these packets where one PID is listened to from the first packet on.
unfoldable pub hear : ℕ → List (List ℕ) → List ℕ
hear pid packets = concat (heard_of (Listen (pid ∷ []) ∷ []) packets)
