-- What a hearer stands for.
use Rattle.std.specs.Prelude.{◌≡◌, ℕ, List, slice_index_or, ◌≢◌, ◌<◌, length, slice_index, [], None}
use Rattle.ts_section.specs.declared.stream.Stream.{Stream}
use Rattle.ts_section.specs.declared.hearer.Hearer.{Hearer}
use Rattle.ts_section.specs.Events.{Event, is_among, is_listened, span}
use Rattle.ts_packet.specs.Packet.{TransportPacket, usable}
use Rattle.ts_section.specs.Steps.{last_from, open_texts, as_open}

-- The PID stands at this place, and at no earlier one.
pub record IsFirst (pids : List ℕ) (pid at : ℕ) : Type 0 where
  pub within : at < length pids
  pub found : slice_index pids at ≡ pid
  pub earlier : (k : ℕ) → k < at → slice_index pids k ≢ pid

-- The stream keeps the last packet of the span and its open text.
pub record Follows (stream : Stream) (packets : List TransportPacket) : Type 0 where
  pub last : usable stream.last ≡ last_from None packets
  pub text : as_open stream.text.items ≡ open_texts None packets

-- The stream keeps nothing.
pub record IsFresh (stream : Stream) : Type 0 where
  pub last : usable stream.last ≡ None
  pub text : stream.text.items ≡ []

-- The hearer stands for these calls of `listen` and `feed`, the newest first: it listens to the same PIDs, and for each
-- of them keeps what later packets need of its span.
pub record Hears (hearer : Hearer) (events : List Event) : Type 0 where
  pub listens : (pid : ℕ) → is_listened pid events ≡ is_among pid hearer.pids.items
  pub streams : (pid at : ℕ) (other : Stream) → IsFirst hearer.pids.items pid at
      → Follows (slice_index_or hearer.streams.items at other) (span pid events)
