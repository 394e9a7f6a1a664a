-- The packets of an input: ISO/IEC 13818-1, 2.4.3.2 (transport packets of 188 bytes).
use Rattle.std.specs.Prelude.{◌≡◌, ℕ, ◌+◌, ◌*◌, ◌/◌, ◌≤◌, List, [], length, map, Option, Some, None}
use Rattle.std.specs.List.{slice_range, range_with_len}

-- Packet n is the bytes 188 n to 188 n + 187.
abbrev pub packet_at : List ℕ → ℕ → List ℕ
packet_at bytes n = slice_range bytes (188 * n) (188 * n + 188)

-- The packets of these bytes, the oldest first. A rest of fewer than 188 bytes is no packet.
unfoldable pub packets : List ℕ → List (List ℕ)
packets bytes = map (packet_at bytes) (range_with_len 0 (length bytes / 188))

-- The greatest number of packets that a run takes. This limit is the project's own: no standard gives one.
abbrev pub most_packets : ℕ
most_packets = 16777216

-- the bytes of that many packets
abbrev pub most_bytes : ℕ
most_bytes = 188 * most_packets

-- So many bytes are not more.
abbrev pub IsWithin : ℕ → Type 0
IsWithin n = n ≤ most_bytes

-- one byte behind the greatest number of packets
abbrev pub IsOneMore : ℕ → Type 0
IsOneMore n = n ≡ most_bytes + 1

-- No bytes are left, where the source tells them.
abbrev pub IsAtEnd : Option (List ℕ) → Type 0
IsAtEnd (Some rest) = rest ≡ []
IsAtEnd None = Unit {0}
