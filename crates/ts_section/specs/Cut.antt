-- A section cut into packets: ISO/IEC 13818-1, 2.4.3.2, 2.4.3.3 and 2.4.4.
use Rattle.std.specs.Prelude.{zero, suc, ◌≡◌, ℕ, ◌+◌, ◌-◌, ◌/◌, ◌%◌, Bool, true, false, if◌then◌else◌, List, [], ◌∷◌, ◌++◌, length, take, drop, replicate}
use Rattle.ts_packet.specs.Packet.{packet_bytes}

-- A payload of 184 bytes that carries these bytes, filled up with 0xFF.
abbrev pub filled : List ℕ → List ℕ
filled bytes = bytes ++ replicate (184 - length bytes) 0xFF

-- The first bytes as n payloads, 184 in each.
unfoldable pub payloads : ℕ → List ℕ → List (List ℕ)
payloads zero bytes = []
payloads (suc n) bytes = filled (take 184 bytes) ∷ payloads n (drop 184 bytes)

-- How many payloads these bytes take.
abbrev pub payload_count : List ℕ → ℕ
payload_count bytes = (length bytes + 183) / 184

-- The packets that carry these payloads, with counters from this one on modulo 16. Only the first of them may have the
-- start flag. Each payload fills its packet, so none has an adaptation field.
unfoldable pub packets_with : ℕ → ℕ → Bool → List (List ℕ) → List (List ℕ)
packets_with pid counter start [] = []
packets_with pid counter start (payload ∷ later) =
    packet_bytes pid counter start payload ∷ packets_with pid ((counter + 1) % 16) false later

-- What is cut: a pointer_field of 0 stands before the section.
abbrev pub with_pointer : List ℕ → List ℕ
with_pointer section = 0 ∷ section

-- The packets of a section. Only the first has the start flag.
unfoldable pub cut_packets : List ℕ → ℕ → ℕ → List (List ℕ)
cut_packets section pid counter =
    packets_with pid counter true (payloads (payload_count (with_pointer section)) (with_pointer section))

-- A section that is cut packet by packet: the bytes that are not in a packet yet, the pointer_field before the first of
-- them, and the counter of the packet that comes next.
pub record Cutting : Type 0 where
  pub pid : ℕ
  pub counter : ℕ
  -- whether the next packet has the start flag
  pub start : Bool
  pub bytes : List ℕ

-- The next packet has these bytes in front, behind a pointer_field where it has the start flag.
abbrev pub cutting_of : ℕ → ℕ → Bool → List ℕ → Cutting
cutting_of pid counter start rest = record {
  pid = pid;
  counter = counter;
  start = start;
  bytes = if start then 0 ∷ rest else rest;
}

-- The packets that are still to come.
abbrev pub packets_left : Cutting → List (List ℕ)
packets_left c = packets_with c.pid c.counter c.start (payloads (payload_count c.bytes) c.bytes)

-- The counter of the packet that comes after them.
abbrev pub next_counter : List ℕ → ℕ → ℕ
next_counter section counter = (counter + payload_count (with_pointer section)) % 16

-- new begins with old
abbrev pub Begins : List ℕ → List ℕ → Type 0
Begins old new = take (length old) new ≡ old
