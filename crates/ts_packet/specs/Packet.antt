-- Transport packets: ISO/IEC 13818-1, 2.4.3.2 (transport packet) and 2.4.3.3 (its fields).
use Rattle.std.specs.Prelude.{zero, suc, ◌≡◌, ℕ, ◌+◌, ◌-◌, ◌*◌, ◌/◌, ◌%◌, ◌<◌, ◌≤◌, Bool, false, if◌then◌else◌, ◌&&◌}
use Rattle.std.specs.Prelude.{◌==◌, nat_lt, nat_le, List, [], ◌∷◌, ◌++◌, length, drop, replicate, slice_index, Option}
use Rattle.std.specs.Prelude.{Some, None, IsTrue}
use Rattle.std.specs.Option.{option_map, option_and_then}
use Rattle.ts_packet.specs.declared.packet.View.{View}

-- What a usable packet carries. pointed is the index in the payload of the first byte behind the pointer_field and
-- the bytes that it points over, or 0 where payload_unit_start_indicator is 0.
pub record TransportPacket : Type 0 where
  pub pid : ℕ
  pub counter : ℕ
  pub start : Bool
  pub pointed : ℕ
  pub payload : List ℕ

-- The fields of the four bytes of the header, and of the byte behind them.
abbrev pub sync_byte : List ℕ → ℕ
sync_byte packet = slice_index packet 0

abbrev pub transport_error_indicator : List ℕ → ℕ
transport_error_indicator packet = slice_index packet 1 / 128

abbrev pub payload_unit_start_indicator : List ℕ → ℕ
payload_unit_start_indicator packet = slice_index packet 1 / 64 % 2

abbrev pub pid_of : List ℕ → ℕ
pid_of packet = slice_index packet 1 % 32 * 256 + slice_index packet 2

abbrev pub transport_scrambling_control : List ℕ → ℕ
transport_scrambling_control packet = slice_index packet 3 / 64

abbrev pub adaptation_field_control : List ℕ → ℕ
adaptation_field_control packet = slice_index packet 3 / 16 % 4

abbrev pub continuity_counter : List ℕ → ℕ
continuity_counter packet = slice_index packet 3 % 16

abbrev pub adaptation_field_length : List ℕ → ℕ
adaptation_field_length packet = slice_index packet 4

abbrev pub starts_unit : List ℕ → Bool
starts_unit packet = payload_unit_start_indicator packet == 1

-- A packet of 188 bytes that came without error and is not scrambled.
unfoldable pub is_intact : List ℕ → Bool
is_intact packet =
    (length packet == 188)
    && (sync_byte packet == 0x47)
    && (transport_error_indicator packet == 0)
    && (transport_scrambling_control packet == 0)

-- The payload, where there is one of at least one byte: behind the header, or behind the adaptation field and its
-- length byte.
unfoldable pub payload_of : List ℕ → Option (List ℕ)
payload_of packet =
    if adaptation_field_control packet == 1 then Some (drop 4 packet)
    else if (adaptation_field_control packet == 3) && nat_le (adaptation_field_length packet) 182
    then Some (drop (5 + adaptation_field_length packet) packet)
    else None

-- The pointer_field is the first byte of a payload. It counts the bytes between itself and the place that it points to.
abbrev pub pointed_place : List ℕ → ℕ
pointed_place payload = 1 + slice_index payload 0

-- The pointed place, which lies inside the payload, or 0 where no section starts in the packet.
unfoldable pub pointed_in : Bool → List ℕ → Option ℕ
pointed_in start payload =
    if start then (if nat_lt (pointed_place payload) (length payload) then Some (pointed_place payload) else None)
    else Some 0

abbrev pub with_payload : List ℕ → List ℕ → ℕ → TransportPacket
with_payload packet payload pointed = record {
  pid = pid_of packet;
  counter = continuity_counter packet;
  start = starts_unit packet;
  pointed = pointed;
  payload = payload;
}

-- What the bytes carry, where they are a usable packet: it is intact, it has a payload, and where a section starts in
-- it the pointer_field points inside the payload.
unfoldable pub usable : List ℕ → Option TransportPacket
usable packet =
    if is_intact packet
    then option_and_then
    (λ payload. option_map (with_payload packet payload) (pointed_in (starts_unit packet) payload))
    (payload_of packet)
    else None

-- What a packet with these fields carries.
abbrev pub packet_of : ℕ → ℕ → Bool → List ℕ → TransportPacket
packet_of pid counter start payload = record {
  pid = pid;
  counter = counter;
  start = start;
  pointed = if start then pointed_place payload else 0;
  payload = payload;
}

-- The ranges of what a usable packet carries.
pub record InRange (packet : TransportPacket) : Type 0 where
  pub counter : packet.counter < 16
  pub some : 1 ≤ length packet.payload
  pub few : length packet.payload ≤ 184
  pub pointed : packet.pointed < length packet.payload
  pub behind_pointer : IsTrue packet.start → 1 ≤ packet.pointed
  pub unpointed : packet.start ≡ false → packet.pointed ≡ 0

-- The flags of an adaptation field, all 0, and stuffing bytes behind them, as many bytes in all as there is room for.
unfoldable pub flags_and_stuffing : ℕ → List ℕ
flags_and_stuffing zero = []
flags_and_stuffing (suc n) = 0 ∷ replicate n 0xFF

-- An adaptation field that takes so many bytes. Its first byte, adaptation_field_length, does not count itself.
unfoldable pub adaptation_field : ℕ → List ℕ
adaptation_field zero = []
adaptation_field (suc n) = n ∷ flags_and_stuffing n

-- The four bytes of the header. adaptation_field_control is 1 for a payload alone, and 3 behind an adaptation field.
abbrev pub header : ℕ → ℕ → Bool → Bool → List ℕ
header pid counter start alone =
    0x47 ∷ ((if start then 64 else 0) + pid / 256) ∷ (pid % 256) ∷ ((if alone then 16 else 48) + counter) ∷ []

-- The packet with this payload. An adaptation field stands before a payload of fewer than 184 bytes.
unfoldable pub packet_bytes : ℕ → ℕ → Bool → List ℕ → List ℕ
packet_bytes pid counter start payload =
    header pid counter start (length payload == 184) ++ adaptation_field (184 - length payload) ++ payload

-- what a View shows, without where its payload lies in memory
abbrev pub shown : View → TransportPacket
shown v = record { pid = v.pid; counter = v.counter; start = v.start; pointed = v.pointed; payload = v.payload.now }
