-- Sections in the packets of one PID: ISO/IEC 13818-1, 2.4.3.3 (payload_unit_start_indicator, continuity_counter) and
-- 2.4.4 (pointer_field, sections, stuffing).
-- A list of packets holds the usable packets of one PID in the order in which they came. What a start leads to is said
-- of all the packets that come after it.
use Rattle.std.specs.Prelude.{zero, suc, ℕ, ◌+◌, ◌%◌, Bool, true, false, if◌then◌else◌, ◌&&◌}
use Rattle.std.specs.Prelude.{not, ◌==◌, nat_le, List, [], ◌∷◌, ◌++◌, length, take, Option}
use Rattle.std.specs.Prelude.{Some, None}
use Rattle.std.specs.List.{filter, filter_map, slice_range}
use Rattle.std.specs.Str.{bytes_eq}
use Rattle.ts_packet.specs.Packet.{TransportPacket}
use Rattle.section_form.specs.Section.{section_length, section_end, is_right}

-- Whether two flags are equal.
abbrev pub same_flag : Bool → Bool → Bool
same_flag true b = b
same_flag false b = not b

-- Packet q repeats p, the packet of the PID before it: counter, start flag and payload are equal.
unfoldable pub repeats : TransportPacket → TransportPacket → Bool
repeats p q = (q.counter == p.counter) && same_flag q.start p.start && bytes_eq q.payload p.payload

-- The first packet has none before it, and repeats none.
abbrev pub is_repeat : Option TransportPacket → TransportPacket → Bool
is_repeat None q = false
is_repeat (Some p) q = repeats p q

-- The counter of q is that of p plus 1 modulo 16.
unfoldable pub counts_on : TransportPacket → TransportPacket → Bool
counts_on p q = q.counter == (p.counter + 1) % 16

-- The bytes between the pointer_field and the pointed place. They belong to a section that began in an earlier packet.
abbrev pub before_pointed : TransportPacket → List ℕ
before_pointed p = slice_range p.payload 1 p.pointed

-- What the packets after p add to a text that goes on at the end of p. A repeat adds nothing, however many follow. The
-- next packet adds its payload, and the packets after it go on. A next packet with the start flag adds only the bytes
-- before its pointed place, and ends the text. Where the counter does not go on by 1 there is no next packet.
unfoldable pub text_after : TransportPacket → List TransportPacket → List ℕ
text_after p [] = []
text_after p (q ∷ later) =
    if repeats p q then text_after q later
    else if counts_on p q then (if q.start then before_pointed q else q.payload ++ text_after q later)
    else []

-- A whole section stands at the front of a text that has at least 3 bytes and at least 3 + section_length.
unfoldable pub has_section : List ℕ → Bool
has_section text = nat_le 3 (length text) && nat_le (section_end text) (length text)

abbrev pub whole_section : List ℕ → Option (List ℕ)
whole_section text = if has_section text then Some (take (section_end text) text) else None

-- What is left of a packet's payload from each place where a section starts. The first such place is behind the
-- skipped bytes. Each later one is directly after a section that lies wholly in the packet, of which two bytes and
-- section_length more follow its first byte. A byte 0xFF at such a place is stuffing up to the packet's end.
unfoldable pub starts_behind : List ℕ → ℕ → List (List ℕ)
starts_behind [] skipped = []
starts_behind (b ∷ bytes) (suc skipped) = starts_behind bytes skipped
starts_behind (b ∷ bytes) zero =
    if b == 0xFF then []
    else (b ∷ bytes) ∷ (if has_section (b ∷ bytes) then starts_behind bytes (2 + section_length (b ∷ bytes)) else [])

-- The starts of packet p, where `before` is the packet of the PID before it. A packet without the start flag has none,
-- and neither has a repeat.
unfoldable pub starts_in : Option TransportPacket → TransportPacket → List (List ℕ)
starts_in before p = if p.start && not (is_repeat before p) then starts_behind p.payload p.pointed else []

-- The section that is whole in the second text and was not whole in the first.
abbrev pub newly_whole : List ℕ → List ℕ → Option (List ℕ)
newly_whole text longer = if has_section text then None else whole_section longer

-- The whole sections that become complete in packet y, which came after these packets, in the order of their starts:
-- those that start in y and are whole in it, and before them those whose text is not whole up to y and is whole with y.
unfoldable pub complete_in : Option TransportPacket → List TransportPacket → TransportPacket → List (List ℕ)
complete_in before [] y = filter_map whole_section (starts_in before y)
complete_in before (p ∷ later) y =
    filter_map
    (λ rest. newly_whole (rest ++ text_after p later) (rest ++ text_after p (later ++ y ∷ [])))
    (starts_in before p)
    ++ complete_in (Some p) later y

-- The right ones among them, where the list has all packets of a span before y.
unfoldable pub right_in : List TransportPacket → TransportPacket → List (List ℕ)
right_in packets y = filter is_right (complete_in None packets y)
