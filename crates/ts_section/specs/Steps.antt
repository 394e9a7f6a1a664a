-- What one more packet does to the texts that later packets may still add to.
use Rattle.std.specs.Prelude.{ℕ, Bool, true, false, if◌then◌else◌, ◌&&◌, ◌||◌, not, ◌==◌, List, [], ◌∷◌, ◌++◌, map, Option, Some, None}
use Rattle.std.specs.List.{filter, filter_map}
use Rattle.ts_packet.specs.Packet.{TransportPacket}
use Rattle.section_form.specs.Section.{is_right}
use Rattle.ts_section.specs.declared.step.Step.{Step}
use Rattle.ts_section.specs.declared.step.Step.TheVariants.{Repeat, Next, Lost}
use Rattle.ts_section.specs.Sections.{repeats, counts_on, before_pointed, text_after, has_section, whole_section, starts_behind, starts_in}

-- Whether packet y repeats the one before it, is next after it, or neither.
abbrev pub step_to : Option TransportPacket → TransportPacket → Step
step_to None y = Lost
step_to (Some p) y = if repeats p y then Repeat else if counts_on p y then Next else Lost

-- The last of these packets, or the one before them where there are none.
abbrev pub last_from : Option TransportPacket → List TransportPacket → Option TransportPacket
last_from before [] = before
last_from before (p ∷ later) = last_from (Some p) later

-- Whether a packet after these may still add to a text that goes on at the end of p.
unfoldable pub goes_on : TransportPacket → List TransportPacket → Bool
goes_on p [] = true
goes_on p (q ∷ later) = (repeats p q || (counts_on p q && not q.start)) && goes_on q later

-- The texts in which no whole section stands yet.
abbrev pub unfinished : List (List ℕ) → List (List ℕ)
unfinished texts = filter (λ text. not (has_section text)) texts

-- The texts from all starts in these packets that are not whole and that a later packet may still add to.
unfoldable pub open_texts : Option TransportPacket → List TransportPacket → List (List ℕ)
open_texts before [] = []
open_texts before (p ∷ later) =
    (if goes_on p later then unfinished (map (λ rest. rest ++ text_after p later) (starts_in before p)) else [])
    ++ open_texts (Some p) later

-- What a next packet adds to a text.
abbrev pub added_by : TransportPacket → List ℕ
added_by y = if y.start then before_pointed y else y.payload

abbrev pub longer : TransportPacket → List (List ℕ) → List (List ℕ)
longer y texts = map (λ text. text ++ added_by y) texts

-- The starts of a packet that is no repeat.
abbrev pub own_starts : TransportPacket → List (List ℕ)
own_starts y = if y.start then starts_behind y.payload y.pointed else []

-- The texts that are open after y, where these were open before it.
unfoldable pub open_after : Step → List (List ℕ) → TransportPacket → List (List ℕ)
open_after Repeat texts y = texts
open_after Next texts y = (if y.start then [] else unfinished (longer y texts)) ++ unfinished (own_starts y)
open_after Lost texts y = unfinished (own_starts y)

-- The right whole sections of these texts.
unfoldable pub right_of : List (List ℕ) → List (List ℕ)
right_of texts = filter is_right (filter_map whole_section texts)

-- The right whole sections that become complete in y, where these texts were open before it.
unfoldable pub right_after : Step → List (List ℕ) → TransportPacket → List (List ℕ)
right_after Repeat texts y = []
right_after Next texts y = right_of (longer y texts) ++ right_of (own_starts y)
right_after Lost texts y = right_of (own_starts y)

-- A buffer that holds the open text, and nothing where there is none.
abbrev pub as_open : List ℕ → List (List ℕ)
as_open [] = []
as_open (b ∷ bytes) = (b ∷ bytes) ∷ []

-- Whether a section starts at the front of what is left of a packet.
abbrev pub is_start : List ℕ → Bool
is_start [] = false
is_start (b ∷ bytes) = not (b == 0xFF)

-- The text of a section that starts there.
abbrev pub as_start : List ℕ → List (List ℕ)
as_start rest = if is_start rest then rest ∷ [] else []
