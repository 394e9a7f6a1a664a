-- What is staged, as a function of contents.
use Rattle.std.specs.Prelude.{ℕ, ◌+◌, Bool, false, ◌&&◌, ◌||◌, ◌==◌, not, nat_le, List, Option, Some, None, is_some, option_map, if◌then◌else◌}
use Rattle.dsmcc_msg.specs.Control.{DiiFields, dii_message}
use Rattle.flash_layout.specs.Journal.{header_number, message_len}
use Rattle.flash_layout.specs.Pairs.{byte_at, pair_sum, part, word_at}
use Rattle.ssu_group.specs.Refusal.{refusal}
use Rattle.ssu_group.specs.declared.places.Place.{Place}
use Rattle.flash_kept.specs.Counts.{all_below, find_below, some_below}
use Rattle.flash_kept.specs.Held.{message_in}
use Rattle.flash_kept.specs.Lost.{lost_places}
use Rattle.flash_kept.specs.Places.{place_count, place_of}
use Rattle.flash_kept.specs.Slots.{free_slots, is_marked, is_slot_of, is_valid_slot}
use Rattle.flash_kept.specs.SpareArea.{SpareArea, journal_in, slot_bytes}

-- Is the header of a journal valid?
unfoldable pub is_header : List ℕ → Bool
is_header journal =
    all_below (λ i. pair_sum journal i == 255) 16 && (word_at journal 0 == 0x5353554A
    && (nat_le 1 (message_len journal) && (nat_le (message_len journal) 4084
    && (all_below (λ i. byte_at journal (10 + i) == 0) 6 && all_below (λ i. pair_sum journal (128 + i) == 255) (message_len journal)))))

-- Is slot s that of this place, if there is one?
abbrev pub is_slot_at : SpareArea → List ℕ → Option Place → ℕ → Bool
is_slot_at area c None s = false
is_slot_at area c (Some p) s = is_slot_of area c p s

-- Is each valid slot one place of the group, each another one, and none of them marked?
unfoldable pub slots_fit : SpareArea → DiiFields → List ℕ → Bool
slots_fit area dii c =
    all_below (λ s. not (is_valid_slot area c s) || some_below (λ n. is_slot_at area c (place_of dii n) s) (place_count dii)) 16
    && (all_below (λ s. all_below (λ n. not (is_slot_at area c (place_of dii n) s) || not (is_marked area c n)) (place_count dii)) 16
    && all_below (λ s. all_below (λ t. all_below (λ n.
    not (is_slot_at area c (place_of dii n) s && is_slot_at area c (place_of dii n) t) || s == t) (place_count dii)) 16) 16)

-- the DII is usable, and has at most as many places as there are marks
abbrev pub dii_fits : SpareArea → DiiFields → Bool
dii_fits area dii = not (is_some (refusal dii area.bank_len)) && nat_le (place_count dii) area.marks

abbrev pub dii_that_fits : SpareArea → Option DiiFields → Option DiiFields
dii_that_fits area None = None
dii_that_fits area (Some dii) = if dii_fits area dii then Some dii else None

-- the DII of the message that is held
unfoldable pub held_dii : SpareArea → List ℕ → Option DiiFields
held_dii area c =
    if is_header (journal_in area c) && header_number (journal_in area c) == area.next
    then dii_that_fits area (dii_message.of (message_in (journal_in area c))) else None

abbrev pub dii_with_slots : SpareArea → List ℕ → Option DiiFields → Option DiiFields
dii_with_slots area c None = None
dii_with_slots area c (Some dii) = if slots_fit area dii c && nat_le (lost_places area dii c) (free_slots area c) then Some dii else None

-- the DII of the message that is staged
unfoldable pub staged_dii : SpareArea → List ℕ → Option DiiFields
staged_dii area c = dii_with_slots area c (held_dii area c)

abbrev pub place_text : SpareArea → List ℕ → ℕ → Option Place → Option (List ℕ)
place_text area c n None = None
place_text area c n (Some p) =
    if is_marked area c n then Some (part c (area.bank + p.at) p.len)
    else option_map (λ s. part c (slot_bytes area s) p.len) (find_below (is_slot_of area c p) 16)

abbrev pub text_under : SpareArea → List ℕ → Option DiiFields → ℕ → Option (List ℕ)
text_under area c None n = None
text_under area c (Some dii) n = place_text area c n (place_of dii n)

-- the message that is staged
abbrev pub staged_message : SpareArea → List ℕ → Option (List ℕ)
staged_message area c = option_map (λ dii. message_in (journal_in area c)) (staged_dii area c)

-- the bytes of the place numbered n, if it is staged
unfoldable pub staged_bytes : SpareArea → List ℕ → ℕ → Option (List ℕ)
staged_bytes area c n = text_under area c (staged_dii area c) n
